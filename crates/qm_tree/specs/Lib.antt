pub mod Trees
pub mod Letters
pub mod Laws
pub mod WorkedTrees
