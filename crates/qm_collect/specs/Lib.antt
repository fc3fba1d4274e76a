pub mod Table
pub mod Letters
pub mod Laws
pub mod WorkedCollectives
