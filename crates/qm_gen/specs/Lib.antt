pub mod Outcomes
pub mod Sizes
pub mod Made
pub mod Laws
