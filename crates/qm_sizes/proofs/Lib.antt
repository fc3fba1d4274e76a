pub mod Orders
pub mod Squares
pub mod Products
pub mod Signs
pub mod Heavy
pub mod Irrational
pub mod Positive
pub mod OrderLaw
