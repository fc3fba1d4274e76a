pub mod Overflows
pub mod Holding
pub mod Laws
pub mod Live
