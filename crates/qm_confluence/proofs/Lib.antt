pub mod Endings
pub mod Stuck
pub mod Confluence
pub mod Tapes
mod CollectiveLetters
mod WorkedOrders
