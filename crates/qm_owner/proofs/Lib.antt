mod Searching
pub mod Placing
mod Table
mod Keeping
pub mod Standing
