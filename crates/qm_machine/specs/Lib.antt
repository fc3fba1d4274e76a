pub mod Facts
pub mod Views
pub mod Reads
pub mod Tries
pub mod Keeps
pub mod Halting
