mod Places
mod Counts
mod Copying
pub mod Messages
mod TreeLaws
