mod Following
mod WorkedProgress
mod Weighing
mod Headline
mod Possible
mod Tapes
pub mod Laws
