pub mod Following
pub mod WorkedProgress
pub mod Weighing
pub mod Headline
pub mod Outcomes
