pub mod Chains
pub mod Turns
pub mod Reports
pub mod Books
pub mod Longest
pub mod Ways
pub mod Tellings
pub mod Worked
