mod Tables
pub mod Meetings
mod CircuitLaws
