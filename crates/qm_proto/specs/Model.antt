-- The model of a run: its state, the table of the events, which events may happen, and which schedules are legal
pub mod State
pub mod Acts
pub mod Rows
pub mod Runs
pub mod Schedules
pub mod Totals
pub mod Places
pub mod Tidy
pub mod Ideal
pub mod Orders
