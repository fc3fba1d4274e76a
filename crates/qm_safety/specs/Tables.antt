-- The tables of a run at all times
pub mod Lines
pub mod Well
pub mod Rooms
