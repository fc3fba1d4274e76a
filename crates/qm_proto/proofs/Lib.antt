mod Messages
pub mod Meetings
pub mod WorkedRuns
mod Unreducing
pub mod Firsts
mod WorkedWaits
mod WorkedGates
mod WorkedTurns
pub mod ActLists
pub mod Replays
pub mod IdealRuns
pub mod Changes
pub mod TidyPlaces
pub mod TidyChanges
pub mod TidyLanes
pub mod TidyActs
pub mod Positions
pub mod Lines
pub mod Sums
pub mod Counting
