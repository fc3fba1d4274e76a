-- What is so of the tables of a run at all times
pub mod NextEvents
pub mod RankSteps
mod RankShapes
pub mod LaneSteps
pub mod LaneShapes
pub mod FarSteps
mod FarShapes
mod HandShapes
mod TidyShapes
mod HeldCounts
pub mod Standing
mod Rooms
pub mod Mays
pub mod EventRooms
pub mod Stages
