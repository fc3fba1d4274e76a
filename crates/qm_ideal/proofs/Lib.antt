mod LaneLemmas
mod TableLemmas
mod ActLemmas
mod TapeLemmas
mod WritingLemmas
mod DrawnLemmas
mod OneRunLemmas
mod SmallActs
mod WidthLemmas
mod WireTests
mod NumberLemmas
mod OneCircuitLemmas
mod DrawnCircuits
mod RoomLemmas
pub mod RunBounds
mod MeetingWork
pub mod MeetingLemmas
mod ShapeLemmas
mod MeetingRuns
