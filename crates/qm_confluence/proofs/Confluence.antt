-- The order in which the ranks of an ideal run step doesn't matter: what a step does, what it sees, and how two steps change places
pub mod Effects
pub mod ByView
pub mod Helpers
mod LaneEnds
mod Persists
pub mod IdealWires
mod TablesSwap
pub mod OnePlace
mod Placing
pub mod WellIdeal
pub mod LetterWires
pub mod Diamond
pub mod Confluent
pub mod ProperLetters
pub mod NamedWires
pub mod Placeless
pub mod GoneWires
pub mod GoodLetters
pub mod SameSteps
pub mod Told
pub mod Drawn
pub mod DrawnAhead
