mod ListLemmas
mod LiveLemmas
pub mod RoomLemmas
mod StepLemmas
mod RunLemmas
mod EndLemmas
mod OverflowLemmas
mod LetterLemmas
mod CircuitLemmas
