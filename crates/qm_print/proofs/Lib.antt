mod GatherLemmas
mod BelowLemmas
mod BitsLemmas
mod WalkLemmas
mod BranchLemmas
pub mod LineLemmas
mod TurnsLemmas
