pub mod Firsts
mod LaneLemmas
pub mod Sites
pub mod PostLanes
pub mod Faultless
pub mod SlotLemmas
mod TallyLemmas
mod TapeLemmas
pub mod TotalLemmas
pub mod FirstFaults
