mod Around
mod Turning
mod Playing
pub mod Orders
pub mod Existing
mod Mapped
mod TakingTurns
mod Leaving
mod Finishing
mod NewPasses
