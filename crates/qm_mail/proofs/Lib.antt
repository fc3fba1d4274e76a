mod Shown
mod Fronts
mod Filling
mod Starting
pub mod Lanes
