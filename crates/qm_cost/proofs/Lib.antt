mod LaneLemmas
mod Turning
mod Keeping
mod Choosing
mod Passing
mod Reported
mod Reporting
pub mod Existing
mod Stepping
mod Ending
mod Working
