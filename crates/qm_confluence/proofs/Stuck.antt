-- One rank by itself tells what any run has put on lanes and taken from them. So complete runs leave the lanes empty, and none gets stuck
-- where the rendezvous run ends
pub mod Shapes
mod Alone
mod LaneFits
mod Tracks
mod LaneCounts
pub mod Rendezvous
pub mod Emptied
pub mod Meetings
