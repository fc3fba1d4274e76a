pub mod Plays
pub mod Laws
pub mod Played
pub mod Workers
