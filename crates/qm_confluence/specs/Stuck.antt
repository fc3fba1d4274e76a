-- Which programs never get stuck, and what complete schedules leave on the lanes
pub mod NeverStuck
pub mod LanesEmpty
pub mod Rendezvous
pub mod Shapes
