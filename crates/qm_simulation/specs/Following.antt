-- What ties a run to its ideal run: deciding events, what the ideal machine sees, what messages owe, and the theorem
pub mod Deciding
pub mod Seen
pub mod Debts
pub mod Follows
pub mod Complete
pub mod Simulation
pub mod Owing
