-- Runs that take the lowest rank that may go on: there is one, there is no other, and it ends
pub mod IdealRuns
pub mod FirstRuns
pub mod Completing
