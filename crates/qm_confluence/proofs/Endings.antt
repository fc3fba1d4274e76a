-- Runs that take the lowest rank that may go on: each ends
pub mod Lowest
pub mod IdealRuns
pub mod Tests
pub mod FirstRuns
pub mod Completing
