pub mod Bits
pub mod Counts
pub mod Lanes
pub mod Operands
pub mod Programs
