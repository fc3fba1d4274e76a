pub mod Drain
pub mod Ends
pub mod Intake
pub mod MemSink
pub mod MemSource
pub mod StdEnds
pub mod SureSource
