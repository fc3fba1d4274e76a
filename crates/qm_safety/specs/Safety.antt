-- What is safe in every state of every legal schedule
pub mod Legal
pub mod Operands
pub mod Wires
pub mod Halves
pub mod States
