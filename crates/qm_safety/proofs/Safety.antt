-- The laws of what is safe in every state of every legal schedule
pub mod Mayings
pub mod Operands
pub mod Halves
pub mod OwnWires
pub mod Blanks
pub mod States
