pub mod Bytes
pub mod Pieces
pub mod Lexing
pub mod Spans
pub mod Values
