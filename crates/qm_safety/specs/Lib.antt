pub mod Tables
pub mod Safety
