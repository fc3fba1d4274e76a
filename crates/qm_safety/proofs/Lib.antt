pub mod Tables
mod Safety
pub mod Laws
