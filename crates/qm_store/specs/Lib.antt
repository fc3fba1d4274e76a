pub mod Numerators
