-- The weight of the circuit of a legal schedule
pub mod Weights
pub mod Exponents
