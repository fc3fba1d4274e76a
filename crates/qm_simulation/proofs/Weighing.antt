-- The weight of the circuit of a legal schedule
pub mod Measured
pub mod IdealWeights
pub mod Pushes
pub mod Besides
pub mod Weights
pub mod Exponents
