-- What other crates cite of the laws of this one
pub use Rattle.qm_simulation.proofs.Following.Simulating.{simulation_law}
pub use Rattle.qm_simulation.proofs.Following.Leftover.{leftover_blank}
pub use Rattle.qm_simulation.proofs.Weighing.Weights.{weight_law}
pub use Rattle.qm_simulation.proofs.Weighing.Exponents.{exponent_law}
pub use Rattle.qm_simulation.proofs.Headline.{headline_law}
pub use Rattle.qm_simulation.proofs.Possible.{possible_law}
pub use Rattle.qm_simulation.proofs.Tapes.{tapes_law}
