-- What other crates cite of the laws of this one
pub use Rattle.qm_safety.proofs.Safety.States.{safe}
