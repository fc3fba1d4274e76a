-- Tests that are both true
use Rattle.std.proofs.Common.{◌↔◌, true, false, Bool, ◌&&◌, IsTrue, refl}
use Rattle.std.proofs.lemmas.Bool.{false≢true}

pub both_true : (p q : Bool) → IsTrue (p && q) ↔ (IsTrue p × IsTrue q)
both_true true q = ((λ h. (refl, h)), (λ h. h.1))
both_true false q = ((λ h. absurd (false≢true h)), (λ h. absurd (false≢true h.0)))
