-- `Had` on a list of numbers, and the reduced form of what it makes
use Rattle.std.specs.Prelude.{◌≡◌, ℕ, ◌+◌, ◌-◌, ◌<◌, ◌≤◌, List, length}
use Rattle.qm_zomega.specs.Numbers.{Number, root2_times}
use Rattle.qm_zomega.specs.NumberLists.{meant_at, AreReduced}
use Rattle.qm_denot.specs.LettersByPlace.{had_at}

-- entries with this meaning: new over root2^m is what `Had` at place p makes of old, over root2^(k + 1), reduced
pub record HadReduces {A : Type 0} (meaning : A → Number) (p : ℕ) (old : List A) (k : ℕ) (new : List A) (m : ℕ) : Type 0 where
  pub size : length new ≡ length old
  pub lower : m ≤ k + 1
  pub same : (i : ℕ) → i < length old → root2_times (k + 1 - m) (meant_at meaning new i) ≡ had_at p (meant_at meaning old) i
  pub reduced : AreReduced (meant_at meaning new) m
