-- Answers that are None exactly where something fails
use Rattle.std.proofs.Common.{◌≡◌, Option, None, IsSome, ◌↔◌, true, false}

false_is_not_true : false ≡ true → ⊥
false_is_not_true h = cc

-- a call that answers None where P fails
pub none_where_not : {T : Type 0} (r : Option T) (P : Type 0) → r ≡ None → (P → ⊥) → IsSome r ↔ P
none_where_not r P e n = rw e ((λ h. absurd (false_is_not_true h)), (λ p. absurd (n p)))
