-- Collectives of three ranks with the root in the middle, that were worked out by hand
use Rattle.std.specs.Prelude.{◌≡◌, ℕ, ◌+◌, false, List, [], ◌∷◌}
use Rattle.qm_denot.specs.declared.Wire.{Wire}
use Rattle.qm_denot.specs.declared.Letter.{Letter}
use Rattle.qm_denot.specs.declared.Letter.TheVariants.{Cx, Take, Rename}
use Rattle.qm_collect.specs.declared.Collective.{Collective}
use Rattle.qm_collect.specs.declared.Collective.TheVariants.{Bcast, Unbcast, Scatter, Gather, Unscatter, Ungather, Reduce, Unreduce}
use Rattle.qm_collect.specs.Letters.{Wiring, collective_letters}

-- the wire in slot q of rank r, and the one that rank r makes for rank d
abbrev pub held : ℕ → ℕ → Wire
held r q = record { rank = r; made = q; near = false }

abbrev pub made : ℕ → ℕ → Wire
made r d = record { rank = r; made = 20 + d; near = false }

-- what each rank has in its slots, and what it sends
abbrev pub wiring : Wiring
wiring = record { slot = held; sent = made }

-- the letters of a collective that all three ranks call alike
abbrev pub letters : Collective → List Letter
letters which = collective_letters wiring 3 1 (λ r. which)

-- the letters of each collective
pub record WorkedCollectives : Type 0 where
  pub bcast : letters (Bcast 4 1 9) ≡ Cx (held 1 4) (made 1 0) ∷ Cx (held 1 4) (made 1 2) ∷ []
  pub unbcast : letters (Unbcast 4 1 9)
      ≡ Cx (held 1 4) (held 0 4) ∷ Take (held 0 4) false ∷ Cx (held 1 4) (held 2 4) ∷ Take (held 2 4) false ∷ []
  pub scatter : letters (Scatter 4 1 9) ≡ Rename (held 1 4) (made 1 0) ∷ Rename (held 1 6) (made 1 2) ∷ []
  pub gather : letters (Gather 4 1 9) ≡ Rename (held 0 4) (made 0 1) ∷ Rename (held 2 4) (made 2 1) ∷ []
  pub unscatter : letters (Unscatter 4 1 9) ≡ Rename (held 0 4) (made 0 1) ∷ Rename (held 2 4) (made 2 1) ∷ []
  pub ungather : letters (Ungather 4 1 9) ≡ Rename (held 1 4) (made 1 0) ∷ Rename (held 1 6) (made 1 2) ∷ []
  pub reduce : letters (Reduce 4 5 1 9) ≡ Cx (held 1 4) (held 1 5) ∷ Cx (held 0 4) (held 1 5) ∷ Cx (held 2 4) (held 1 5) ∷ []
  pub unreduce : letters (Unreduce 4 5 1 9) ≡ Cx (held 1 4) (held 1 5) ∷ Cx (held 0 4) (held 1 5) ∷ Cx (held 2 4) (held 1 5) ∷ []
