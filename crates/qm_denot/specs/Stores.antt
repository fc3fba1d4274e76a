-- What a store of amplitudes contains, which circuits it stands for, and what a letter makes of it
use Rattle.std.specs.Prelude.{◌≡◌, ◌≢◌, ℕ, ◌+◌, ◌-◌, ◌<◌, ◌≤◌, ◌^◌, ◌⊎◌, true, false, List, [], ◌∷◌, ◌++◌, length, Contains}
use Rattle.qm_zomega.specs.Numbers.{◌⊕◌, ◌⊖◌, root2_times, IsDivisible}
use Rattle.qm_zomega.specs.Range.{FitsZw}
use Rattle.qm_denot.specs.declared.Wire.{Wire}
use Rattle.qm_denot.specs.declared.Letter.{Letter}
use Rattle.qm_denot.specs.declared.Letter.TheVariants.{Phase, Flip, Had, Cx, Cz, Pair, Keep, Take, Rename}
use Rattle.qm_denot.specs.Wires.{Wires, has, put}
use Rattle.qm_denot.specs.WireLists.{Distinct, without_wire, with_renamed}
use Rattle.qm_denot.specs.Circuits.{Circuit, Amplitudes, amp, halvings, IsBlank, IsBlankIn}

-- a capacity, the live wires in the order in which they became live, an exponent, and a number for each set of wires
pub record Store : Type 0 where
  pub capacity : ℕ
  pub live : List Wire
  pub exponent : ℕ
  pub value : Amplitudes

-- numbers over root2^k are reduced: k is 0, or root2 does not divide some number
abbrev pub IsReduced : Amplitudes → ℕ → Type 0
IsReduced f k = (k ≡ 0) ⊎ ((x : Wires) × ¬ (IsDivisible (f x)))

-- f over root2^k is the reduced form of C. (So f is zero at each set with a wire that C's letters do not name)
pub record IsReducedForm (f : Amplitudes) (k : ℕ) (c : Circuit) : Type 0 where
  pub equal : (x : Wires) → root2_times (halvings c) (f x) ≡ root2_times k (amp c x)
  pub reduced : IsReduced f k

-- the store stands for C: it has C's reduced form, and each wire that is not live is blank in C
pub record StandsFor (s : Store) (c : Circuit) : Type 0 where
  pub form : IsReducedForm s.value s.exponent c
  pub blank : (w : Wire) → ¬ (Contains s.live w) → IsBlank c w

-- what every store keeps: each live wire once, no more of them than the capacity, numbers that are zero wherever a wire that is not
-- live is one, and a reduced form
pub record IsSound (s : Store) : Type 0 where
  pub distinct : Distinct s.live
  pub few : length s.live ≤ s.capacity
  pub blank : (w : Wire) → ¬ (Contains s.live w) → IsBlankIn s.value w
  pub reduced : IsReduced s.value s.exponent

-- the exponent can grow by one
abbrev pub MayGrow : Store → Type 0
MayGrow s = s.exponent < 2 ^ 64 - 1

-- the letter may be applied to the store
abbrev pub MayApply : Letter → Store → Type 0
MayApply (Phase k w) s = (k < 8) × Contains s.live w
MayApply (Flip w) s = Contains s.live w
MayApply (Had w) s = Contains s.live w × MayGrow s
MayApply (Cx c t) s = Contains s.live c × Contains s.live t × (c ≢ t)
MayApply (Cz c t) s = Contains s.live c × Contains s.live t × (c ≢ t)
MayApply (Pair a b) s = (¬ (Contains s.live a)) × (¬ (Contains s.live b)) × (a ≢ b) × (length s.live + 2 ≤ s.capacity) × MayGrow s
MayApply (Keep w m) s = Contains s.live w
MayApply (Take w m) s = Contains s.live w
MayApply (Rename a b) s = Contains s.live a × (¬ (Contains s.live b))

-- the live wires after the letter: a pair's wires come last, a wire that is taken goes, a renamed one keeps its place
abbrev pub live_after : Letter → List Wire → List Wire
live_after (Phase k w) ws = ws
live_after (Flip w) ws = ws
live_after (Had w) ws = ws
live_after (Cx c t) ws = ws
live_after (Cz c t) ws = ws
live_after (Pair a b) ws = ws ++ a ∷ b ∷ []
live_after (Keep w m) ws = ws
live_after (Take w m) ws = without_wire ws w
live_after (Rename a b) ws = with_renamed ws a b

-- a component of the unreduced result of `Had` on w leaves the range
abbrev pub LeavesRange : Amplitudes → Wire → Type 0
LeavesRange f w = (x : Wires) × (has x w ≡ false) × (¬ (FitsZw (f x ⊕ f (put x w true)) × FitsZw (f x ⊖ f (put x w true))))

-- the letter is a `Had`, and a component of its unreduced result leaves the range
abbrev pub Overflows : Letter → Store → Type 0
Overflows (Had w) s = LeavesRange s.value w
Overflows (Phase k w) s = ⊥
Overflows (Flip w) s = ⊥
Overflows (Cx c t) s = ⊥
Overflows (Cz c t) s = ⊥
Overflows (Pair a b) s = ⊥
Overflows (Keep w m) s = ⊥
Overflows (Take w m) s = ⊥
Overflows (Rename a b) s = ⊥
