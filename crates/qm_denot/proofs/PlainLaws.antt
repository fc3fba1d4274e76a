-- What a plain store keeps, and what a letter makes of it
use Rattle.std.proofs.Common.{◌≡◌, ℕ, ◌+◌, ◌^◌, inl, inr, true, false, cond, nat_eq, List, [], ◌∷◌, length, Contains, refl, sym, ap, subst, ◌∙◌, arith, ◌/◌, ◌%◌}
use Rattle.qm_zomega.specs.declared.Zw.{Zw}
use Rattle.qm_zomega.specs.Numbers.{zero_number, root2_times, IsDivisible}
use Rattle.qm_zomega.proofs.Laws.Divisible.{IsDivisible-zero}
use Rattle.qm_denot.specs.declared.Wire.{Wire}
use Rattle.qm_denot.specs.declared.Letter.{Letter}
use Rattle.qm_denot.specs.Wires.{Wires, has, put}
use Rattle.qm_denot.specs.WireLists.{Distinct}
use Rattle.qm_denot.specs.Circuits.{Amplitudes, with_letter, halves_of}
use Rattle.qm_denot.specs.Stores.{live_after}
use Rattle.qm_denot.specs.Places.{index_of, is_within, set_at}
use Rattle.qm_denot.specs.ListStores.{listed_value, listed_store, Does}
use Rattle.qm_zomega.specs.NumberLists.{number_at, AllDivisible, IsReducedList, Reduces}
use Rattle.qm_denot.specs.Sound.{DivisibleOver, Keeps, reduced_where_kept}
use Rattle.qm_denot.proofs.PlaceLaws.{not_within}
use Rattle.qm_denot.proofs.Numerators.{number_past, side}
use Rattle.qm_denot.proofs.LiveWires.{Lacks-from_absent}
use Rattle.qm_denot.proofs.BranchLaws.{listed_value-set_at}
use Rattle.qm_denot.proofs.ReducedLaws.{listed_value-reduced}
use Rattle.qm_denot.proofs.Stores.{stands_after}

-- a set with a wire that is not live has the value zero
listed_value-outside : (live : List Wire) (zs : List Zw) (x : Wires) (w : Wire) → ¬ (Contains live w) → has x w ≡ true → listed_value live zs x ≡ zero_number
listed_value-outside live zs x w dead one = ap (λ b. cond b (number_at zs (index_of live x)) zero_number) (not_within live w x (Lacks-from_absent live w dead) one)

pub value_divisible : (live : List Wire) (zs : List Zw) → AllDivisible zs → (x : Wires) → IsDivisible (listed_value live zs x)
value_divisible live zs all x = elim (is_within x live) as (λ b. IsDivisible (cond b (number_at zs (index_of live x)) zero_number)) [ true ↦ all (index_of live x) | false ↦ IsDivisible-zero ]

pub over_from_all : (ws : List Wire) (f : Amplitudes) → ((x : Wires) → IsDivisible (f x)) → DivisibleOver ws f
over_from_all [] f all = all _
over_from_all (w ∷ ws) f all = (over_from_all ws _ (λ x. all (put x w false)), over_from_all ws _ (λ x. all (put x w true)))

over_set_at : (ws : List Wire) (f : Amplitudes) (k : ℕ) → DivisibleOver ws f → IsDivisible (f (set_at ws k))
unfolding set_at
over_set_at [] f k d = d
over_set_at (w ∷ ws) f k d = elim (nat_eq (k % 2) 1) as (λ b. IsDivisible (f (put (set_at ws (k / 2)) w b))) [
  | true ↦ over_set_at ws (λ x. f (put x w true)) (k / 2) d.1
  | false ↦ over_set_at ws (λ x. f (put x w false)) (k / 2) d.0
]

-- a reduced list of the right size keeps what a plain store has to keep
pub keeps : (live : List Wire) (zs : List Zw) (k : ℕ) → Distinct live → length zs ≡ 2 ^ length live → IsReducedList zs k → Keeps live zs k
keeps live zs k distinct size reduced = record {
  distinct = distinct;
  blank = λ w dead x one. listed_value-outside live zs x w dead one;
  reduced = λ some over. reduced some (λ i. elim (side zs i) [
    | inl near ↦ subst IsDivisible (listed_value-set_at live zs i distinct (omega arith)) (over_set_at live (listed_value live zs) i over)
    | inr past ↦ subst IsDivisible (sym (number_past zs i past)) IsDivisible-zero
  ]);
}

pub reduced_list : (live : List Wire) (zs : List Zw) (k : ℕ) → Keeps live zs k → IsReducedList zs k
reduced_list live zs k kept = λ some all. kept.reduced some (over_from_all live (listed_value live zs) (value_divisible live zs all))

-- numbers that are those which the letter made, reduced
pub does_letter : (l : Letter) (n : ℕ) (live live2 : List Wire) (k m : ℕ) (zs made new : List Zw)
    → Keeps live2 new m → live2 ≡ live_after l live → Reduces made (k + halves_of l) new m
    → ((x : Wires) → listed_value live2 made x ≡ with_letter l (listed_value live zs) x)
    → Does l (listed_store n live k zs) (listed_store n live2 m new)
does_letter l n live live2 k m zs made new kept lives reduces letter = record {
  stands = λ c stood. stands_after (listed_store n live k zs) (listed_store n live2 m new) c l stood
      (λ x. listed_value-reduced made new (k + halves_of l) m reduces live2 x ∙ ap (root2_times m) (letter x))
      (reduced_where_kept live2 new m kept)
      (λ x w dead one. kept.blank w dead x one);
  live = lives;
  capacity = refl;
}
