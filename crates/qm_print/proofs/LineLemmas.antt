-- A state text has an amplitude line where some number isn't zero, and the numbers are zero wherever a wire that is in no full slot is one
use Rattle.std.proofs.Common.{◌≡◌, ◌≢◌, ◌+◌, ◌≤◌, ◌⊎◌, inl, inr, Bool, true, false, cond, if◌then◌else◌, List, [], ◌∷◌, refl, sym, ap, subst, ◌∙◌, arith}
use Rattle.qm_zomega.specs.Numbers.{zero_number}
use Rattle.qm_denot.specs.declared.Wire.{Wire}
use Rattle.qm_denot.specs.Circuits.{Amplitudes, IsBlankIn}
use Rattle.qm_denot.specs.Wires.{Wires, is_wire, has, put, no_wires}
use Rattle.qm_denot.proofs.Sets.{same_wires, same_from_is, is_wire_itself, has-put, has-no_wires}
use Rattle.qm_print.specs.declared.Live.{Live}
use Rattle.qm_print.specs.StateText.{is_zero_number, branch_count, line_count}
use Rattle.qm_print.proofs.BranchLemmas.{Decides-is_zero_number}

-- the wire is in one of the slots
abbrev pub IsAmong : List Live → Wire → Type 0
IsAmong [] w = ⊥
IsAmong (s ∷ ss) w = (s.wire ≡ w) ⊎ IsAmong ss w

module _ (u : Amplitudes) (x : Wires) (some : u x ≢ zero_number) where
  -- the branch agrees with x but for wires of these slots, and has no wire that x doesn't have
  record LeadsTo (y : Wires) (ss : List Live) : Type 0 where
    elsewhere : (v : Wire) → ¬ IsAmong ss v → has y v ≡ has x v
    within : (v : Wire) → has y v ≡ true → has x v ≡ true

  one_there : (y : Wires) → LeadsTo y [] → 1 ≤ branch_count u y []
  one_there y h = by_bool (is_zero_number (u y)) refl
    where
      by_bool : (b : Bool) → is_zero_number (u y) ≡ b → 1 ≤ (if b then 0 else 1)
      by_bool true e =
          let same : y ≡ x = same_wires y x (λ v. h.elsewhere v (λ n. n)) in
          absurd (some (subst (λ z. u z ≡ zero_number) same ((Decides-is_zero_number (u y)).0 e)))
      by_bool false e = omega arith

  module _ (y : Wires) (s : Live) (ss : List Live) (h : LeadsTo y (s ∷ ss)) where
    -- a wire that isn't the slot's
    other : (v : Wire) → is_wire v s.wire ≡ false → ¬ IsAmong ss v → ¬ IsAmong (s ∷ ss) v
    other v e out (inl same) = let itself : is_wire v s.wire ≡ true = subst (λ w. is_wire v w ≡ true) (sym same) (is_wire_itself v) in absurd (let n : ⊥ = cc in n)
    other v e out (inr there) = out there

    through_one : has x s.wire ≡ true → LeadsTo (put y s.wire true) ss
    through_one one = record {
      elsewhere = λ v out. has-put y s.wire true v ∙ by_bool v out (is_wire v s.wire) refl;
      within = λ v e. back v (is_wire v s.wire) refl (sym (has-put y s.wire true v) ∙ e);
    }
      where
        by_bool : (v : Wire) → ¬ IsAmong ss v → (b : Bool) → is_wire v s.wire ≡ b → cond b true (has y v) ≡ has x v
        by_bool v out true e = sym (ap (has x) (same_from_is v s.wire e) ∙ one)
        by_bool v out false e = h.elsewhere v (other v e out)

        back : (v : Wire) (b : Bool) → is_wire v s.wire ≡ b → cond b true (has y v) ≡ true → has x v ≡ true
        back v true e is = ap (has x) (same_from_is v s.wire e) ∙ one
        back v false e is = h.within v is

    through_zero : has x s.wire ≡ false → LeadsTo y ss
    through_zero zero = record { elsewhere = λ v out. by_bool v out (is_wire v s.wire) refl; within = h.within }
      where
        not_in : (b : Bool) → has y s.wire ≡ b → b ≡ false
        not_in true e = sym (h.within s.wire e) ∙ zero
        not_in false e = refl

        by_bool : (v : Wire) → ¬ IsAmong ss v → (b : Bool) → is_wire v s.wire ≡ b → has y v ≡ has x v
        by_bool v out true e =
            let same = same_from_is v s.wire e in
            ap (has y) same ∙ not_in (has y s.wire) refl ∙ sym (ap (has x) same ∙ zero)
        by_bool v out false e = h.elsewhere v (other v e out)

  some_branch : (ss : List Live) (y : Wires) → LeadsTo y ss → 1 ≤ branch_count u y ss
  some_branch [] y h = one_there y h
  some_branch (s ∷ ss) y h =
      by_bool (λ e. some_branch ss (put y s.wire true) (through_one y s ss h e)) (λ e. some_branch ss y (through_zero y s ss h e)) (has x s.wire) refl
    where
      by_bool : (has x s.wire ≡ true → 1 ≤ branch_count u (put y s.wire true) ss) → (has x s.wire ≡ false → 1 ≤ branch_count u y ss)
          → (b : Bool) → has x s.wire ≡ b → 1 ≤ branch_count u y ss + branch_count u (put y s.wire true) ss
      by_bool one none true e = let some = one e in omega (arith, some)
      by_bool one none false e = let some = none e in omega (arith, some)

  pub some_line : (live : List Live) → ((w : Wire) → ¬ IsAmong live w → IsBlankIn u w) → 1 ≤ line_count u live
  some_line live blank =
      some_branch live no_wires (record {
        elsewhere = λ v out. has-no_wires v ∙ sym (unlike v out (has x v) refl);
        within = λ v e. let none = has-no_wires v in absurd (let n : ⊥ = cc in n);
      })
    where
      unlike : (v : Wire) → ¬ IsAmong live v → (b : Bool) → has x v ≡ b → b ≡ false
      unlike v out true e = absurd (some (blank v out x e))
      unlike v out false e = refl
