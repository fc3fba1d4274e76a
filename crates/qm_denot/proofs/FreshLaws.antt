-- A store at its start, and a new wire at the list's end: it has the highest place, and no number is new
use Rattle.std.proofs.Common.{◌≡◌, ℕ, suc, ◌+◌, ◌*◌, ◌^◌, Bool, true, false, cond, List, [], ◌∷◌, ◌++◌, length, Contains, inl, refl, sym, ap, subst, ◌∙◌, arith, length-append}
use mathlib.Core.Path.{fun_ext}
use Rattle.std.proofs.lemmas.List.Elements.{Contains-append_left}
use Rattle.std.proofs.Math.Nat.{pow-suc}
use Rattle.qm_zomega.specs.declared.Zw.{Zw}
use Rattle.qm_zomega.specs.Numbers.{Number, zero_number, one_number, IsDivisible}
use Rattle.qm_zomega.specs.Zw.{value_of}
use Rattle.qm_denot.specs.declared.Wire.{Wire}
use Rattle.qm_denot.specs.Wires.{Wires, has, put, is_empty}
use Rattle.qm_denot.specs.WireLists.{Lacks}
use Rattle.qm_denot.specs.Circuits.{Amplitudes, Circuit, amp}
use Rattle.qm_denot.specs.Stores.{StandsFor, IsReducedForm}
use Rattle.qm_denot.specs.Places.{bit_of, index_of, without, is_within}
use Rattle.qm_denot.specs.ListStores.{listed_value, listed_store}
use Rattle.qm_zomega.specs.NumberLists.{number_at}
use Rattle.qm_denot.specs.Sound.{Keeps}
use Rattle.qm_denot.proofs.Sets.{put_has, not_empty}
use Rattle.qm_denot.proofs.PlaceLaws.{not_within, has-without}
use Rattle.qm_denot.proofs.Numerators.{number_past, items-pushed}
use Rattle.qm_denot.proofs.LiveWires.{Lacks-from_absent, Distinct-push}
use Rattle.qm_denot.proofs.PlainLaws.{keeps, reduced_list}

-- ---- the start
stands_start : (n : ℕ) (z : Zw) → value_of z ≡ one_number → StandsFor (listed_store n [] 0 (z ∷ [])) []
unfolding amp
stands_start n z one = record {
  form = record { equal = λ x. ap (λ y. cond (is_empty x) y zero_number) one; reduced = inl refl };
  blank = λ w dead x h. ap (λ b. cond b one_number zero_number) (not_empty x w h);
}

-- the store whose list of live wires is empty, and whose list of numerators was empty before one was pushed
module _ (ws : List Wire) (r : Bool) (xs zs : List Zw) (z : Zw) (none : ws ≡ []) (pushed : zs ≡ cond r (xs ++ z ∷ []) xs) (ok : r ≡ true) (empty : xs ≡ []) where
  one : zs ≡ z ∷ []
  one = items-pushed r xs zs z pushed ok ∙ ap (λ ys. ys ++ z ∷ []) empty

  pub size_at_start : length zs ≡ 2 ^ length ws
  size_at_start = ap length one ∙ sym (ap (λ vs. 2 ^ length vs) none)

  pub stands_at_start : (n : ℕ) → value_of z ≡ one_number → StandsFor (listed_store n ws 0 zs) []
  stands_at_start n is = subst (λ ys. StandsFor (listed_store n ws 0 ys) []) (sym one) (subst (λ vs. StandsFor (listed_store n vs 0 (z ∷ [])) []) (sym none) (stands_start n z is))

  pub keeps_at_start : Keeps ws zs 0
  keeps_at_start = subst (λ ys. Keeps ws ys 0) (sym one) (subst (λ vs. Keeps vs (z ∷ []) 0) (sym none) (keeps [] (z ∷ []) 0 tt refl (λ some. absurd (some refl))))

-- ---- a new wire
without-push : (ws : List Wire) (w : Wire) (x : Wires) → without x (ws ++ w ∷ []) ≡ put (without x ws) w false
without-push [] w x = refl
without-push (v ∷ ws) w x = without-push ws w (put x v false)

index-push : (ws : List Wire) (w : Wire) (x : Wires) → index_of (ws ++ w ∷ []) x ≡ index_of ws x + bit_of (has x w) * 2 ^ length ws
index-push [] w x = omega arith
index-push (v ∷ ws) w x = step (has x w) (index-push ws w x)
  where
    step : (b : Bool) → index_of (ws ++ w ∷ []) x ≡ index_of ws x + bit_of b * 2 ^ length ws
        → bit_of (has x v) + 2 * index_of (ws ++ w ∷ []) x ≡ bit_of (has x v) + 2 * index_of ws x + bit_of b * 2 ^ suc (length ws)
    step true r = let e = pow-suc 2 (length ws) in omega arith
    step false r = omega arith

-- where the new wire is zero, the index is as before, and so is what lies within
pub index-push_zero : (ws : List Wire) (w : Wire) (x : Wires) → has x w ≡ false → index_of (ws ++ w ∷ []) x ≡ index_of ws x
index-push_zero ws w x none = let at = rw none at (index-push ws w x) in omega arith

pub within-push_zero : (ws : List Wire) (w : Wire) (x : Wires) → Lacks ws w → has x w ≡ false → is_within x (ws ++ w ∷ []) ≡ is_within x ws
within-push_zero ws w x l none = ap is_empty (without-push ws w x ∙ put_has (without x ws) w false (has-without ws w x l ∙ none))

zero_inside : (b : Bool) (z : Number) → z ≡ zero_number → cond b z zero_number ≡ zero_number
zero_inside true z e = e
zero_inside false z e = refl

module _ (live : List Wire) (w : Wire) (zs new : List Zw) (k : ℕ) (kept : Keeps live zs k) (size : length zs ≡ 2 ^ length live) (absent : ¬ (Contains live w))
    (doubled : length new ≡ 2 * length zs) (numbers : (i : ℕ) → number_at new i ≡ number_at zs i) where
  lacked : Lacks live w
  lacked = Lacks-from_absent live w absent

  value_fresh : (x : Wires) (b : Bool) → has x w ≡ b → listed_value (live ++ w ∷ []) new x ≡ listed_value live zs x
  value_fresh x true one =
      let at = rw one at (index-push live w x) in
      let past : number_at zs (index_of (live ++ w ∷ []) x) ≡ zero_number = number_past zs (index_of (live ++ w ∷ []) x) (omega arith) in
      zero_inside (is_within x (live ++ w ∷ [])) _ (numbers (index_of (live ++ w ∷ []) x) ∙ past)
      ∙ sym (ap (λ b. cond b (number_at zs (index_of live x)) zero_number) (not_within live w x lacked one))
  value_fresh x false none =
      let same_index = index-push_zero live w x none in
      let same_within = within-push_zero live w x lacked none in
      ap (λ b. cond b (number_at new (index_of (live ++ w ∷ []) x)) zero_number) same_within
      ∙ ap (λ z. cond (is_within x live) z zero_number) (numbers (index_of (live ++ w ∷ []) x) ∙ ap (number_at zs) same_index)

  pub stands_fresh : (n : ℕ) (c : Circuit) → StandsFor (listed_store n live k zs) c → StandsFor (listed_store n (live ++ w ∷ []) k new) c
  stands_fresh n c stood =
      let same : listed_value live zs ≡ listed_value (live ++ w ∷ []) new = fun_ext (λ x. sym (value_fresh x (has x w) refl)) in
      record { form = subst (λ (f : Amplitudes). IsReducedForm f k c) same stood.form; blank = λ v dead. stood.blank v (λ h. dead (Contains-append_left live (w ∷ []) v h)) }

  pub size_fresh : length new ≡ 2 ^ length (live ++ w ∷ [])
  size_fresh = let more : length (live ++ w ∷ []) ≡ suc (length live) = omega (arith, length-append live (w ∷ [])) in rw more (omega (arith, pow-suc 2 (length live)))

  pub keeps_fresh : Keeps (live ++ w ∷ []) new k
  keeps_fresh = keeps (live ++ w ∷ []) new k (Distinct-push live w kept.distinct lacked) size_fresh
      (λ some all. reduced_list live zs k kept some (λ i. subst IsDivisible (numbers i) (all i)))
