-- A wire that is taken: its place goes out of the index, and the higher places move down
use Rattle.std.proofs.Common.{◌≡◌, ◌≢◌, ℕ, zero, suc, ◌+◌, ◌*◌, ◌/◌, ◌<◌, ◌^◌, Bool, true, false, cond, List, [], ◌∷◌, length, refl, sym, ap, subst, ◌∙◌, arith}
use Rattle.std.proofs.Math.Nat.{pow-suc}
use Rattle.std.specs.List.{remove}
use Rattle.qm_zomega.specs.declared.Zw.{Zw}
use Rattle.qm_zomega.specs.Numbers.{zero_number}
use Rattle.qm_denot.specs.declared.Wire.{Wire}
use Rattle.qm_denot.specs.declared.Letter.TheVariants.{Take}
use Rattle.qm_denot.specs.Wires.{Wires, has, put, is_empty}
use Rattle.qm_denot.specs.WireLists.{Lacks, Distinct, without_wire}
use Rattle.qm_denot.specs.Circuits.{with_letter}
use Rattle.qm_denot.specs.Places.{insert_place, index_of, without, is_within, IsFirstAt}
use Rattle.qm_denot.specs.ListStores.{listed_value, listed_store, Does}
use Rattle.qm_denot.specs.LettersByPlace.{take_at}
use Rattle.qm_zomega.specs.NumberLists.{number_at, IsListOf, Reduces}
use Rattle.qm_denot.specs.Sound.{Keeps}
use Rattle.qm_denot.proofs.Sets.{has-put_same, has-put_other, put_twice, put_swap, put_has, is_wire_itself, is_wire_other}
use Rattle.qm_denot.proofs.NameLists.{not_sym, without_wire-lacked, Lacks-without_wire_itself, Distinct-without_wire}
use Rattle.qm_denot.proofs.PlaceLaws.{index-put_lacks, half_bit, rest_bit, not_within, index_below}
use Rattle.qm_denot.proofs.PlainLaws.{keeps, does_letter}

-- ---- the list without the wire
without_wire-first : (v : Wire) (ws : List Wire) (w : Wire) → Lacks ws v → v ≡ w → without_wire (v ∷ ws) w ≡ ws
without_wire-first v ws w l e = subst (λ u. without_wire (v ∷ ws) u ≡ ws) e (let i = is_wire_itself v in rw i (without_wire-lacked ws v l))

without_wire-later : (v : Wire) (ws : List Wire) (w : Wire) → v ≢ w → without_wire (v ∷ ws) w ≡ v ∷ without_wire ws w
without_wire-later v ws w ne = let e = is_wire_other v w ne in rw e refl

-- removing the wire's place removes the wire
pub remove-place : (ws : List Wire) (p : ℕ) (w : Wire) → Distinct ws → IsFirstAt ws p w → remove ws p ≡ without_wire ws w
remove-place [] p w d at = absurd at
remove-place (v ∷ ws) zero w d at = sym (without_wire-first v ws w d.0 at)
remove-place (v ∷ ws) (suc p) w d at = ap (λ us. v ∷ us) (remove-place ws p w d.1 at.1) ∙ sym (without_wire-later v ws w at.0)

pub length-taken : (ws : List Wire) (p : ℕ) (w : Wire) → Distinct ws → IsFirstAt ws p w → suc (length (without_wire ws w)) ≡ length ws
length-taken [] p w d at = absurd at
length-taken (v ∷ ws) zero w d at = ap (λ us. suc (length us)) (without_wire-first v ws w d.0 at)
length-taken (v ∷ ws) (suc p) w d at = ap (λ us. suc (length us)) (without_wire-later v ws w at.0) ∙ ap suc (length-taken ws p w d.1 at.1)

-- ---- the index, and what lies within
-- the taken wire's bit is put into the index of the other wires
index-taken : (ws : List Wire) (p : ℕ) (w : Wire) (x : Wires) (m : Bool) → Distinct ws → IsFirstAt ws p w
    → index_of ws (put x w m) ≡ insert_place p m (index_of (without_wire ws w) x)
index-taken [] p w x m d at = absurd at
index-taken (v ∷ ws) zero w x m d at =
    let h : has (put x w m) v ≡ m = subst (λ u. has (put x w m) u ≡ m) (sym at) (has-put_same x w m) in
    let r : index_of ws (put x w m) ≡ index_of ws x = index-put_lacks ws w x m (subst (Lacks ws) at d.0) in
    rw (h, r, without_wire-first v ws w d.0 at) refl
index-taken (v ∷ ws) (suc p) w x m d at =
    let h : has (put x w m) v ≡ has x v = has-put_other x w m v at.0 in
    let r = index-taken ws p w x m d.1 at.1 in
    rw (h, r, without_wire-later v ws w at.0, half_bit (has x v) (index_of (without_wire ws w) x), rest_bit (has x v) (index_of (without_wire ws w) x)) refl

-- where the wire is zero, the same is left without it
without-taken : (ws : List Wire) (p : ℕ) (w : Wire) (x : Wires) (m : Bool) → Distinct ws → IsFirstAt ws p w → has x w ≡ false
    → without (put x w m) ws ≡ without x (without_wire ws w)
without-taken [] p w x m d at none = absurd at
without-taken (v ∷ ws) zero w x m d at none =
    subst (λ u. without (put (put x w m) u false) ws ≡ without x ws) (sym at) (ap (λ y. without y ws) (put_twice x w m false ∙ put_has x w false none))
    ∙ ap (without x) (sym (without_wire-first v ws w d.0 at))
without-taken (v ∷ ws) (suc p) w x m d at none =
    ap (λ y. without y ws) (put_swap x w v m false (not_sym at.0))
    ∙ without-taken ws p w (put x v false) m d.1 at.1 (has-put_other x v false w (not_sym at.0) ∙ none)
    ∙ ap (without x) (sym (without_wire-later v ws w at.0))

-- the numbers after `Take`
value_taken : (ws : List Wire) (p : ℕ) (w : Wire) (m : Bool) (old new : List Zw) → Distinct ws → IsFirstAt ws p w
    → ((k : ℕ) → k < 2 ^ length (without_wire ws w) → number_at new k ≡ take_at p m (number_at old) k)
    → (x : Wires) → listed_value (without_wire ws w) new x ≡ with_letter (Take w m) (listed_value ws old) x
value_taken ws p w m old new d at made x = by_bit (has x w) refl
  where
    live : List Wire
    live = without_wire ws w

    by_bit : (b : Bool) → has x w ≡ b → listed_value live new x ≡ cond b zero_number (listed_value ws old (put x w m))
    by_bit true one = let e = not_within live w x (Lacks-without_wire_itself ws w) one in rw e refl
    by_bit false none =
        let within : is_within (put x w m) ws ≡ is_within x live = ap is_empty (without-taken ws p w x m d at none) in
        let number : number_at new (index_of live x) ≡ number_at old (index_of ws (put x w m)) =
        made (index_of live x) (index_below live x) ∙ ap (number_at old) (sym (index-taken ws p w x m d at)) in
        rw (within, number) refl

-- ---- what the store keeps
module _ (live : List Wire) (p : ℕ) (w : Wire) (m : Bool) (k j : ℕ) (zs made new : List Zw) (kept : Keeps live zs k) (size : length zs ≡ 2 ^ length live)
    (at : IsFirstAt live p w) (done : IsListOf made (length zs / 2) (take_at p m (number_at zs))) (reduces : Reduces made k new j) where
  removed : remove live p ≡ without_wire live w
  removed = remove-place live p w kept.distinct at

  one_less : suc (length (remove live p)) ≡ length live
  one_less = ap (λ ws. suc (length ws)) removed ∙ length-taken live p w kept.distinct at

  pub size_taken : length new ≡ 2 ^ length (remove live p)
  size_taken =
      let double : length zs ≡ 2 ^ length (remove live p) * 2 = size ∙ ap (λ n. 2 ^ n) (sym one_less) ∙ pow-suc 2 (length (remove live p)) in
      let half : length new ≡ length zs / 2 = reduces.size ∙ done.size in
      omega arith

  pub keeps_taken : Keeps (remove live p) new j
  keeps_taken = keeps (remove live p) new j (subst Distinct (sym removed) (Distinct-without_wire live w kept.distinct)) size_taken reduces.reduced

  pub does_taken : (n : ℕ) → Does (Take w m) (listed_store n live k zs) (listed_store n (remove live p) j new)
  does_taken n =
      let none : k + 0 ≡ k = omega arith in
      does_letter (Take w m) n live (remove live p) k j zs made new keeps_taken removed (rw none reduces)
      (λ x. ap (λ ws. listed_value ws made x) removed
      ∙ value_taken live p w m zs made kept.distinct at
      (λ i h. done.numbers i (let e = size_taken in let s = reduces.size in let t = done.size in let r : length (remove live p) ≡ length (without_wire live w) = ap length removed in rw (← t, ← s, e, r) h)) x)
