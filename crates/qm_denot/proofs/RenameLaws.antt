-- A wire that is renamed: the list keeps its order, and every number its index
use Rattle.std.proofs.Common.{◌≡◌, ◌≢◌, ℕ, zero, suc, ◌+◌, ◌^◌, Contains, Bool, true, false, cond, List, [], ◌∷◌, length, set, refl, sym, ap, subst, ◌∙◌, arith}
use Rattle.qm_zomega.specs.declared.Zw.{Zw}
use Rattle.qm_zomega.specs.Numbers.{zero_number}
use Rattle.qm_denot.specs.declared.Wire.{Wire}
use Rattle.qm_denot.specs.declared.Letter.TheVariants.{Rename}
use Rattle.qm_denot.specs.Wires.{Wires, has, put, is_empty, is_wire}
use Rattle.qm_denot.specs.WireLists.{Lacks, Distinct, with_renamed}
use Rattle.qm_denot.specs.Circuits.{with_letter}
use Rattle.qm_denot.specs.Places.{index_of, without, is_within, IsFirstAt}
use Rattle.qm_denot.specs.ListStores.{listed_value, listed_store, Does}
use Rattle.qm_denot.specs.Sound.{Keeps}
use Rattle.qm_denot.proofs.Sets.{has-put_same, has-put_other, put_twice, put_swap, put_has, is_wire_itself, is_wire_other}
use Rattle.qm_denot.proofs.NameLists.{not_sym}
use Rattle.qm_denot.proofs.PlaceLaws.{index-put_lacks, not_within}
use Rattle.qm_denot.proofs.LiveWires.{Lacks-from_absent}
use Rattle.qm_denot.proofs.ReducedLaws.{Reduces-itself}
use Rattle.qm_denot.proofs.PlainLaws.{keeps, reduced_list, does_letter}

-- ---- the list with the new name
with_renamed-lacking : (ws : List Wire) (a b : Wire) → Lacks ws a → with_renamed ws a b ≡ ws
with_renamed-lacking [] a b l = refl
with_renamed-lacking (v ∷ ws) a b l = let e = is_wire_other v a l.0 in let r = with_renamed-lacking ws a b l.1 in rw (e, r) refl

with_renamed-first : (v : Wire) (ws : List Wire) (a b : Wire) → Lacks ws v → v ≡ a → with_renamed (v ∷ ws) a b ≡ b ∷ ws
with_renamed-first v ws a b l e =
    subst (λ u. with_renamed (v ∷ ws) u b ≡ b ∷ ws) e (let i = is_wire_itself v in rw i (ap (λ us. b ∷ us) (with_renamed-lacking ws v b l)))

with_renamed-later : (v : Wire) (ws : List Wire) (a b : Wire) → v ≢ a → with_renamed (v ∷ ws) a b ≡ v ∷ with_renamed ws a b
with_renamed-later v ws a b ne = let e = is_wire_other v a ne in rw e refl

-- writing the new name at the wire's place renames the wire
pub set-place : (ws : List Wire) (p : ℕ) (a b : Wire) → Distinct ws → IsFirstAt ws p a → set ws p b ≡ with_renamed ws a b
set-place [] p a b d at = absurd at
set-place (v ∷ ws) zero a b d at = sym (with_renamed-first v ws a b d.0 at)
set-place (v ∷ ws) (suc p) a b d at = ap (λ us. v ∷ us) (set-place ws p a b d.1 at.1) ∙ sym (with_renamed-later v ws a b at.0)

pub length-renamed : (ws : List Wire) (a b : Wire) → length (with_renamed ws a b) ≡ length ws
length-renamed [] a b = refl
length-renamed (v ∷ ws) a b = ap suc (length-renamed ws a b)

lacks_renamed : (ws : List Wire) (a b u : Wire) → Lacks ws u → b ≢ u → Lacks (with_renamed ws a b) u
lacks_renamed [] a b u l ne = tt
lacks_renamed (v ∷ ws) a b u l ne = (elim (is_wire v a) as (λ t. cond t b v ≢ u) [ true ↦ ne | false ↦ l.0 ], lacks_renamed ws a b u l.1 ne)

-- the renamed list has each wire once
pub distinct_renamed : (ws : List Wire) (p : ℕ) (a b : Wire) → Distinct ws → IsFirstAt ws p a → Lacks ws b → Distinct (with_renamed ws a b)
distinct_renamed [] p a b d at l = tt
distinct_renamed (v ∷ ws) zero a b d at l = subst Distinct (sym (with_renamed-first v ws a b d.0 at)) (l.1, d.1)
distinct_renamed (v ∷ ws) (suc p) a b d at l =
    subst Distinct (sym (with_renamed-later v ws a b at.0)) (lacks_renamed ws a b v d.0 (not_sym l.0), distinct_renamed ws p a b d.1 at.1 l.1)

-- the old name is gone
lacks_old : (ws : List Wire) (p : ℕ) (a b : Wire) → Distinct ws → IsFirstAt ws p a → b ≢ a → Lacks (with_renamed ws a b) a
lacks_old [] p a b d at ne = absurd at
lacks_old (v ∷ ws) zero a b d at ne = subst (λ us. Lacks us a) (sym (with_renamed-first v ws a b d.0 at)) (ne, subst (Lacks ws) at d.0)
lacks_old (v ∷ ws) (suc p) a b d at ne = subst (λ us. Lacks us a) (sym (with_renamed-later v ws a b at.0)) (at.0, lacks_old ws p a b d.1 at.1 ne)

-- ---- the index, and what lies within
-- x by the old name
abbrev renamed_back : Wires → Wire → Wire → Wires
renamed_back x a b = put (put x a (has x b)) b false

index-renamed : (ws : List Wire) (p : ℕ) (a b : Wire) (x : Wires) → Distinct ws → IsFirstAt ws p a → Lacks ws b → a ≢ b
    → index_of (with_renamed ws a b) x ≡ index_of ws (renamed_back x a b)
index-renamed [] p a b x d at l ne = absurd at
index-renamed (v ∷ ws) zero a b x d at l ne =
    let y = put x a (has x b) in
    let h : has (put y b false) v ≡ has x b = has-put_other y b false v l.0 ∙ subst (λ u. has y u ≡ has x b) (sym at) (has-put_same x a (has x b)) in
    let r : index_of ws (put y b false) ≡ index_of ws x = index-put_lacks ws b y false l.1 ∙ index-put_lacks ws a x (has x b) (subst (Lacks ws) at d.0) in
    ap (λ us. index_of us x) (with_renamed-first v ws a b d.0 at) ∙ rw (h, r) refl
index-renamed (v ∷ ws) (suc p) a b x d at l ne =
    let h : has (renamed_back x a b) v ≡ has x v = has-put_other (put x a (has x b)) b false v l.0 ∙ has-put_other x a (has x b) v at.0 in
    let r = index-renamed ws p a b x d.1 at.1 l.1 ne in
    ap (λ us. index_of us x) (with_renamed-later v ws a b at.0) ∙ rw (h, ← r) refl

without-renamed : (ws : List Wire) (p : ℕ) (a b : Wire) (x : Wires) → Distinct ws → IsFirstAt ws p a → Lacks ws b → a ≢ b → has x a ≡ false
    → without x (with_renamed ws a b) ≡ without (renamed_back x a b) ws
without-renamed [] p a b x d at l ne none = absurd at
without-renamed (v ∷ ws) zero a b x d at l ne none =
    let y = put x a (has x b) in
    let back : put (put y b false) a false ≡ put x b false =
    ap (λ z. put z a false) (put_swap x a b (has x b) false ne) ∙ put_twice (put x b false) a (has x b) false
    ∙ put_has (put x b false) a false (has-put_other x b false a ne ∙ none) in
    ap (without x) (with_renamed-first v ws a b d.0 at) ∙ ap (λ z. without z ws) (sym back ∙ ap (λ u. put (put y b false) u false) (sym at))
without-renamed (v ∷ ws) (suc p) a b x d at l ne none =
    let h : has (put x v false) b ≡ has x b = has-put_other x v false b (not_sym l.0) in
    let swapped : put (renamed_back x a b) v false ≡ renamed_back (put x v false) a b =
    put_swap (put x a (has x b)) b v false false (not_sym l.0)
    ∙ ap (λ z. put z b false) (put_swap x a v (has x b) false (not_sym at.0) ∙ ap (put (put x v false) a) (sym h)) in
    ap (without x) (with_renamed-later v ws a b at.0)
    ∙ without-renamed ws p a b (put x v false) d.1 at.1 l.1 ne (has-put_other x v false a (not_sym at.0) ∙ none)
    ∙ ap (λ z. without z ws) (sym swapped)

-- the numbers after `Rename`
value_renamed : (ws : List Wire) (p : ℕ) (a b : Wire) (zs : List Zw) → Distinct ws → IsFirstAt ws p a → Lacks ws b → a ≢ b
    → (x : Wires) → listed_value (with_renamed ws a b) zs x ≡ with_letter (Rename a b) (listed_value ws zs) x
value_renamed ws p a b zs d at l ne x = by_bit (has x a) refl
  where
    live : List Wire
    live = with_renamed ws a b

    by_bit : (t : Bool) → has x a ≡ t → listed_value live zs x ≡ cond t zero_number (listed_value ws zs (renamed_back x a b))
    by_bit true one = let e = not_within live a x (lacks_old ws p a b d at (not_sym ne)) one in rw e refl
    by_bit false none =
        let within : is_within x live ≡ is_within (renamed_back x a b) ws = ap is_empty (without-renamed ws p a b x d at l ne none) in
        let index : index_of live x ≡ index_of ws (renamed_back x a b) = index-renamed ws p a b x d at l ne in
        rw (within, index) refl

-- ---- what the store keeps
module _ (live : List Wire) (p : ℕ) (a b : Wire) (k : ℕ) (zs : List Zw) (kept : Keeps live zs k) (size : length zs ≡ 2 ^ length live)
    (at : IsFirstAt live p a) (there : Contains live a) (absent : ¬ (Contains live b)) where
  differ : a ≢ b
  differ e = absent (subst (Contains live) e there)

  lacking : Lacks live b
  lacking = Lacks-from_absent live b absent

  written : set live p b ≡ with_renamed live a b
  written = set-place live p a b kept.distinct at

  pub keeps_renamed : Keeps (set live p b) zs k
  keeps_renamed = subst (λ ws. Keeps ws zs k) (sym written)
      (keeps (with_renamed live a b) zs k (distinct_renamed live p a b kept.distinct at lacking)
      (size ∙ ap (λ n. 2 ^ n) (sym (length-renamed live a b))) (reduced_list live zs k kept))

  pub does_renamed : (n : ℕ) → Does (Rename a b) (listed_store n live k zs) (listed_store n (set live p b) k zs)
  does_renamed n =
      let none : k + 0 ≡ k = omega arith in
      does_letter (Rename a b) n live (set live p b) k k zs zs zs keeps_renamed written (rw none (Reduces-itself zs k (reduced_list live zs k kept)))
      (λ x. ap (λ ws. listed_value ws zs x) written ∙ value_renamed live p a b zs kept.distinct at lacking differ x)
