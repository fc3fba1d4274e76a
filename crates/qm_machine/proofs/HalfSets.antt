-- Halves in lists as sets
use Rattle.std.proofs.Common.{◌≡◌, ◌∙◌, ◌⊎◌, inl, inr, zero, suc, Bool, true, false, List, [], ◌∷◌, ◌++◌, Contains, refl, sym, ap, subst, arith}
use Rattle.qm_denot.specs.declared.Wire.{Wire}
use Rattle.qm_denot.specs.Wires.{Wires, is_wire, has, put, no_wires}
use Rattle.qm_denot.specs.WireLists.{without_wire, with_wires, wires_of}
use Rattle.qm_denot.proofs.LiveWires.{with_wires-push}
use Rattle.qm_denot.proofs.NameLists.{other_from_is}
use Rattle.qm_denot.proofs.Sets.{same_from_is, put_twice, put_swap, put_has, has-no_wires}
use Rattle.qm_proto.proofs.Changes.{by_test}
use Rattle.qm_proto.proofs.TidyPlaces.{has_cases, has_more, has_new}

-- what is not so is false
pub false_unless : (b : Bool) → ¬ (b ≡ true) → b ≡ false
false_unless true never = absurd (never refl)
false_unless false never = refl

-- one wire more
pub wires_of-push : (ws : List Wire) (w : Wire) → wires_of (ws ++ w ∷ []) ≡ put (wires_of ws) w true
wires_of-push ws w = with_wires-push ws w no_wires

-- one wire less
with_wires-without : (ws : List Wire) (w : Wire) (x : Wires) → with_wires (without_wire ws w) (put x w false) ≡ put (with_wires ws x) w false
with_wires-without [] w x = refl
with_wires-without (v ∷ ws) w x =
    let rest = with_wires-without ws w (put x v true) in
    by_test (λ us. with_wires us (put x w false) ≡ put (with_wires ws (put x v true)) w false) (is_wire v w) (without_wire ws w) (v ∷ without_wire ws w)
    (λ e.
    let here : put (put x v true) w false ≡ put x w false = ap (λ u. put (put x u true) w false) (same_from_is v w e) ∙ put_twice x w true false in
    ap (with_wires (without_wire ws w)) (sym here) ∙ rest)
    (λ e. ap (with_wires (without_wire ws w)) (sym (put_swap x v w true false (other_from_is v w e))) ∙ rest)

pub wires_of-without : (ws : List Wire) (w : Wire) → wires_of (without_wire ws w) ≡ put (wires_of ws) w false
wires_of-without ws w =
    ap (with_wires (without_wire ws w)) (sym (put_has no_wires w false (has-no_wires w))) ∙ with_wires-without ws w no_wires

-- the set has no other wires than the list
contained_or_before : (ws : List Wire) (x : Wires) (w : Wire) → has (with_wires ws x) w ≡ true → Contains ws w ⊎ (has x w ≡ true)
contained_or_before [] x w h = inr h
contained_or_before (v ∷ ws) x w h = elim (contained_or_before ws (put x v true) w h) [
  | inl (k, below, is) ↦ inl (suc k, omega arith, is)
  | inr put ↦ elim (has_cases x v w put) [ inl old ↦ inr old | inr same ↦ inl (zero, omega arith, sym same) ]
]

pub contained : (ws : List Wire) (w : Wire) → has (wires_of ws) w ≡ true → Contains ws w
contained ws w h = elim (contained_or_before ws no_wires w h) [ inl c ↦ c | inr none ↦ absurd (let e = has-no_wires w in let n : ⊥ = cc in n) ]

-- and all of them
still_has : (ws : List Wire) (x : Wires) (w : Wire) → has x w ≡ true → has (with_wires ws x) w ≡ true
still_has [] x w h = h
still_has (v ∷ ws) x w h = still_has ws (put x v true) w (has_more x v w h)

has_listed : (ws : List Wire) (x : Wires) (w : Wire) → Contains ws w → has (with_wires ws x) w ≡ true
has_listed [] x w (k, below, is) = absurd (omega arith)
has_listed (v ∷ ws) x w (zero, below, is) = still_has ws (put x v true) w (subst (λ u. has (put x v true) u ≡ true) is (has_new x v))
has_listed (v ∷ ws) x w (suc k, below, is) = has_listed ws (put x v true) w (k, omega arith, is)

pub has_where_contained : (ws : List Wire) (w : Wire) → Contains ws w → has (wires_of ws) w ≡ true
has_where_contained ws w h = has_listed ws no_wires w h
