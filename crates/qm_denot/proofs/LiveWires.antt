-- Lists of live wires: what they contain, where a wire stands, and indices of sets of them
use Rattle.std.proofs.Common.{◌≡◌, ◌≢◌, ℕ, zero, suc, ◌+◌, ◌<◌, true, false, List, [], ◌∷◌, ◌++◌, length, take, get_or, Contains, refl, sym, ap, subst, ◌∙◌, arith}
use Rattle.std.proofs.lemmas.List.{take_more}
use Rattle.qm_denot.specs.declared.Wire.{Wire}
use Rattle.qm_denot.specs.Wires.{Wires, no_wires, put, is_empty}
use Rattle.qm_denot.specs.WireLists.{Lacks, Distinct, with_wires, wires_of}
use Rattle.qm_denot.specs.Places.{index_of, set_place, without, is_within, IsFirstAt}
use Rattle.qm_denot.proofs.Sets.{put_has, has-no_wires, is_empty-no_wires}
use Rattle.qm_denot.proofs.PlaceLaws.{index-put, within-put}

Contains-first : (ws : List Wire) (v : Wire) → Contains (v ∷ ws) v
Contains-first ws v = (0, omega arith, refl)

Contains-rest : (ws : List Wire) (v w : Wire) → Contains ws w → Contains (v ∷ ws) w
Contains-rest ws v w h = (suc h.0, omega arith, h.2)

-- a list lacks what it does not contain
pub Lacks-from_absent : (ws : List Wire) (w : Wire) → ¬ (Contains ws w) → Lacks ws w
Lacks-from_absent [] w none = tt
Lacks-from_absent (v ∷ ws) w none =
    ((λ e. none (subst (Contains (v ∷ ws)) e (Contains-first ws v))), Lacks-from_absent ws w (λ h. none (Contains-rest ws v w h)))

-- and does not contain what it lacks
pub absent_where_lacked : (ws : List Wire) (w : Wire) → Lacks ws w → ¬ (Contains ws w)
absent_where_lacked [] w l (k, below, _) = absurd (omega arith)
absent_where_lacked (v ∷ ws) w l (zero, below, is) = l.0 is
absent_where_lacked (v ∷ ws) w l (suc k, below, is) = absent_where_lacked ws w l.1 (k, omega arith, is)

pub Lacks-push : (ws : List Wire) (v w : Wire) → Lacks ws w → v ≢ w → Lacks (ws ++ v ∷ []) w
Lacks-push [] v w l ne = (ne, tt)
Lacks-push (u ∷ ws) v w l ne = (l.0, Lacks-push ws v w l.1 ne)

pub Distinct-push : (ws : List Wire) (w : Wire) → Distinct ws → Lacks ws w → Distinct (ws ++ w ∷ [])
Distinct-push [] w d l = (tt, tt)
Distinct-push (v ∷ ws) w d l = (Lacks-push ws w v d.0 (λ e. l.0 (sym e)), Distinct-push ws w d.1 l.1)

-- where a wire was looked for in vain before p and found at p, there it stands first
pub first_at : (ws : List Wire) (p : ℕ) (w d : Wire) → p < length ws → Lacks (take p ws) w → get_or ws p d ≡ w → IsFirstAt ws p w
first_at [] p w d h l e = absurd (omega arith)
first_at (v ∷ ws) zero w d h l e = e
first_at (v ∷ ws) (suc p) w d h l e = (l.0, first_at ws p w d (omega arith) l.1 e)

-- k is the index of x, and x lies within the list
pub record IndexSoFar (live : List Wire) (x : Wires) (k : ℕ) : Type 0 where
  pub value : k ≡ index_of live x
  pub within : is_within x live ≡ true

pub with_wires-push : (ws : List Wire) (w : Wire) (x : Wires) → with_wires (ws ++ w ∷ []) x ≡ put (with_wires ws x) w true
with_wires-push [] w x = refl
with_wires-push (v ∷ ws) w x = with_wires-push ws w (put x v true)

without-no_wires : (ws : List Wire) → without no_wires ws ≡ no_wires
without-no_wires [] = refl
without-no_wires (w ∷ ws) = ap (λ x. without x ws) (put_has no_wires w false (has-no_wires w)) ∙ without-no_wires ws

index-no_wires : (ws : List Wire) → index_of ws no_wires ≡ 0
index-no_wires [] = refl
index-no_wires (w ∷ ws) = rw (has-no_wires w, index-no_wires ws) refl

-- the empty set has the index 0
pub index_none : (live : List Wire) → IndexSoFar live no_wires 0
index_none live = record { value = sym (index-no_wires live); within = ap is_empty (without-no_wires live) ∙ is_empty-no_wires }

-- one more wire sets one more bit
pub index_more : (live ones : List Wire) (i k p : ℕ) (d : Wire) → Distinct live → IsFirstAt live p (get_or ones i d) → i < length ones
    → IndexSoFar live (wires_of (take i ones)) k → IndexSoFar live (wires_of (take (i + 1) ones)) (set_place p true k)
index_more live ones i k p d distinct at below so_far =
    let w = get_or ones i d in
    let x = wires_of (take i ones) in
    let more : wires_of (take (i + 1) ones) ≡ put x w true = ap wires_of (take_more ones i d below) ∙ with_wires-push (take i ones) w no_wires in
    rw more (record { value = ap (set_place p true) so_far.value ∙ sym (index-put live p w x true distinct at); within = within-put live p w x true at ∙ so_far.within })
