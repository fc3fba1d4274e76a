-- The place of a wire in a list, as the code looks for it
use Rattle.std.proofs.Common.{◌≡◌, ◌∙◌, ◌<◌, ℕ, ◌+◌, true, false, cond, not, List, [], ◌∷◌, length, drop, filter, Some, refl, sym, ap, slice_index_or, suc, arith, drop-cons}
use Rattle.qm_denot.specs.declared.Wire.{Wire}
use Rattle.qm_denot.specs.Wires.{is_wire}
use Rattle.qm_owner.specs.declared.Place.{Place}
use Rattle.qm_owner.specs.Places.{place_of, without}
use Rattle.qm_denot.proofs.WireTests.{code_wire, code_wire-is_wire, cond_not}

-- ---- the search
next : (es : List (Wire × Place)) (i : ℕ) (d : Wire × Place) (w : Wire) → i < length es
    → place_of (drop i es) w ≡ cond (is_wire (slice_index_or es i d).0 w) (Some (slice_index_or es i d).1) (place_of (drop (i + 1) es) w)
next es i d w below =
    let longer : i + 1 ≡ suc i = omega arith in
    ap (λ xs. place_of xs w) (drop-cons es i d below)
    ∙ ap (λ k. cond (is_wire (slice_index_or es i d).0 w) (Some (slice_index_or es i d).1) (place_of (drop k es) w)) (sym longer)

-- a wire that the next entry has
pub found : (es : List (Wire × Place)) (i : ℕ) (d : Wire × Place) (w : Wire) → i < length es
    → code_wire (slice_index_or es i d).0 w ≡ true
    → Some (slice_index_or es i d).1 ≡ place_of (drop i es) w
found es i d w below here =
    sym (next es i d w below
    ∙ ap (λ b. cond b (Some (slice_index_or es i d).1) (place_of (drop (i + 1) es) w)) (sym (code_wire-is_wire (slice_index_or es i d).0 w) ∙ here))

-- a wire that the next entry doesn't have
pub passed : (es : List (Wire × Place)) (i : ℕ) (d : Wire × Place) (w : Wire) → i < length es
    → code_wire (slice_index_or es i d).0 w ≡ false
    → place_of (drop i es) w ≡ place_of (drop (i + 1) es) w
passed es i d w below apart =
    next es i d w below
    ∙ ap (λ b. cond b (Some (slice_index_or es i d).1) (place_of (drop (i + 1) es) w)) (sym (code_wire-is_wire (slice_index_or es i d).0 w) ∙ apart)

-- the entries of other wires
pub without-filter : (es : List (Wire × Place)) (w : Wire)
    → filter (λ e. not (code_wire e.0 w)) es ≡ without es w
without-filter [] w = refl
without-filter (e ∷ es) w =
    let rest = filter (λ e. not (code_wire e.0 w)) es in
    cond_not (code_wire e.0 w) (e ∷ rest) rest
    ∙ ap (λ b. cond b rest (e ∷ rest)) (code_wire-is_wire e.0 w)
    ∙ ap (λ xs. cond (is_wire e.0 w) xs (e ∷ xs)) (without-filter es w)
