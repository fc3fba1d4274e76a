-- A change of one count, seen in the buffers of the ranks that there are
use Rattle.std.proofs.Common.{◌≡◌, ◌∙◌, ℕ, ◌<◌, nat_eq, true, false, cond, List, [], ◌∷◌, zero, suc, length, map, take, slice_set, refl, sym, ap, subst, arith}
use Rattle.std.proofs.lemmas.Bool.{eqb-true, eq-eqb}
use Rattle.std.proofs.lemmas.List.{get_or-take, length-take, get_or-set_same, get_or-set_other}
use Rattle.std.proofs.Math.ListN.{get_or-map}
use Rattle.std.proofs.Math.Seq.{take-set-lt}
use Rattle.qm_buffers.specs.declared.Buffer.{Buffer}
use Rattle.qm_buffers.specs.Halves.{empty_buffer, buffer_at, with_held}

-- a buffer with a number that isn't 0, as an empty one's is, is in the list
pub in_list : (f : Buffer → ℕ) → f (empty_buffer 0) ≡ 0 → (bs : List Buffer) (r : ℕ)
    → 0 < f (buffer_at bs r) → r < length bs
in_list f none [] r some = absurd (omega (arith, some, none))
in_list f none (b ∷ bs) zero some = omega arith
in_list f none (b ∷ bs) (suc r) some = let before : r < length bs = in_list f none bs r some in omega arith

-- so it is among the first n buffers where the list is these
pub below : (f : Buffer → ℕ) → f (empty_buffer 0) ≡ 0 → (bs now : List Buffer) (n r : ℕ)
    → take n bs ≡ now → 0 < f (buffer_at now r) → r < n
below f none bs now n r is some =
    let listed : r < length (take n bs) = subst (λ xs. r < length xs) (sym is) (in_list f none now r some) in
    omega (arith, length-take n bs)

-- the first n buffers where the count of rank r has changed
pub changed : (bs now : List Buffer) (n i r : ℕ) (f : ℕ → ℕ) → take n bs ≡ now → i ≡ r → r < n
    → take n (slice_set bs i (record (buffer_at bs i) { held = f (buffer_at bs i).held })) ≡ with_held now r (f (buffer_at now r).held)
changed bs now n i r f is same few =
    let new : Buffer → Buffer = λ b. record b { held = f b.held } in
    let read : buffer_at bs r ≡ buffer_at now r = sym (get_or-take n bs r (empty_buffer 0) few) ∙ ap (λ xs. buffer_at xs r) is in
    ap (λ k. take n (slice_set bs k (new (buffer_at bs k)))) same
    ∙ take-set-lt n bs r (new (buffer_at bs r)) few
    ∙ ap (λ xs. slice_set xs r (new (buffer_at bs r))) is
    ∙ ap (λ (b : Buffer). slice_set now r (new b)) read

-- ---- other counts
-- the count of one rank changes, and no size
pub held_with : (bs : List Buffer) (r n k : ℕ) → r < length bs
    → (buffer_at (with_held bs r n) k).held ≡ cond (nat_eq k r) n (buffer_at bs k).held
held_with bs r n k below =
    let new : Buffer = record (buffer_at bs r) { held = n } in
    elim (nat_eq k r) as (λ b. nat_eq k r ≡ b → (buffer_at (with_held bs r n) k).held ≡ cond b n (buffer_at bs k).held) [
      | true ↦ λ e.
          ap (λ j. (buffer_at (with_held bs r n) j).held) (eqb-true k r e)
          ∙ ap (λ (b : Buffer). b.held) (get_or-set_same bs r new (empty_buffer 0) below)
      | false ↦ λ e. ap (λ (b : Buffer). b.held)
          (get_or-set_other bs r k new (empty_buffer 0) (λ same. let h : nat_eq k r ≡ true = eq-eqb k r same in let f : ⊥ = cc in f))
    ] refl

pub sizes_with : (bs : List Buffer) (r n : ℕ)
    → map (λ (b : Buffer). b.size) (with_held bs r n) ≡ map (λ (b : Buffer). b.size) bs
sizes_with [] r n = refl
sizes_with (b ∷ bs) zero n = refl
sizes_with (b ∷ bs) (suc r) n = ap (λ ns. b.size ∷ ns) (sizes_with bs r n)

-- empty buffers have these sizes, and hold nothing
pub sizes_empty : (ns : List ℕ) → map (λ (b : Buffer). b.size) (map empty_buffer ns) ≡ ns
sizes_empty [] = refl
sizes_empty (n ∷ ns) = ap (λ xs. n ∷ xs) (sizes_empty ns)

pub held_empty : (ns : List ℕ) (k : ℕ) → (buffer_at (map empty_buffer ns) k).held ≡ 0
held_empty ns k = ap (λ (b : Buffer). b.held) (get_or-map empty_buffer ns k 0)
