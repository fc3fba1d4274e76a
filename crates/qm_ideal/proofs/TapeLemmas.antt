-- Own tapes that give the outcomes
use Rattle.std.proofs.Common.{◌≡◌, ◌≢◌, ◌∙◌, ℕ, zero, suc, ◌+◌, ◌<◌, ◌≤◌, Bool, false, List, [], ◌∷◌, ◌++◌, length, drop, replicate, Some, None, slice_index_or, refl, sym, ap, append-nil, arith}
use Rattle.std.proofs.Math.Seq.{drop-nil}
use Rattle.std.proofs.Math.ListN.{drop_of_length-le}
use Rattle.std.proofs.lemmas.List.{length-append}
use Rattle.std.specs.Prelude.{slice_set}
use Rattle.qm_limits.specs.declared.TheConstants.{MOST_RANKS}
use Rattle.qm_denot.specs.declared.Wire.{Wire}
use Rattle.qm_instr.specs.Programs.{Programs, rank_of}
use Rattle.qm_proto.specs.Model.Ideal.{IdealState}
use Rattle.qm_proto.proofs.Changes.{by_number}
use Rattle.qm_confluence.specs.Drawn.{Outcome, outcomes_for}
use Rattle.qm_confluence.proofs.Confluence.Drawn.{left_of, front_of_rest, outcomes_append, one_for, none_for}
use Rattle.qm_confluence.proofs.Confluence.DrawnAhead.{followed_push}
use Rattle.qm_confluence.proofs.Confluence.Told.{filled_state}
use Rattle.qm_ideal.specs.declared.draw.Stop.{Stop}
use Rattle.qm_ideal.specs.declared.DrawnError.TheVariants as error
use Rattle.qm_ideal.specs.Drawings.{Drawing, nothing_drawn, with_outcome, ExplainsDrawn}
use Rattle.qm_ideal.specs.OneRuns.{IsItsEnd}
use Rattle.qm_ideal.specs.UnderWay.{IsByTapes, IsUnderWay, NoneEnabled}
use Rattle.qm_ideal.proofs.DrawnLemmas.{taped_end}

-- ---- one outcome more is used
pub used_more : (n : ℕ) (xs : List Bool) → drop (n + 1) xs ≡ drop 1 (drop n xs)
used_more n [] = drop-nil (n + 1) ∙ sym (ap (drop 1) (drop-nil n))
used_more zero (x ∷ xs) = refl
used_more (suc n) (x ∷ xs) =
    let e : suc n + 1 ≡ suc (n + 1) = omega arith in ap (λ k. drop k (x ∷ xs)) e ∙ used_more n xs

-- and none, where none is left
pub used_up : (n : ℕ) (xs : List Bool) → length xs ≤ n → drop n xs ≡ drop 1 (drop n xs)
used_up n xs past = drop_of_length-le xs past ∙ sym (ap (drop 1) (drop_of_length-le xs past))

-- ---- a list of numbers with one of them set
set_here : (ns : List ℕ) (k n : ℕ) → k < length ns → slice_index_or (slice_set ns k n) k 0 ≡ n
set_here [] k n below = absurd (omega (arith, below))
set_here (m ∷ ns) zero n below = refl
set_here (m ∷ ns) (suc k) n below = set_here ns k n (omega (arith, below))

set_elsewhere : (ns : List ℕ) (k j n : ℕ) → j ≢ k → slice_index_or (slice_set ns k n) j 0 ≡ slice_index_or ns j 0
set_elsewhere [] k j n other = refl
set_elsewhere (m ∷ ns) zero zero n other = absurd (other refl)
set_elsewhere (m ∷ ns) zero (suc j) n other = refl
set_elsewhere (m ∷ ns) (suc k) zero n other = refl
set_elsewhere (m ∷ ns) (suc k) (suc j) n other = set_elsewhere ns k j n (λ e. other (ap suc e))

set_length : (ns : List ℕ) (k n : ℕ) → length (slice_set ns k n) ≡ length ns
set_length [] k n = refl
set_length (m ∷ ns) zero n = refl
set_length (m ∷ ns) (suc k) n = ap suc (set_length ns k n)

-- ---- the tapes as a feed
none_used : (n r : ℕ) → slice_index_or {A = ℕ} (replicate n 0) r 0 ≡ 0
none_used zero r = refl
none_used (suc n) zero = refl
none_used (suc n) (suc r) = none_used n r

as_long : (n : ℕ) → length {A = ℕ} (replicate n 0) ≡ n
as_long zero = refl
as_long (suc n) = ap suc (as_long n)

-- before the first outcome
pub by_tapes_start : (p : Programs) → length p.ranks ≤ MOST_RANKS → IsByTapes p (replicate MOST_RANKS 0) p nothing_drawn
by_tapes_start p few =
    record {
      same = refl;
      few = few;
      places = as_long MOST_RANKS;
      going = refl;
      followed = λ r k below. absurd (omega (arith, below));
      left = λ r. ap (λ n. drop n (rank_of p r).own) (none_used MOST_RANKS r);
    }

module _ (input : Programs) (used : List ℕ) (p : Programs) (d : Drawing) (h : IsByTapes input used p d) where
  -- an outcome more
  pub by_tapes_next : (r u n : ℕ) (w : Wire) (m : Bool) → r < length p.ranks → u ≡ slice_index_or used r 0 → m ≡ slice_index_or (rank_of input r).own u false
      → drop n (rank_of input r).own ≡ drop 1 (drop u (rank_of input r).own) → IsByTapes input (slice_set used r n) p (with_outcome d r w m)
  by_tapes_next r u n w m known here outcome one_more =
      let x : Outcome = record { rank = r; wire = w; at = length d.letters; value = m } in
      let own = (rank_of p r).own in
      let own_so : (rank_of input r).own ≡ own = ap (λ p. (rank_of p r).own) h.same in
      let given = length (outcomes_for r d.outcomes) in
      let left_so : drop u own ≡ drop given own = ap (λ k. drop k own) here ∙ h.left r in
      let more : length (outcomes_for r (d.outcomes ++ x ∷ [])) ≡ given + 1 =
      ap length (outcomes_append r d.outcomes (x ∷ []) ∙ ap (λ ys. outcomes_for r d.outcomes ++ ys) (one_for x)) ∙ length-append (outcomes_for r d.outcomes) (m ∷ []) in
      record {
        same = h.same;
        few = h.few;
        places = set_length used r n ∙ h.places;
        going = h.going;
        followed = followed_push d.outcomes x p h.followed
            (ap (λ xs. slice_index_or xs 0 false) (sym left_so) ∙ front_of_rest u own ∙ ap (λ xs. slice_index_or xs u false) (sym own_so) ∙ sym outcome);
        left = λ k. by_number (λ k. drop (slice_index_or (slice_set used r n) k 0) (rank_of p k).own ≡ drop (length (outcomes_for k (d.outcomes ++ x ∷ []))) (rank_of p k).own) r
            (ap (λ j. drop j own) (set_here used r n (let f = h.places in let g = h.few in omega (arith, f, g, known)))
            ∙ ap (λ xs. drop n xs) (sym own_so) ∙ one_more ∙ ap (λ xs. drop 1 (drop u xs)) own_so ∙ ap (drop 1) left_so
            ∙ sym (used_more given own) ∙ ap (λ j. drop j own) (sym more))
            (λ k other. ap (λ j. drop j (rank_of p k).own) (set_elsewhere used r k n other) ∙ h.left k
            ∙ ap (λ xs. drop (length xs) (rank_of p k).own)
            (sym (outcomes_append k d.outcomes (x ∷ []) ∙ ap (λ ys. outcomes_for k d.outcomes ++ ys) (none_for k x other) ∙ append-nil (outcomes_for k d.outcomes))))
            k;
      }

-- they never stop
pub never_stopped : (input : Programs) (used : List ℕ) (p : Programs) (at : ℕ) (why : Stop) → ExplainsDrawn p (IsByTapes input used p) (error.Stopped at why) → ⊥
never_stopped input used p at why x = none_some (sym x.1.going ∙ x.2.stop)
  where
    none_some : {A : Type 0} {a : A} → None ≡ Some a → ⊥
    none_some e = absurd (cc)

-- and the run ends as that of the programs
pub ends_by_tapes : (input : Programs) (used : List ℕ) (p : Programs) (s : IdealState) → IsUnderWay p (IsByTapes input used p) s → NoneEnabled p s
    → (left : ℕ → List Bool) × IsItsEnd p (filled_state left s)
ends_by_tapes input used p s way none = (
  left_of way.outcomes p,
  taped_end p s way.outcomes way.drawn p (record { count = refl; same = λ r. refl }) way.fed.followed none,
)
