-- A run whose outcomes are drawn is that of every programs whose tapes begin with them
use mathlib.Core.Path.{fun_ext}
use Rattle.std.proofs.Common.{◌≡◌, ◌≢◌, ◌∙◌, ℕ, zero, suc, ◌+◌, ◌<◌, nat_eq, Bool, true, false, if◌then◌else◌, List, [], ◌∷◌, ◌++◌, length, map, drop, fold, sum_by, Some, slice_index_or, slice_get, refl, sym, ap, ap₂, subst, append-nil, arith}
use Rattle.std.proofs.Math.Seq.{drop-nil}
use Rattle.std.proofs.lemmas.Bool.{eqb-true}
use Rattle.std.proofs.lemmas.List.{length-append, map-append}
use Rattle.qm_denot.specs.declared.Wire.{Wire}
use Rattle.qm_denot.specs.declared.Letter.{Letter}
use Rattle.qm_denot.specs.declared.Letter.TheVariants.{Phase, Flip, Had, Cx, Cz, Pair, Keep, Take, Rename}
use Rattle.qm_denot.specs.Circuits.{Circuit}
use Rattle.qm_denot.specs.Protocols.{letter_if}
use Rattle.qm_instr.specs.declared.OneGate.TheVariants as one
use Rattle.qm_instr.specs.declared.Gate.{Gate}
use Rattle.qm_instr.specs.declared.Gate.TheVariants as gate
use Rattle.qm_instr.specs.declared.Instr.{Instr}
use Rattle.qm_instr.specs.declared.Instr.TheVariants as instr
use Rattle.qm_instr.specs.Counts.{own_of}
use Rattle.qm_instr.specs.Programs.{Programs, rank_of, IsInRange}
use Rattle.qm_check.specs.Checks.{IsReady}
use Rattle.qm_check.proofs.Faultless as faultless
use Rattle.qm_proto.specs.Model.State.{with_at}
use Rattle.qm_proto.specs.Model.Rows.{gate_letter}
use Rattle.qm_proto.specs.Model.Ideal.{IdealPart, IdealState, ideal_current, ideal_wire_in, ideal_next, ideal_at_start, IsLowestIdeal}
use Rattle.qm_proto.proofs.Changes.{by_number, with_at-here, with_at-elsewhere, number_itself}
use Rattle.qm_confluence.specs.Drawn.{Outcome, outcomes_for, Place, keeps_from, place_of, measures, measuring_from, measuring, IsLowestFrom, AreTaped, Follows, AreFollowed}
use Rattle.qm_confluence.specs.Outcomes.{ComesAsFar}
use Rattle.qm_confluence.specs.Told.{untaped, without_own, told_next, left_after}
use Rattle.qm_confluence.proofs.Confluence.ByView.{View, bit_in, letters_by, acts_by}
use Rattle.qm_confluence.proofs.Confluence.Effects.{stepped, part_stepped, part_elsewhere}
use Rattle.qm_confluence.proofs.Confluence.SameSteps.{lowest_same}
use Rattle.qm_confluence.proofs.Confluence.Told.{seen, IsTold, filled_state, told_is, next_told}
use Rattle.qm_confluence.proofs.Confluence.WellIdeal.{at_same}

-- ---- tapes that begin so
pub front_of_rest : (n : ℕ) (xs : List Bool) → slice_index_or (drop n xs) 0 false ≡ slice_index_or xs n false
front_of_rest zero xs = refl
front_of_rest (suc n) [] = refl
front_of_rest (suc n) (x ∷ xs) = front_of_rest n xs

more_dropped : (n : ℕ) (xs : List Bool) → drop (n + 1) xs ≡ drop 1 (drop n xs)
more_dropped n [] = drop-nil (n + 1) ∙ sym (ap (drop 1) (drop-nil n))
more_dropped zero (x ∷ xs) = refl
more_dropped (suc n) (x ∷ xs) =
    let e : suc n + 1 ≡ suc (n + 1) = omega arith in ap (λ k. drop k (x ∷ xs)) e ∙ more_dropped n xs

pub in_front : (ys zs : List Bool) (k : ℕ) → k < length ys → slice_index_or (ys ++ zs) k false ≡ slice_index_or ys k false
in_front [] zs k h = absurd (omega arith)
in_front (y ∷ ys) zs zero h = refl
in_front (y ∷ ys) zs (suc k) h = in_front ys zs k (omega (arith, h))

pub at_end : (ys : List Bool) (m : Bool) → slice_index_or (ys ++ m ∷ []) (length ys) false ≡ m
at_end [] m = refl
at_end (y ∷ ys) m = at_end ys m

pub follows_front : (ys zs xs : List Bool) → Follows (ys ++ zs) xs → Follows ys xs
follows_front ys zs xs h k below = sym (in_front ys zs k below) ∙ h k (let e = length-append ys zs in omega (arith, below, e))

pub follows_next : (ys xs : List Bool) (m : Bool) → Follows (ys ++ m ∷ []) xs → slice_index_or xs (length ys) false ≡ m
follows_next ys xs m h = sym (h (length ys) (let e = length-append ys (m ∷ []) in omega (arith, e))) ∙ at_end ys m

-- ---- outcomes, one after another
pub outcomes_append : (r : ℕ) (xs ys : List Outcome) → outcomes_for r (xs ++ ys) ≡ outcomes_for r xs ++ outcomes_for r ys
outcomes_append r [] ys = refl
outcomes_append r (x ∷ xs) ys = by_bool (nat_eq x.rank r) (outcomes_append r xs ys)
  where
    by_bool : (b : Bool) → outcomes_for r (xs ++ ys) ≡ outcomes_for r xs ++ outcomes_for r ys
        → (if b then x.value ∷ outcomes_for r (xs ++ ys) else outcomes_for r (xs ++ ys)) ≡ (if b then x.value ∷ outcomes_for r xs else outcomes_for r xs) ++ outcomes_for r ys
    by_bool true e = ap (λ zs. x.value ∷ zs) e
    by_bool false e = e

pub one_for : (x : Outcome) → outcomes_for x.rank (x ∷ []) ≡ x.value ∷ []
one_for x = ap (λ b. if b then x.value ∷ [] else []) (number_itself x.rank)

pub none_for : (r : ℕ) (x : Outcome) → r ≢ x.rank → outcomes_for r (x ∷ []) ≡ []
none_for r x other = by_bool (nat_eq x.rank r) refl
  where
    by_bool : (b : Bool) → nat_eq x.rank r ≡ b → (if b then x.value ∷ [] else []) ≡ []
    by_bool true e = absurd (other (sym (eqb-true x.rank r e)))
    by_bool false e = refl

-- what outcomes leave of the tapes
abbrev pub left_of : List Outcome → Programs → ℕ → List Bool
left_of outs q r = drop (length (outcomes_for r outs)) (rank_of q r).own

-- the outcome that an instruction takes
abbrev pub drawn_by : ℕ → Instr → Bool → IdealState → List Outcome
drawn_by r (instr.Measure q b) m s = record { rank = r; wire = ideal_wire_in s.tables r q; at = length s.circuit; value = m } ∷ []
drawn_by r _ m s = []

pub followed_front : (outs more : List Outcome) (q : Programs) → AreFollowed (outs ++ more) q → AreFollowed outs q
followed_front outs more q h r = follows_front (outcomes_for r outs) (outcomes_for r more) (rank_of q r).own (subst (λ ys. Follows ys (rank_of q r).own) (outcomes_append r outs more) (h r))

module _ (outs : List Outcome) (q : Programs) (r : ℕ) (m : Bool) (s : IdealState) where
  one_more : (x : Outcome) → AreFollowed (outs ++ x ∷ []) q → slice_index_or (left_of outs q x.rank) 0 false ≡ x.value
  one_more x h =
      let ys = outcomes_for x.rank outs in
      front_of_rest (length ys) (rank_of q x.rank).own
      ∙ follows_next ys (rank_of q x.rank).own x.value
      (subst (λ zs. Follows zs (rank_of q x.rank).own) (outcomes_append x.rank outs (x ∷ []) ∙ ap (λ zs. ys ++ zs) (one_for x)) (h x.rank))

  tells : (i : Instr) → AreFollowed (outs ++ drawn_by r i m s) q → IsTold i (left_of outs q r) m
  tells (instr.Measure k b) h = one_more (record { rank = r; wire = ideal_wire_in s.tables r k; at = length s.circuit; value = m }) h
  tells (instr.Alloc k) h = tt
  tells (instr.Free k) h = tt
  tells (instr.Do g) h = tt
  tells (instr.When b g) h = tt
  tells (instr.Set b x) h = tt
  tells (instr.Xor b c) h = tt
  tells (instr.SendBit b to tag) h = tt
  tells (instr.RecvBit b from tag) h = tt
  tells (instr.CopyTo k to tag) h = tt
  tells (instr.CopyFrom k from tag) h = tt
  tells (instr.UndoTo k to tag) h = tt
  tells (instr.UndoFrom k from tag) h = tt
  tells (instr.MoveTo k to tag) h = tt
  tells (instr.MoveFrom k from tag) h = tt
  tells (instr.ReachTo k to tag) h = tt
  tells (instr.ReachFrom k from tag) h = tt

  count_one : (x : Outcome) → length (outcomes_for x.rank (outs ++ x ∷ [])) ≡ length (outcomes_for x.rank outs) + 1
  count_one x = ap length (outcomes_append x.rank outs (x ∷ []) ∙ ap (λ zs. outcomes_for x.rank outs ++ zs) (one_for x)) ∙ length-append (outcomes_for x.rank outs) (x.value ∷ [])

  count_other : (x : Outcome) (k : ℕ) → k ≢ x.rank → outcomes_for k (outs ++ x ∷ []) ≡ outcomes_for k outs
  count_other x k other = outcomes_append k outs (x ∷ []) ∙ ap (λ zs. outcomes_for k outs ++ zs) (none_for k x other) ∙ append-nil (outcomes_for k outs)

  left_one : (x : Outcome) → with_at (left_of outs q) x.rank (drop 1 (left_of outs q x.rank)) ≡ left_of (outs ++ x ∷ []) q
  left_one x = fun_ext (λ k. by_number (λ k. with_at (left_of outs q) x.rank (drop 1 (left_of outs q x.rank)) k ≡ left_of (outs ++ x ∷ []) q k) x.rank
      (with_at-here (left_of outs q) x.rank _ ∙ sym (more_dropped (length (outcomes_for x.rank outs)) (rank_of q x.rank).own)
      ∙ ap (λ n. drop n (rank_of q x.rank).own) (sym (count_one x)))
      (λ k other. with_at-elsewhere (left_of outs q) x.rank _ k other ∙ ap (λ ys. drop (length ys) (rank_of q k).own) (sym (count_other x k other))) k)

  none_left : left_of outs q ≡ left_of (outs ++ []) q
  none_left = ap (λ xs. left_of xs q) (sym (append-nil outs))

  left_same : (i : Instr) → left_after (left_of outs q) r i ≡ left_of (outs ++ drawn_by r i m s) q
  left_same (instr.Measure k b) = left_one (record { rank = r; wire = ideal_wire_in s.tables r k; at = length s.circuit; value = m })
  left_same (instr.Alloc k) = none_left
  left_same (instr.Free k) = none_left
  left_same (instr.Do g) = none_left
  left_same (instr.When b g) = none_left
  left_same (instr.Set b x) = none_left
  left_same (instr.Xor b c) = none_left
  left_same (instr.SendBit b to tag) = none_left
  left_same (instr.RecvBit b from tag) = none_left
  left_same (instr.CopyTo k to tag) = none_left
  left_same (instr.CopyFrom k from tag) = none_left
  left_same (instr.UndoTo k to tag) = none_left
  left_same (instr.UndoFrom k from tag) = none_left
  left_same (instr.MoveTo k to tag) = none_left
  left_same (instr.MoveFrom k from tag) = none_left
  left_same (instr.ReachTo k to tag) = none_left
  left_same (instr.ReachFrom k from tag) = none_left

-- ---- the measurements
pub keeps_append : (n : ℕ) (c ls : Circuit) → keeps_from n (c ++ ls) ≡ keeps_from n c ++ keeps_from (n + length c) ls
keeps_append n [] ls = ap (λ k. keeps_from k ls) (let e : n ≡ n + 0 = omega arith in e)
keeps_append n (l ∷ c) ls = by_letter (keeps_append (n + 1) c ls ∙ ap (λ k. keeps_from (n + 1) c ++ keeps_from k ls) (let e : n + 1 + length c ≡ n + suc (length c) = omega arith in e)) l
  where
    by_letter : keeps_from (n + 1) (c ++ ls) ≡ keeps_from (n + 1) c ++ keeps_from (n + length (l ∷ c)) ls → (x : Letter) → keeps_from n (x ∷ (c ++ ls)) ≡ keeps_from n (x ∷ c) ++ keeps_from (n + length (l ∷ c)) ls
    by_letter e (Keep w m) = ap (λ (xs : List Place). (let x : Place = record { at = n; wire = w; value = m } in x) ∷ xs) e
    by_letter e (Phase k w) = e
    by_letter e (Flip w) = e
    by_letter e (Had w) = e
    by_letter e (Cx a b) = e
    by_letter e (Cz a b) = e
    by_letter e (Pair a b) = e
    by_letter e (Take w m) = e
    by_letter e (Rename a b) = e

pub gate_keeps : (n : ℕ) (g : Gate) (wire : ℕ → Wire) → keeps_from n (gate_letter wire g ∷ []) ≡ []
gate_keeps n (gate.One one.X q) wire = refl
gate_keeps n (gate.One one.Z q) wire = refl
gate_keeps n (gate.One one.H q) wire = refl
gate_keeps n (gate.One one.S q) wire = refl
gate_keeps n (gate.One one.Sdg q) wire = refl
gate_keeps n (gate.One one.T q) wire = refl
gate_keeps n (gate.One one.Tdg q) wire = refl
gate_keeps n (gate.Cx c q) wire = refl
gate_keeps n (gate.Cz c q) wire = refl

pub if_keeps : (n : ℕ) (b : Bool) (g : Gate) (wire : ℕ → Wire) → keeps_from n (letter_if b (gate_letter wire g)) ≡ []
if_keeps n true g wire = gate_keeps n g wire
if_keeps n false g wire = refl

module _ (p : Programs) (s : IdealState) (r : ℕ) (m : Bool) where
  pub step_keeps : (i : Instr) → keeps_from (length s.circuit) (letters_by r i (seen p s.tables r i (m ∷ []))) ≡ map place_of (drawn_by r i m s)
  step_keeps (instr.Measure k b) = refl
  step_keeps (instr.Alloc k) = refl
  step_keeps (instr.Free k) = refl
  step_keeps (instr.Do g) = gate_keeps (length s.circuit) g _
  step_keeps (instr.When b g) = if_keeps (length s.circuit) (bit_in (seen p s.tables r (instr.When b g) (m ∷ [])) b) g _
  step_keeps (instr.Set b x) = refl
  step_keeps (instr.Xor b c) = refl
  step_keeps (instr.SendBit b to tag) = refl
  step_keeps (instr.RecvBit b from tag) = refl
  step_keeps (instr.CopyTo k to tag) = refl
  step_keeps (instr.CopyFrom k from tag) = refl
  step_keeps (instr.UndoTo k to tag) = refl
  step_keeps (instr.UndoFrom k from tag) = refl
  step_keeps (instr.MoveTo k to tag) = refl
  step_keeps (instr.MoveFrom k from tag) = refl
  step_keeps (instr.ReachTo k to tag) = refl
  step_keeps (instr.ReachFrom k from tag) = refl

  step_measures : (i : Instr) → map (λ (x : Outcome). x.rank) (drawn_by r i m s) ≡ (if measures (Some i) then r ∷ [] else [])
  step_measures (instr.Measure k b) = refl
  step_measures (instr.Alloc k) = refl
  step_measures (instr.Free k) = refl
  step_measures (instr.Do g) = refl
  step_measures (instr.When b g) = refl
  step_measures (instr.Set b x) = refl
  step_measures (instr.Xor b c) = refl
  step_measures (instr.SendBit b to tag) = refl
  step_measures (instr.RecvBit b from tag) = refl
  step_measures (instr.CopyTo k to tag) = refl
  step_measures (instr.CopyFrom k from tag) = refl
  step_measures (instr.UndoTo k to tag) = refl
  step_measures (instr.UndoFrom k from tag) = refl
  step_measures (instr.MoveTo k to tag) = refl
  step_measures (instr.MoveFrom k from tag) = refl
  step_measures (instr.ReachTo k to tag) = refl
  step_measures (instr.ReachFrom k from tag) = refl

-- ---- runs, one rank more
pub lowest_push : (p : Programs) (rs : List ℕ) (r : ℕ) (s : IdealState) → IsLowestFrom p s rs → IsLowestIdeal p (fold (ideal_next p) s rs).tables r
    → IsLowestFrom p s (rs ++ r ∷ [])
lowest_push p [] r s run low = (low, tt)
lowest_push p (k ∷ rs) r s run low = (run.0, lowest_push p rs r (ideal_next p s k) run.1 low)

pub state_push : (p : Programs) (rs : List ℕ) (r : ℕ) (s : IdealState) → fold (ideal_next p) s (rs ++ r ∷ []) ≡ ideal_next p (fold (ideal_next p) s rs) r
state_push p [] r s = refl
state_push p (k ∷ rs) r s = state_push p rs r (ideal_next p s k)

measuring_push : (p : Programs) (rs : List ℕ) (r : ℕ) (s : IdealState)
    → measuring_from p s (rs ++ r ∷ []) ≡ measuring_from p s rs ++ (if measures (ideal_current p (fold (ideal_next p) s rs).tables r) then r ∷ [] else [])
measuring_push p [] r s = refl
measuring_push p (k ∷ rs) r s = by_bool (measures (ideal_current p s.tables k)) _ _ _ (measuring_push p rs r (ideal_next p s k))
  where
    by_bool : (b : Bool) (xs ys zs : List ℕ) → xs ≡ ys ++ zs → (if b then k ∷ xs else xs) ≡ (if b then k ∷ ys else ys) ++ zs
    by_bool true xs ys zs e = ap (λ xs. k ∷ xs) e
    by_bool false xs ys zs e = e

-- ---- a run whose outcomes are drawn
-- of programs with these tapes: it comes to this state, and the outcomes are those of the ranks that measure
pub record IsDrawnWay (q : Programs) (s : IdealState) (outs : List Outcome) : Type 0 where
  pub ranks : List ℕ
  pub lowest : IsLowestFrom q (ideal_at_start q) ranks
  pub state : fold (ideal_next q) (ideal_at_start q) ranks ≡ s
  pub measured : map (λ (x : Outcome). x.rank) outs ≡ measuring q ranks

-- of all programs whose tapes begin with the outcomes; a rank was given one for each measurement that it has done
pub record IsDrawn (p : Programs) (s : IdealState) (outs : List Outcome) : Type 0 where
  pub way : (q : Programs) → AreTaped p q → AreFollowed outs q → IsDrawnWay q (filled_state (left_of outs q) s) outs
  pub places : map place_of outs ≡ keeps_from 0 s.circuit
  pub counts : (r : ℕ) → length (outcomes_for r outs) ≡ sum_by own_of (faultless.before p r (s.tables.parts r).at)

-- the state at the start
abbrev pub drawn_start : Programs → IdealState
drawn_start p = record { tables = untaped (ideal_at_start p).tables; circuit = [] }

pub is_drawn_start : (p : Programs) → IsDrawn p (drawn_start p) []
is_drawn_start p =
    record {
      way = λ q taped follow. record { ranks = []; lowest = tt; state = refl; measured = refl };
      places = refl;
      counts = λ r. refl;
    }

module _ (p : Programs) (ready : IsReady p) (ranges : IsInRange p) (s : IdealState) (outs : List Outcome) (h : IsDrawn p s outs) (r : ℕ) (low : IsLowestIdeal p s.tables r) (i : Instr)
    (read : ideal_current p s.tables r ≡ Some i) (m : Bool) where
  abbrev more : List Outcome
  more = drawn_by r i m s

  abbrev after : IdealState
  after = told_next p s r m

  abbrev v : View
  v = seen p s.tables r i (m ∷ [])

  way_more : (q : Programs) → AreTaped p q → AreFollowed (outs ++ more) q → IsDrawnWay q (filled_state (left_of (outs ++ more) q) after) (outs ++ more)
  way_more q taped follow =
      let w = h.way q taped (followed_front outs more q follow) in
      let left = left_of outs q in
      let x = filled_state left s in
      let far : ComesAsFar s.tables x.tables = record { at = λ k. refl; lanes = λ a. refl } in
      let low' : IsLowestIdeal q x.tables r = lowest_same p q taped.count taped.same s.tables x.tables far r low in
      let here : ideal_current q x.tables r ≡ Some i = ap (λ is. slice_get is (s.tables.parts r).at) (taped.same r) ∙ read in
      let at_end : ideal_current q (fold (ideal_next q) (ideal_at_start q) w.ranks).tables r ≡ Some i = ap (λ (z : IdealState). ideal_current q z.tables r) w.state ∙ here in
      record {
        ranks = w.ranks ++ r ∷ [];
        lowest = lowest_push q w.ranks r (ideal_at_start q) w.lowest (subst (λ (z : IdealState). IsLowestIdeal q z.tables r) (sym w.state) low');
        state = state_push q w.ranks r (ideal_at_start q) ∙ ap (λ z. ideal_next q z r) w.state
            ∙ next_told p q taped.same s left r m i read (tells outs q r m s i follow)
            ∙ ap (λ l. filled_state l after) (left_same outs q r m s i);
        measured = map-append (λ (x : Outcome). x.rank) outs more ∙ ap₂ (λ xs ys. xs ++ ys) w.measured (step_measures p s r m i)
            ∙ sym (measuring_push q w.ranks r (ideal_at_start q) ∙ ap (λ o. measuring q w.ranks ++ (if measures o then r ∷ [] else [])) at_end);
      }

  pub after_is : after ≡ (let u : IdealState = record { tables = stepped r (without_own (acts_by r i v)) s.tables; circuit = s.circuit ++ letters_by r i v } in u)
  after_is = told_is p p (λ k. refl) s (λ k. []) r m i read

  places_more : map place_of (outs ++ more) ≡ keeps_from 0 after.circuit
  places_more =
      map-append place_of outs more ∙ ap₂ (λ xs ys. xs ++ ys) h.places (sym (step_keeps p s r m i))
      ∙ ap (λ n. keeps_from 0 s.circuit ++ keeps_from n (letters_by r i v)) (let e : length s.circuit ≡ 0 + length s.circuit = omega arith in e)
      ∙ sym (keeps_append 0 s.circuit (letters_by r i v)) ∙ sym (ap (λ (u : IdealState). keeps_from 0 u.circuit) after_is)

  pub at_here : (after.tables.parts r).at ≡ (s.tables.parts r).at + 1
  at_here =
      ap (λ (u : IdealState). (u.tables.parts r).at) after_is ∙ ap (λ (x : IdealPart). x.at) (part_stepped r (without_own (acts_by r i v)) s.tables)
      ∙ ap (λ k. k + 1) (at_same (s.tables.parts r) (without_own (acts_by r i v)))

  pub at_there : (k : ℕ) → k ≢ r → (after.tables.parts k).at ≡ (s.tables.parts k).at
  at_there k other =
      ap (λ (u : IdealState). (u.tables.parts k).at) after_is ∙ ap (λ (x : IdealPart). x.at) (part_elsewhere r (without_own (acts_by r i v)) s.tables k other)

  drawn_here : (i : Instr) → length (outcomes_for r (outs ++ drawn_by r i m s)) ≡ length (outcomes_for r outs) + own_of i
  drawn_here (instr.Measure k b) = count_one outs p r m s (record { rank = r; wire = ideal_wire_in s.tables r k; at = length s.circuit; value = m })
  drawn_here (instr.Alloc k) = ap (λ xs. length (outcomes_for r xs)) (append-nil outs) ∙ omega arith
  drawn_here (instr.Free k) = ap (λ xs. length (outcomes_for r xs)) (append-nil outs) ∙ omega arith
  drawn_here (instr.Do g) = ap (λ xs. length (outcomes_for r xs)) (append-nil outs) ∙ omega arith
  drawn_here (instr.When b g) = ap (λ xs. length (outcomes_for r xs)) (append-nil outs) ∙ omega arith
  drawn_here (instr.Set b x) = ap (λ xs. length (outcomes_for r xs)) (append-nil outs) ∙ omega arith
  drawn_here (instr.Xor b c) = ap (λ xs. length (outcomes_for r xs)) (append-nil outs) ∙ omega arith
  drawn_here (instr.SendBit b to tag) = ap (λ xs. length (outcomes_for r xs)) (append-nil outs) ∙ omega arith
  drawn_here (instr.RecvBit b from tag) = ap (λ xs. length (outcomes_for r xs)) (append-nil outs) ∙ omega arith
  drawn_here (instr.CopyTo k to tag) = ap (λ xs. length (outcomes_for r xs)) (append-nil outs) ∙ omega arith
  drawn_here (instr.CopyFrom k from tag) = ap (λ xs. length (outcomes_for r xs)) (append-nil outs) ∙ omega arith
  drawn_here (instr.UndoTo k to tag) = ap (λ xs. length (outcomes_for r xs)) (append-nil outs) ∙ omega arith
  drawn_here (instr.UndoFrom k from tag) = ap (λ xs. length (outcomes_for r xs)) (append-nil outs) ∙ omega arith
  drawn_here (instr.MoveTo k to tag) = ap (λ xs. length (outcomes_for r xs)) (append-nil outs) ∙ omega arith
  drawn_here (instr.MoveFrom k from tag) = ap (λ xs. length (outcomes_for r xs)) (append-nil outs) ∙ omega arith
  drawn_here (instr.ReachTo k to tag) = ap (λ xs. length (outcomes_for r xs)) (append-nil outs) ∙ omega arith
  drawn_here (instr.ReachFrom k from tag) = ap (λ xs. length (outcomes_for r xs)) (append-nil outs) ∙ omega arith

  drawn_there : (i : Instr) (k : ℕ) → k ≢ r → outcomes_for k (outs ++ drawn_by r i m s) ≡ outcomes_for k outs
  drawn_there (instr.Measure j b) k other = count_other outs p r m s (record { rank = r; wire = ideal_wire_in s.tables r j; at = length s.circuit; value = m }) k other
  drawn_there (instr.Alloc j) k other = ap (outcomes_for k) (append-nil outs)
  drawn_there (instr.Free j) k other = ap (outcomes_for k) (append-nil outs)
  drawn_there (instr.Do g) k other = ap (outcomes_for k) (append-nil outs)
  drawn_there (instr.When b g) k other = ap (outcomes_for k) (append-nil outs)
  drawn_there (instr.Set b x) k other = ap (outcomes_for k) (append-nil outs)
  drawn_there (instr.Xor b c) k other = ap (outcomes_for k) (append-nil outs)
  drawn_there (instr.SendBit b to tag) k other = ap (outcomes_for k) (append-nil outs)
  drawn_there (instr.RecvBit b from tag) k other = ap (outcomes_for k) (append-nil outs)
  drawn_there (instr.CopyTo j to tag) k other = ap (outcomes_for k) (append-nil outs)
  drawn_there (instr.CopyFrom j from tag) k other = ap (outcomes_for k) (append-nil outs)
  drawn_there (instr.UndoTo j to tag) k other = ap (outcomes_for k) (append-nil outs)
  drawn_there (instr.UndoFrom j from tag) k other = ap (outcomes_for k) (append-nil outs)
  drawn_there (instr.MoveTo j to tag) k other = ap (outcomes_for k) (append-nil outs)
  drawn_there (instr.MoveFrom j from tag) k other = ap (outcomes_for k) (append-nil outs)
  drawn_there (instr.ReachTo j to tag) k other = ap (outcomes_for k) (append-nil outs)
  drawn_there (instr.ReachFrom j from tag) k other = ap (outcomes_for k) (append-nil outs)

  counts_more : (k : ℕ) → length (outcomes_for k (outs ++ more)) ≡ sum_by own_of (faultless.before p k (after.tables.parts k).at)
  counts_more k =
      by_number (λ k. length (outcomes_for k (outs ++ more)) ≡ sum_by own_of (faultless.before p k (after.tables.parts k).at)) r
      (let step = faultless.step_of p r (s.tables.parts r).at i ready ranges low.known read in
      drawn_here i ∙ ap (λ n. n + own_of i) (h.counts r) ∙ sym step.own ∙ sym (ap (λ n. sum_by own_of (faultless.before p r n)) at_here))
      (λ k other. ap length (drawn_there i k other) ∙ h.counts k ∙ sym (ap (λ n. sum_by own_of (faultless.before p k n)) (at_there k other))) k

  pub is_drawn_next : IsDrawn p after (outs ++ more)
  is_drawn_next = record { way = way_more; places = places_more; counts = counts_more }
