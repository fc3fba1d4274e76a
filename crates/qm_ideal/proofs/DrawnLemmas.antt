-- A run whose outcomes are asked for: how it goes on, where it ends, and what it had asked when it was stopped
use Rattle.std.proofs.Common.{◌≡◌, ◌∙◌, ◌⊎◌, inl, inr, ℕ, zero, suc, ◌+◌, ◌-◌, ◌<◌, ◌≤◌, ◌^◌, Bool, false, List, [], ◌∷◌, ◌++◌, length, map, take, drop, fold, replicate, Option, Some, None, slice_get, slice_index_or, refl, sym, ap, ap₂, subst, append_assoc, append-nil, arith}
use Rattle.std.proofs.lemmas.List.{length-append}
use Rattle.std.proofs.lemmas.Option.{slice_get_within}
use Rattle.std.specs.Prelude.{option_to_list}
use Rattle.qm_denot.specs.declared.Letter.{Letter}
use Rattle.qm_denot.specs.declared.Letter.TheVariants.{Keep}
use Rattle.qm_denot.specs.Circuits.{Circuit}
use Rattle.qm_instr.specs.declared.Instr.{Instr}
use Rattle.qm_instr.specs.declared.Instr.TheVariants as instr
use Rattle.qm_instr.specs.Programs.{Programs, rank_of, IsInRange}
use Rattle.qm_check.specs.Checks.{IsReady}
use Rattle.qm_proto.specs.Model.Ideal.{IdealAct, IdealRow, Counts, SlotSet, Puts, Takes, OwnUsed, BitSet, IdealTables, IdealState, ideal_after_act, ideal_past_instr, ideal_row_of, ideal_wire_in, ideal_current, ideal_replay, IsLowestIdeal, IsOneRun}
use Rattle.qm_confluence.specs.Drawn.{Outcome, outcomes_for, keeps_from, place_of, measuring, AreTaped, AreFollowed, Follows}
use Rattle.qm_confluence.specs.Letters.{AreGoodAfter}
use Rattle.qm_confluence.specs.Outcomes.{ComesAsFar}
use Rattle.qm_confluence.specs.Tapes.{with_tapes}
use Rattle.qm_confluence.specs.Told.{told, told_instr, told_next, without_own}
use Rattle.qm_confluence.proofs.Confluence.Helpers.{next_where_able}
use Rattle.qm_confluence.proofs.Confluence.Drawn.{IsDrawn, left_of, drawn_by, in_front, followed_front, keeps_append, step_keeps, is_drawn_next, at_here, at_there}
use Rattle.qm_confluence.proofs.Confluence.DrawnAhead.{ahead, take_front, taped, followed, followed_push, few_given, good_so_far, ready_ahead}
use Rattle.qm_confluence.proofs.Confluence.GoodLetters.{good_rest}
use Rattle.qm_confluence.proofs.Confluence.SameSteps.{lowest_same, enabled_same}
use Rattle.qm_confluence.proofs.Confluence.Told.{filled_state, told_row}
use Rattle.qm_ideal.specs.declared.draw.Stop.{Stop}
use Rattle.qm_ideal.specs.declared.DrawnError.{DrawnError}
use Rattle.qm_ideal.specs.declared.DrawnError.TheVariants as error
use Rattle.qm_ideal.specs.Drawings.{Drawing, drawing, with_stop, OfLetter, OfOutcome, MayAsk, Begin, IsAt, StopsDrawn, ExplainsDrawn}
use Rattle.qm_ideal.specs.Meanings.{AllSmall}
use Rattle.qm_ideal.specs.OneCircuits.{most_letters}
use Rattle.qm_ideal.specs.OneRuns.{IsOnTheWay, IsItsEnd, instructions_left}
use Rattle.qm_ideal.specs.UnderWay.{IsNext, NoneEnabled, IsToldStep, ExplainsAsked, ExplainsWriting}
use Rattle.qm_ideal.proofs.OneRunLemmas.{way_end, one_less}
use Rattle.qm_ideal.proofs.RunBounds.{way_bound}
use Rattle.qm_ideal.proofs.SmallActs.{small_step, at_small, made_small}

-- ---- lists
-- the element behind the first ones
behind : {A : Type 0} (xs : List A) (y : A) (ys : List A) → slice_get (xs ++ y ∷ ys) (length xs) ≡ Some y
behind [] y ys = refl
behind (x ∷ xs) y ys = behind xs y ys

take_back : {A : Type 0} (n : ℕ) (xs : List A) → xs ≡ take n xs ++ drop n xs
take_back zero xs = refl
take_back (suc n) [] = refl
take_back (suc n) (x ∷ xs) = ap (λ ys. x ∷ ys) (take_back n xs)

-- a list that begins with these outcomes has them
follows_taken : (xs ys : List Bool) → take (length xs) ys ≡ xs → Follows xs ys
follows_taken xs ys first k below =
    sym (ap (λ zs. slice_index_or zs k false) (take_back (length xs) ys ∙ ap (λ zs. zs ++ drop (length xs) ys) first) ∙ in_front xs (drop (length xs) ys) k below)

-- an instruction measures, or takes no outcome
module _ (r : ℕ) where
  abbrev pub Measures : Instr → Type 0
  Measures i = (q : ℕ) × (b : ℕ) × (i ≡ instr.Measure q b)

  pub measures_or_not : (i : Instr) → Measures i ⊎ ((m : Bool) (s : IdealState) → drawn_by r i m s ≡ [])
  measures_or_not (instr.Measure q b) = inl (q, b, refl)
  measures_or_not (instr.Alloc q) = inr (λ m s. refl)
  measures_or_not (instr.Free q) = inr (λ m s. refl)
  measures_or_not (instr.Do g) = inr (λ m s. refl)
  measures_or_not (instr.When b g) = inr (λ m s. refl)
  measures_or_not (instr.Set b x) = inr (λ m s. refl)
  measures_or_not (instr.Xor b c) = inr (λ m s. refl)
  measures_or_not (instr.SendBit b to tag) = inr (λ m s. refl)
  measures_or_not (instr.RecvBit b from tag) = inr (λ m s. refl)
  measures_or_not (instr.CopyTo q to tag) = inr (λ m s. refl)
  measures_or_not (instr.CopyFrom q from tag) = inr (λ m s. refl)
  measures_or_not (instr.UndoTo q to tag) = inr (λ m s. refl)
  measures_or_not (instr.UndoFrom q from tag) = inr (λ m s. refl)
  measures_or_not (instr.MoveTo q to tag) = inr (λ m s. refl)
  measures_or_not (instr.MoveFrom q from tag) = inr (λ m s. refl)
  measures_or_not (instr.ReachTo q to tag) = inr (λ m s. refl)
  measures_or_not (instr.ReachFrom q from tag) = inr (λ m s. refl)

  -- where it doesn't measure it takes none
  pub none_drawn : (i : Instr) → ((q b : ℕ) → i ≡ instr.Measure q b → ⊥) → (m : Bool) (s : IdealState) → drawn_by r i m s ≡ []
  none_drawn i not m s = elim (measures_or_not i) [
    | inl (q, b, e) ↦ absurd (not q b e)
    | inr none ↦ none m s
  ]

-- the acts that are left without the use of an outcome
small_without : (acts : List IdealAct) → AllSmall acts → AllSmall (without_own acts)
small_without [] h = tt
small_without (OwnUsed ∷ acts) h = small_without acts h.1
small_without (Counts ∷ acts) h = (h.0, small_without acts h.1)
small_without (SlotSet q w ∷ acts) h = (h.0, small_without acts h.1)
small_without (Puts a x ∷ acts) h = (h.0, small_without acts h.1)
small_without (Takes a ∷ acts) h = (h.0, small_without acts h.1)
small_without (BitSet b v ∷ acts) h = (h.0, small_without acts h.1)

-- the letters of a part of a list without measurements
kept_none : (n : ℕ) (xs ys : Circuit) → keeps_from n (xs ++ ys) ≡ [] → keeps_from n xs ≡ []
kept_none n xs ys e = first_none (keeps_from n xs) (keeps_from (n + length xs) ys) (sym (keeps_append n xs ys) ∙ e)
  where
    first_none : {A : Type 0} (us vs : List A) → us ++ vs ≡ [] → us ≡ []
    first_none [] vs e = refl
    first_none (u ∷ us) vs e = absurd (let z : length (u ∷ (us ++ vs)) ≡ 0 = ap length e in omega (arith, z))

module _ (p : Programs) where
  -- ---- tapes that begin with the outcomes given
  begin_followed : (s : IdealState) (outs : List Outcome) → IsDrawn p s outs → (own : ℕ → List Bool) → Begin p outs own → AreFollowed outs (with_tapes p own)
  begin_followed s outs h own begin = followed p s outs h own (λ r known. follows_taken (outcomes_for r outs) (own r) (begin.first r))

  some_tapes : IsReady p → (s : IdealState) (outs : List Outcome) → IsDrawn p s outs → (own : ℕ → List Bool) × Begin p outs own
  some_tapes ready s outs h =
      let long : ℕ → ℕ = λ r. length (rank_of p r).own in
      let rest : ℕ → List Bool = λ r. replicate (long r - length (outcomes_for r outs)) false in (
        λ r. outcomes_for r outs ++ rest r,
        record {
          long = λ r.
              let e = length-append (outcomes_for r outs) (rest r) in
              let f = as_long (long r - length (outcomes_for r outs)) in
              let few = few_given p s outs h ready r in
              omega (arith, e, f, few);
          first = λ r. take_front (outcomes_for r outs) (rest r);
        },
      )
    where
      as_long : (n : ℕ) → length (replicate n false) ≡ n
      as_long zero = refl
      as_long (suc n) = ap suc (as_long n)

  -- ---- the programs with such tapes are as far
  module _ (s : IdealState) (outs : List Outcome) (h : IsDrawn p s outs) (q : Programs) (same : AreTaped p q) (follow : AreFollowed outs q) where
    taped_way : IsOnTheWay q (filled_state (left_of outs q) s)
    taped_way =
        let w = h.way q same follow in
        record { ranks = w.ranks; lowest = w.lowest; state = w.state }

    far : ComesAsFar s.tables (filled_state (left_of outs q) s).tables
    far = record { at = λ k. refl; lanes = λ a. refl }

    taped_lowest : (r : ℕ) → IsLowestIdeal p s.tables r → IsLowestIdeal q (filled_state (left_of outs q) s).tables r
    taped_lowest r low = lowest_same p q same.count same.same s.tables (filled_state (left_of outs q) s).tables far r low

    -- and end there too
    pub taped_end : NoneEnabled p s → IsItsEnd q (filled_state (left_of outs q) s)
    taped_end none =
        way_end q (filled_state (left_of outs q) s) taped_way
        (λ r known. enabled_same p q same.count same.same s.tables (filled_state (left_of outs q) s).tables far r ∙ none r (subst (λ n. r < n) same.count known))

-- few letters are taken
pub letters_few : (p : Programs) → IsReady p → IsInRange p → (s : IdealState) (outs : List Outcome) → IsDrawn p s outs → length s.circuit ≤ most_letters
letters_few p ready ranges s outs h =
    let a = ready_ahead p s outs h ready ranges in
    way_bound a.0 a.4 (filled_state (left_of outs a.0) s) (taped_way p s outs h a.0 a.1 a.2)

-- ---- a step
module _ (p : Programs) (s : IdealState) (r : ℕ) (next : IsNext p s r) (outs : List Outcome) (h : IsDrawn p s outs) where
  known : r < length p.ranks
  known = next.lowest.known

  -- few letters are taken, few wires counted and few instructions done
  pub few_letters : length s.circuit ≤ most_letters
  few_letters = letters_few p next.ready next.in_range s outs h

  pub few_at : (s.tables.parts r).at + 1 < 2 ^ 32
  few_at =
      let a = ready_ahead p s outs h next.ready next.in_range in
      let low = taped_lowest p s outs h a.0 a.1 a.2 r next.lowest in
      at_small a.0 a.4 (filled_state (left_of outs a.0) s) r low.known low

  pub few_made : (s.tables.parts r).made + 3 < 2 ^ 32
  few_made =
      let a = ready_ahead p s outs h next.ready next.in_range in
      let low = taped_lowest p s outs h a.0 a.1 a.2 r next.lowest in
      made_small a.0 a.4 (filled_state (left_of outs a.0) s) r low.known (taped_way p s outs h a.0 a.1 a.2) low

  module _ (i : Instr) (read : ideal_current p s.tables r ≡ Some i) (m : Bool) where
    abbrev letters : List Letter
    letters = (ideal_row_of p (told s.tables m) r i).letters

    abbrev after : IdealState
    after = told_next p s r m

    after_told : after ≡ told_instr p s r m (Some i)
    after_told = ap (told_instr p s r m) read

    pub small_told : AllSmall (without_own (ideal_row_of p (told s.tables m) r i).acts)
    small_told =
        small_without (ideal_row_of p (told s.tables m) r i).acts
        (small_step p next.in_range (let z : IdealState = record { tables = told s.tables m; circuit = s.circuit } in z) r known i read)

    pub drawn_more : IsDrawn p after (outs ++ drawn_by r i m s)
    drawn_more = is_drawn_next p next.ready next.in_range s outs h r next.lowest i read m

    -- a state with the step's acts done and its letters written
    pub told_so : (t : IdealTables) (c : Circuit) (acts : List IdealAct) (ls : List Letter) → t ≡ ideal_past_instr (fold (ideal_after_act r) s.tables acts) r
        → acts ≡ without_own (ideal_row_of p (told s.tables m) r i).acts → c ≡ s.circuit ++ ls → ls ≡ letters
        → (let u : IdealState = record { tables = t; circuit = c } in u) ≡ after
    told_so t c acts ls past same written letters_so =
        ap₂ (λ t c. let u : IdealState = record { tables = t; circuit = c } in u)
        (past ∙ ap (λ acts. ideal_past_instr (fold (ideal_after_act r) s.tables acts) r) same) (written ∙ ap (λ ls. s.circuit ++ ls) letters_so)
        ∙ sym after_told

    -- the letters of the step are good
    pub good_more : AreGoodAfter s.circuit letters
    good_more =
        good_rest [] s.circuit letters
        (subst (λ (z : IdealState). AreGoodAfter [] z.circuit) after_told (good_so_far p after (outs ++ drawn_by r i m s) drawn_more next.ready next.in_range))

    -- and fewer instructions are left
    pub less_left : instructions_left p after.tables < instructions_left p s.tables
    less_left =
        one_less p s.tables after.tables r known (slice_get_within (rank_of p r).instructions (s.tables.parts r).at i read)
        (at_here p next.ready next.in_range s outs h r next.lowest i read m)
        (at_there p next.ready next.in_range s outs h r next.lowest i read m)

    -- of programs whose tapes begin with the outcomes, that of the step too, the run has these letters, and others behind them
    runs_on : (q : Programs) → AreTaped p q → AreFollowed (outs ++ drawn_by r i m s) q → (ranks : List ℕ) → IsOneRun q ranks
        → (later : List Letter) × ((ideal_replay q ranks).circuit ≡ s.circuit ++ (letters ++ later))
    runs_on q same follow ranks one =
        let w = drawn_more.way q same follow in
        let a = ahead q ranks after (outs ++ drawn_by r i m s) (left_of (outs ++ drawn_by r i m s) q) w one in (
          a.later,
          a.letters ∙ ap (λ (z : IdealState). z.circuit ++ a.later) after_told ∙ append_assoc s.circuit letters a.later,
        )

    -- and measured so far as the outcomes say
    ranks_measured : (q : Programs) → AreTaped p q → AreFollowed outs q → (ranks : List ℕ) → IsOneRun q ranks
        → map (λ (x : Outcome). x.rank) outs ≡ take (length outs) (measuring q ranks)
    ranks_measured q same follow ranks one = (ahead q ranks s outs (left_of outs q) (h.way q same follow) one).measured

  -- a step with any outcome leaves fewer instructions
  pub step_falls : (u : IdealState) → IsToldStep p s r u → instructions_left p u.tables < instructions_left p s.tables
  step_falls u did =
      let n = next_where_able p s.tables r next.lowest.able in
      subst (λ (z : IdealState). instructions_left p z.tables < instructions_left p s.tables) (sym did.1) (less_left n.0 n.1.read did.0)

  -- a wire that is measured wasn't taken away
  pub may_measure : (k b : ℕ) → ideal_current p s.tables r ≡ Some (instr.Measure k b) → MayAsk (drawing s.circuit outs) (ideal_wire_in s.tables r k ∷ [])
  may_measure k b read =
      record {
        going = refl;
        few = (let f = few_letters in omega (arith, f));
        here = (good_more (instr.Measure k b) read false).0.here;
      }

  -- ---- a feed that stops
  -- where it was asked for an outcome
  pub stopped_asked : (k b at : ℕ) (why : Stop) → ideal_current p s.tables r ≡ Some (instr.Measure k b) → at ≡ length s.circuit
      → StopsDrawn p at why (with_stop (drawing s.circuit outs) why (OfOutcome r (ideal_wire_in s.tables r k)))
  stopped_asked k b at why read is =
      record {
        asked = OfOutcome r (ideal_wire_in s.tables r k);
        stop = refl;
        taken = sym is;
        kept = outs;
        waiting = None;
        outcomes = sym (append-nil outs);
        place = tt;
        tapes = some_tapes p next.ready s outs h;
        begun = λ own ranks begin one.
            let q = with_tapes p own in
            let follow = begin_followed p s outs h own begin in
            let m = slice_index_or (left_of outs q r) 0 false in
            let x : Outcome = record { rank = r; wire = ideal_wire_in s.tables r k; at = length s.circuit; value = m } in
            let on = runs_on (instr.Measure k b) read m q (taped p own) (followed_push outs x q follow refl) ranks one in
            record {
              letters = ap (take (length s.circuit)) on.1 ∙ take_front s.circuit (Keep (ideal_wire_in s.tables r k) m ∷ on.0);
              next = (m, ap (λ c. slice_get c (length s.circuit)) on.1 ∙ behind s.circuit (Keep (ideal_wire_in s.tables r k) m) on.0);
              keeps = record { places = h.places; measured = ranks_measured (instr.Measure k b) read m q (taped p own) follow ranks one };
            };
      }

  module _ (i : Instr) (read : ideal_current p s.tables r ≡ Some i) (m : Bool) (done : List Letter) (next' : Letter) (rest : List Letter)
      (all : letters i read m ≡ done ++ next' ∷ rest) where
    abbrev taken : Circuit
    taken = s.circuit ++ done

    abbrev more : List Outcome
    more = drawn_by r i m s

    -- the letters that were taken of the step have no measurement
    keeps_none : keeps_from (length s.circuit) (letters i read m) ≡ map place_of more
    keeps_none =
        ap (λ (x : IdealRow). keeps_from (length s.circuit) x.letters) (told_row p p (λ k. refl) s (λ k. []) r m i) ∙ step_keeps p s r m i

    -- one letter alone, where the instruction measures
    alone : (k b : ℕ) → i ≡ instr.Measure k b → done ≡ []
    alone k b e = first_empty done next' rest (sym all ∙ ap (λ i. (ideal_row_of p (told s.tables m) r i).letters) e)
      where
        first_empty : (xs : List Letter) (y : Letter) (ys : List Letter) → xs ++ y ∷ ys ≡ Keep (ideal_wire_in s.tables r k) m ∷ [] → xs ≡ []
        first_empty [] y ys e = refl
        first_empty (x ∷ xs) y ys e =
            absurd (let n : length (x ∷ (xs ++ y ∷ ys)) ≡ 1 = ap length e in let l = length-append xs (y ∷ ys) in omega (arith, n, l))

    places_taken : keeps_from (length s.circuit) done ≡ []
    places_taken = elim (measures_or_not r i) [
      | inl (k, b, e) ↦ ap (keeps_from (length s.circuit)) (alone k b e)
      | inr none ↦ kept_none (length s.circuit) done (next' ∷ rest) (ap (keeps_from (length s.circuit)) (sym all) ∙ keeps_none ∙ ap (map place_of) (none m s))
    ]

    -- the outcome of the step, where it has one
    one_more : (w : Option Outcome) × (more ≡ option_to_list w) × IsAt (length taken) w
    one_more = elim (measures_or_not r i) [
      | inl (k, b, e) ↦ (
        Some (record { rank = r; wire = ideal_wire_in s.tables r k; at = length s.circuit; value = m }),
        ap (λ i. drawn_by r i m s) e,
        ap length (sym (append-nil s.circuit) ∙ ap (λ ls. s.circuit ++ ls) (sym (alone k b e))),
      )
      | inr none ↦ (None, none m s, tt)
    ]

    -- where it didn't take a letter
    pub stopped_writing : (at : ℕ) (why : Stop) → at ≡ length taken
        → StopsDrawn p at why (with_stop (drawing taken (outs ++ more)) why (OfLetter next'))
    stopped_writing at why is =
        let h' = drawn_more i read m in
        record {
          asked = OfLetter next';
          stop = refl;
          taken = sym is;
          kept = outs;
          waiting = one_more.0;
          outcomes = ap (λ xs. outs ++ xs) one_more.1;
          place = subst (λ n. IsAt n one_more.0) (sym is) one_more.2;
          tapes = some_tapes p next.ready (after i read m) (outs ++ more) h';
          begun = λ own ranks begin one.
              let q = with_tapes p own in
              let follow = begin_followed p (after i read m) (outs ++ more) h' own begin in
              let on = runs_on i read m q (taped p own) follow ranks one in
              let circuit : (ideal_replay q ranks).circuit ≡ taken ++ next' ∷ (rest ++ on.0) =
              on.1 ∙ ap (λ ls. s.circuit ++ (ls ++ on.0)) all ∙ ap (λ ls. s.circuit ++ ls) (append_assoc done (next' ∷ rest) on.0)
              ∙ sym (append_assoc s.circuit done (next' ∷ (rest ++ on.0))) in
              record {
                letters = ap (take (length taken)) circuit ∙ take_front taken (next' ∷ (rest ++ on.0));
                next = ap (λ c. slice_get c (length taken)) circuit ∙ behind taken next' (rest ++ on.0);
                keeps = record {
                  places = h.places ∙ sym (append-nil (keeps_from 0 s.circuit)) ∙ ap (λ ks. keeps_from 0 s.circuit ++ ks) (sym places_taken)
                      ∙ ap (λ n. keeps_from 0 s.circuit ++ keeps_from n done) (let e : length s.circuit ≡ 0 + length s.circuit = omega arith in e)
                      ∙ sym (keeps_append 0 s.circuit done);
                  measured = ranks_measured i read m q (taped p own) (followed_front outs more q follow) ranks one;
                };
              };
        }

  -- ---- so the error tells
  module _ (before feeds : Drawing → Type 0) (i : Instr) (read : ideal_current p s.tables r ≡ Some i) where
    pub explains_asked : (e : DrawnError) → before (drawing s.circuit outs) → ExplainsAsked before feeds s r i e → ExplainsDrawn p feeds e
    explains_asked error.Memory f x = tt
    explains_asked (error.Stopped at why) f x = (
      with_stop (drawing s.circuit outs) why (OfOutcome r (ideal_wire_in s.tables r x.slot)),
      x.fed outs f,
      stopped_asked x.slot x.bit at why (read ∙ ap Some x.measures) x.taken,
    )

    pub explains_writing : (m : Bool) (ls : List Letter) → ls ≡ (ideal_row_of p (told s.tables m) r i).letters → (e : DrawnError)
        → before (drawing s.circuit (outs ++ drawn_by r i m s)) → ExplainsWriting before feeds s.circuit ls e → ExplainsDrawn p feeds e
    explains_writing m ls same error.Memory f x = tt
    explains_writing m ls same (error.Stopped at why) f x = (
      with_stop (drawing (s.circuit ++ x.done) (outs ++ drawn_by r i m s)) why (OfLetter x.next),
      x.fed (outs ++ drawn_by r i m s) f,
      stopped_writing i read m x.done x.next x.rest (sym same ∙ x.all) at why x.taken,
    )
