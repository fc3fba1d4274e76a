-- A measurement that is impossible in some order leaves the ideal circuit zero, and so each end of the ideal run
use Rattle.std.proofs.Common.{append_assoc, ◌≡◌, ◌≢◌, ◌∙◌, ◌⊎◌, ℕ, zero, suc, ◌<◌, Bool, true, false, cond, inl, inr, List, [], ◌∷◌, ◌++◌, length, fold, Option, Some, None, slice_index_or, unwrap_or, refl, sym, ap, subst, rules}
use Rattle.qm_zomega.specs.Numbers.{zero_number}
use Rattle.qm_denot.specs.declared.Wire.{Wire}
use Rattle.qm_denot.specs.declared.Letter.{Letter}
use Rattle.qm_denot.specs.declared.Letter.TheVariants.{Phase, Flip, Had, Cx, Cz, Pair, Keep, Take, Rename}
use Rattle.qm_denot.specs.Wires.{Wires, has}
use Rattle.qm_denot.specs.Circuits.{Amplitudes, Circuit, amp, same_bit}
use Rattle.qm_denot.specs.CircuitFacts.{IsNonzero}
use Rattle.qm_denot.specs.Tags.{Tagged}
use Rattle.qm_denot.proofs.Amplitudes.{amp-append, amp-push}
use Rattle.qm_denot.proofs.Support.{Sector, LooksAt, IsZeroOn, nonzero_before}
use Rattle.qm_denot.proofs.Partings.{IsAmong, IsNamedBy}
use Rattle.qm_instr.specs.declared.OneGate.TheVariants as one
use Rattle.qm_instr.specs.declared.Gate.{Gate}
use Rattle.qm_instr.specs.declared.Gate.TheVariants as gate
use Rattle.qm_instr.specs.declared.Instr.{Instr}
use Rattle.qm_instr.specs.declared.Instr.TheVariants as instr
use Rattle.qm_instr.specs.Programs.{Programs, IsInRange}
use Rattle.qm_check.specs.Checks.{IsReady}
use Rattle.qm_proto.specs.declared.Cause.TheVariants as cause
use Rattle.qm_proto.specs.declared.Check.{Check}
use Rattle.qm_proto.specs.declared.Check.TheVariants.{Possible, Zero, Equal, Fits}
use Rattle.qm_proto.specs.Model.Acts.{list_of}
use Rattle.qm_proto.specs.Model.Ideal.{IdealPart, IdealTables, IdealState, ideal_enabled, ideal_current, ideal_next, ideal_replay, after_instr, instr_enabled, ideal_row_of, ideal_at_start, IsIdealFrom, IsIdealRun, IsOneRun, AllDone}
use Rattle.qm_proto.specs.Model.Places.{InSlot, IsAt}
use Rattle.qm_proto.specs.Model.Rows.{current, instr_at, letter_checks, gate_letter, few_if}
use Rattle.qm_proto.specs.Model.Runs.{Fails, FirstFails, row_checks, row_next, enabled, IsRefused}
use Rattle.qm_proto.specs.Model.Schedules.{replay, IsLegal}
use Rattle.qm_proto.specs.Model.State.{Tables, no_wire, wire_in, own_next, bit_of}
use Rattle.qm_proto.proofs.Firsts.{one_run-ideal}
use Rattle.qm_proto.proofs.IdealRuns.{ideal_after_both, ideal_run_append}
use Rattle.qm_confluence.specs.Confluence.{Alike}
use Rattle.qm_simulation.specs.Following.Debts.{Message, IsInCustody}
use Rattle.qm_simulation.specs.Following.Deciding.{ideal_of, outcomes_done}
use Rattle.qm_simulation.specs.Following.Seen.{tables_seen, part_seen}
use Rattle.qm_safety.specs.Tables.Lines.{row_at}
use Rattle.qm_confluence.proofs.Confluence.Confluent.{each_run_completes}
use Rattle.qm_simulation.proofs.Following.Events as events
use Rattle.qm_simulation.proofs.Following.FollowsIdeal.{FollowsIdeal, follows_ideal}
use Rattle.qm_simulation.proofs.Following.Owing.{known_of}
use Rattle.qm_simulation.proofs.Following.Places.{before_event}
use Rattle.qm_simulation.proofs.Following.Rewritings.{named_in_custody}
use Rattle.qm_simulation.proofs.Following.Safe.{step_in, operand_at, unitary_debts, custody}
use Rattle.qm_simulation.proofs.Following.TestsTransfer.{zero_on_both}
use Rattle.qm_proto.proofs.Lines.{never}
use Rattle.qm_safety.proofs.Tables.NextEvents.{IsNext, line_next, row_is}
use Rattle.qm_simulation.specs.Outcomes.{HasOutcomes, PossibleLaw}

-- ideal steps leave letters at the end of a circuit
more_letters : (p : Programs) (rs : List ℕ) (s : IdealState) → (ls : List Letter) × ((fold (ideal_next p) s rs).circuit ≡ s.circuit ++ ls)
more_letters p [] s = ([], search rules)
more_letters p (r ∷ rs) s =
    let later = more_letters p rs (ideal_next p s r) in
    let here = by_step (ideal_current p s.tables r) in
    (here.0 ++ later.0, later.1 ∙ ap (λ c. c ++ later.0) here.1 ∙ joined s.circuit here.0 later.0)
  where
    by_step : (o : Option Instr) → (ls : List Letter) × ((after_instr p s r o).circuit ≡ s.circuit ++ ls)
    by_step None = ([], search rules)
    by_step (Some i) = ((ideal_row_of p s.tables r i).letters, refl)

    joined : (a b c : List Letter) → (a ++ b) ++ c ≡ a ++ (b ++ c)
    joined a b c = append_assoc a b c

-- ---- no test but that of a measurement is refused as impossible
abbrev NoneIsChance : List Check → Type 0
NoneIsChance [] = Unit {0}
NoneIsChance (Possible w m ∷ ks) = ⊥
NoneIsChance (Zero w ∷ ks) = NoneIsChance ks
NoneIsChance (Equal w v ∷ ks) = NoneIsChance ks
NoneIsChance (Fits w ∷ ks) = NoneIsChance ks

no_chance : (g : Circuit) (ks : List Check) → NoneIsChance ks → ¬ FirstFails g ks cause.Impossible
no_chance g [] sure h = h
no_chance g (Possible w m ∷ ks) sure h = absurd sure
no_chance g (Zero w ∷ ks) sure (inl h) = let e = h.1 in cc
no_chance g (Equal w v ∷ ks) sure (inl h) = let e = h.1 in cc
no_chance g (Fits w ∷ ks) sure (inl h) = let e = h.1 in cc
no_chance g (Zero w ∷ ks) sure (inr h) = no_chance g ks sure h.1
no_chance g (Equal w v ∷ ks) sure (inr h) = no_chance g ks sure h.1
no_chance g (Fits w ∷ ks) sure (inr h) = no_chance g ks sure h.1

letter_sure : (l : Letter) → NoneIsChance (list_of (letter_checks l))
letter_sure (Phase k w) = tt
letter_sure (Flip w) = tt
letter_sure (Had w) = tt
letter_sure (Cx c v) = tt
letter_sure (Cz c v) = tt
letter_sure (Pair a b) = tt
letter_sure (Keep w m) = tt
letter_sure (Take w m) = tt
letter_sure (Rename a b) = tt

if_sure : (b : Bool) (l : Letter) → NoneIsChance (list_of (few_if b (letter_checks l)))
if_sure true l = letter_sure l
if_sure false l = tt

module _ (p : Programs) (ready : IsReady p) (ranges : IsInRange p) (one : HasOutcomes p) (rs : List ℕ) (legal : IsLegal p rs) (r : ℕ) where
  abbrev t : Tables
  t = (replay p rs).tables

  abbrev g : Circuit
  g = (replay p rs).circuit

  abbrev c : Circuit
  c = (ideal_replay p (ideal_of p rs)).circuit

  abbrev beside : FollowsIdeal p ready ranges rs
  beside = follows_ideal p ready ranges rs legal

  -- an ideal run of which this is the end, and one step more, leaves a circuit that is not zero
  nonzero_after : r < length p.ranks → ideal_enabled p (ideal_replay p (ideal_of p rs)).tables r ≡ true
      → IsNonzero (ideal_next p (ideal_replay p (ideal_of p rs)) r).circuit
  unfolding ideal_replay IsIdealRun
  nonzero_after known able =
      let s = ideal_at_start p in
      let qs = ideal_of p rs in
      let u = fold (ideal_next p) s qs in
      let v = ideal_next p u r in
      let run : IsIdealFrom p s (qs ++ r ∷ []) = ideal_run_append p qs (r ∷ []) s beside.run (known, able, tt) in
      let x = each_run_completes p ready ranges one.ranks (qs ++ r ∷ []) (one_run-ideal p one.ranks one.run) one.done run in
      let end = fold (ideal_next p) s ((qs ++ r ∷ []) ++ x.0) in
      let there : end ≡ fold (ideal_next p) v x.0 =
      ideal_after_both p (qs ++ r ∷ []) x.0 s ∙ ap (λ w. fold (ideal_next p) w x.0) (ideal_after_both p qs (r ∷ []) s) in
      let more = more_letters p x.0 v in
      let letters : end.circuit ≡ v.circuit ++ more.0 = ap (λ (w : IdealState). w.circuit) there ∙ more.1 in
      nonzero_part v.circuit more.0 (subst IsNonzero letters (one.some.0, λ z. one.some.1 (x.1.alike.amplitudes one.some.0 ∙ z)))
    where
      nonzero_part : (c ls : List Letter) → IsNonzero (c ++ ls) → IsNonzero c
      nonzero_part c ls some =
          let y = nonzero_before ls (amp c) some.0 (λ z. some.1 (ap (λ (f : Amplitudes). f some.0) (amp-append c ls) ∙ z)) in
          (y.0, y.2)

  -- ---- a measurement
  module _ (q b : ℕ) (next : IsNext p t r (instr.Measure q b) 0) where
    abbrev w : Wire
    w = wire_in t r q

    abbrev m : Bool
    m = own_next t r

    abbrev u : IdealState
    u = ideal_replay p (ideal_of p rs)

    part_same : u.tables.parts r ≡ part_seen (current p t r) 0 (t.parts r)
    part_same = ap (λ (x : IdealTables). x.parts r) beside.seen ∙ ap (λ s. part_seen (current p t r) s (t.parts r)) next.stage

    current_same : ideal_current p u.tables r ≡ Some (instr.Measure q b)
    current_same = ap (λ (x : IdealPart). instr_at p r x.at) part_same ∙ next.read

    able : ideal_enabled p u.tables r ≡ true
    able = ap (instr_enabled p u.tables r) current_same

    letter_same : (ideal_next p u r).circuit ≡ c ++ Keep w m ∷ []
    letter_same =
        ap (λ o. (after_instr p u r o).circuit) current_same
        ∙ ap (λ (x : IdealTables). c ++ Keep (unwrap_or (x.slots r q) no_wire) (slice_index_or (u.tables.parts r).own 0 false) ∷ []) beside.seen
        ∙ ap (λ (x : IdealPart). c ++ Keep w (slice_index_or x.own 0 false) ∷ []) part_same

    kept : IsNonzero (c ++ Keep w m ∷ [])
    kept = subst IsNonzero letter_same (nonzero_after next.known able)

    off : (v : Wire) → IsAmong (w ∷ []) v → (k : Message) → IsNamedBy beside.follow.debts v k → ⊥
    off =
        let i = instr.Measure q b in
        let here = before_event p t r i 0 next in
        let there : IsAt t w (InSlot r q) = operand_at p ready ranges t beside.stood r i 0 here q refl (step_in p ready ranges t beside.stood r i 0 here).slots in
        let free = events.fresh_slots p ready ranges t r beside.stood beside.counted i here refl in
        λ v h k named. events.slot_off p ready ranges t r beside.stood beside.counted q w there free k
        (subst (λ x. IsInCustody p t x k) (sym (events.one_wire w v h))
        (named_in_custody p t beside.stood.well.tidy (custody p ready ranges t beside.stood) beside.follow.debts beside.follow.following.owed v k named))

    looks : LooksAt (λ x. same_bit (has x w) m) (w ∷ [])
    looks x y agree = ap (λ b. same_bit b m) agree.0

    is_same : (a m : Bool) → same_bit a m ≡ true → a ≡ m
    is_same true m e = sym e
    is_same false true e = let n : ⊥ = cc in absurd n
    is_same false false e = refl

    measured : ¬ Fails g (Possible w m)
    measured fails =
        let zeros : IsZeroOn (λ x. same_bit (has x w) m) (amp g) = λ x e. fails x (is_same (has x w) m e) in
        let ideal = (zero_on_both p t (outcomes_done p rs) g c beside.follow.debts beside.follow.following (unitary_debts p ready ranges t beside.stood)
        (λ x. same_bit (has x w) m) (w ∷ []) looks off).0 zeros in
        kept.1 (amp-push c (Keep w m) kept.0 ∙ by_bit kept.0 (same_bit (has kept.0 w) m) refl ideal)
      where
        by_bit : (x : Wires) (b : Bool) → same_bit (has x w) m ≡ b → IsZeroOn (λ x. same_bit (has x w) m) (amp c) → cond b (amp c x) zero_number ≡ zero_number
        by_bit x true e ideal = ideal x e
        by_bit x false e ideal = refl

    measure_possible : ¬ FirstFails g (Possible w m ∷ []) cause.Impossible
    measure_possible (inl h) = measured h.0
    measure_possible (inr h) = h.1

  possible : (i : Instr) (s : ℕ) → IsNext p t r i s → ¬ FirstFails g (row_checks (row_at p t r i s)) cause.Impossible
  possible (instr.Alloc q) zero next h = no_chance g [] tt h
  possible (instr.Do x) zero next h = no_chance g _ (letter_sure (gate_letter (wire_in t r) x)) h
  possible (instr.Free q) zero next h = no_chance g (Zero (wire_in t r q) ∷ []) tt h
  possible (instr.Measure q b) zero next h = measure_possible q b next h
  possible (instr.Set b v) zero next h = no_chance g [] tt h
  possible (instr.Xor b c) zero next h = no_chance g [] tt h
  possible (instr.When b x) zero next h = no_chance g _ (if_sure (bit_of t r b) (gate_letter (wire_in t r) x)) h
  possible (instr.SendBit b to tag) zero next h = no_chance g [] tt h
  possible (instr.RecvBit b from tag) zero next h = no_chance g [] tt h
  possible (instr.CopyTo q to tag) zero next h = h
  possible (instr.CopyTo q to tag) (suc zero) next h = h
  possible (instr.CopyTo q to tag) (suc (suc zero)) next h = h
  possible (instr.CopyTo q to tag) (suc (suc (suc s))) next h = never next.holds
  possible (instr.CopyFrom q from tag) zero next h = h
  possible (instr.CopyFrom q from tag) (suc zero) next h = h
  possible (instr.CopyFrom q from tag) (suc (suc s)) next h = never next.holds
  possible (instr.UndoTo q to tag) zero next h = no_chance g (Equal _ _ ∷ Fits _ ∷ []) tt h
  possible (instr.UndoTo q to tag) (suc zero) next h = h
  possible (instr.UndoTo q to tag) (suc (suc s)) next h = never next.holds
  possible (instr.UndoFrom q from tag) zero next h = h
  possible (instr.UndoFrom q from tag) (suc zero) next h = h
  possible (instr.UndoFrom q from tag) (suc (suc s)) next h = never next.holds
  possible (instr.MoveTo q to tag) zero next h = h
  possible (instr.MoveTo q to tag) (suc zero) next h = h
  possible (instr.MoveTo q to tag) (suc (suc zero)) next h = no_chance g (Fits _ ∷ []) tt h
  possible (instr.MoveTo q to tag) (suc (suc (suc zero))) next h = h
  possible (instr.MoveTo q to tag) (suc (suc (suc (suc zero)))) next h = h
  possible (instr.MoveTo q to tag) (suc (suc (suc (suc (suc s))))) next h = never next.holds
  possible (instr.MoveFrom q from tag) zero next h = h
  possible (instr.MoveFrom q from tag) (suc zero) next h = h
  possible (instr.MoveFrom q from tag) (suc (suc zero)) next h = h
  possible (instr.MoveFrom q from tag) (suc (suc (suc s))) next h = never next.holds
  possible (instr.ReachTo q to tag) zero next h = h
  possible (instr.ReachTo q to tag) (suc zero) next h = h
  possible (instr.ReachTo q to tag) (suc (suc zero)) next h = h
  possible (instr.ReachTo q to tag) (suc (suc (suc zero))) next h = h
  possible (instr.ReachTo q to tag) (suc (suc (suc (suc zero)))) next h = h
  possible (instr.ReachTo q to tag) (suc (suc (suc (suc (suc s))))) next h = never next.holds
  possible (instr.ReachFrom q from tag) zero next h = h
  possible (instr.ReachFrom q from tag) (suc zero) next h = h
  possible (instr.ReachFrom q from tag) (suc (suc zero)) next h = h
  possible (instr.ReachFrom q from tag) (suc (suc (suc zero))) next h = no_chance g (Fits _ ∷ []) tt h
  possible (instr.ReachFrom q from tag) (suc (suc (suc (suc zero)))) next h = h
  possible (instr.ReachFrom q from tag) (suc (suc (suc (suc (suc s))))) next h = never next.holds
  possible _ (suc s) next h = never next.holds

pub possible_law : PossibleLaw
possible_law p ready ranges one rs legal r able h =
    let t = (replay p rs).tables in
    let found = line_next p t r (known_of p ready ranges t r able) able in
    possible p ready ranges one rs legal r found.i found.s found.next (subst (λ o. FirstFails (replay p rs).circuit (row_checks o) cause.Impossible) (row_is p t r found.i found.s found.next) h)
