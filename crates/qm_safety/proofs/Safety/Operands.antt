-- Each rank finds all that its next event needs
use Rattle.std.proofs.Common.{◌≡◌, ◌≢◌, ℕ, ◌<◌, ◌≤◌, Bool, true, false, List, [], ◌∷◌, All, Option, Some, None, is_some, length, refl, sym, ap, subst, ◌∙◌, arith}
use Rattle.std.proofs.lemmas.Bool.{lt-ltb}
use Rattle.std.proofs.lemmas.List.Elements.{All-nil, All-cons}
use Rattle.std.proofs.lemmas.Option.{same_Some}
use Rattle.qm_denot.specs.declared.Wire.{Wire}
use Rattle.qm_instr.specs.declared.Gate.{Gate}
use Rattle.qm_instr.specs.declared.Gate.TheVariants as gate
use Rattle.qm_instr.specs.declared.Instr.{Instr}
use Rattle.qm_instr.specs.declared.Instr.TheVariants as instr
use Rattle.qm_instr.specs.declared.Lane.{Lane}
use Rattle.qm_instr.specs.Counts.{events_of}
use Rattle.qm_instr.specs.Operands.{gate_slots, slots_of}
use Rattle.qm_instr.specs.Programs.{Programs, rank_of}
use Rattle.qm_check.specs.Messages.{lane_sends}
use Rattle.qm_check.specs.Operands.{gate_uses, uses_of}
use Rattle.qm_check.specs.Slots.{full_after}
use Rattle.qm_check.proofs.Faultless.{FindsSlots, before}
use Rattle.qm_proto.specs.declared.Act.{Act}
use Rattle.qm_proto.specs.declared.Act.TheVariants.{Fresh, Twin, Apply, SlotOut, NearOut, FarOut, Settle, Posts, Fills, Receives, OwnUsed, ProtocolUsed, FirstKept, BitSet}
use Rattle.qm_proto.specs.Model.Acts.{list_of, after_act}
use Rattle.qm_proto.specs.May.{Limits, MayDoAct, AllMay, limits_after}
use Rattle.qm_proto.specs.Model.Rows.{current}
use Rattle.qm_proto.specs.Model.Schedules.{replay}
use Rattle.qm_proto.specs.Model.State.{Tables, front}
use Rattle.qm_safety.specs.Safety.Legal.{IsLegalRun}
use Rattle.qm_safety.specs.Safety.Operands.{slot_filled, HasSlots, NamesRank, IsThere, AllThere, OperandsLaw}
use Rattle.qm_safety.specs.Tables.Lines.{acts_of}
use Rattle.qm_safety.specs.Tables.Well.{middle_of, Stands}
use Rattle.qm_safety.proofs.Safety.Mayings.{roomy_limits, well_here, step_at, next_here, may_acts, next_row}
use Rattle.qm_safety.proofs.Tables.RankSteps.{full_before, none_is, standing_at}
use Rattle.qm_safety.proofs.Tables.Stages.{within}

-- ---- slots
module _ (full : ℕ → Bool) where
  one_full : (q : ℕ) → full q ≡ true → All (λ k. full k ≡ true) (q ∷ [])
  one_full q h = All-cons (λ k. full k ≡ true) q [] h (All-nil (λ k. full k ≡ true))

  gate_full : (g : Gate) → FindsSlots full (gate_uses g) → All (λ k. full k ≡ true) (gate_slots g)
  gate_full (gate.One g q) h = one_full q h
  gate_full (gate.Cx c t) h = All-cons (λ k. full k ≡ true) c (t ∷ []) h.1 (one_full t h.2)
  gate_full (gate.Cz c t) h = All-cons (λ k. full k ≡ true) c (t ∷ []) h.1 (one_full t h.2)

  all_full : (i : Instr) → slot_filled i ≡ None → FindsSlots full (uses_of i) → All (λ k. full k ≡ true) (slots_of i)
  all_full (instr.Free q) none h = one_full q h
  all_full (instr.Do g) none h = gate_full g h
  all_full (instr.Measure q b) none h = one_full q h
  all_full (instr.When b g) none h = gate_full g h
  all_full (instr.CopyTo q to tag) none h = one_full q h
  all_full (instr.UndoTo q to tag) none h = one_full q h
  all_full (instr.UndoFrom q from tag) none h = one_full q h
  all_full (instr.MoveTo q to tag) none h = one_full q h
  all_full (instr.ReachTo q to tag) none h = one_full q h
  all_full (instr.ReachFrom q from tag) none h = one_full q h
  all_full (instr.Alloc q) none h = cc
  all_full (instr.CopyFrom q from tag) none h = cc
  all_full (instr.MoveFrom q from tag) none h = cc
  all_full _ none h = All-nil (λ k. full k ≡ true)

  one_empty : (i : Instr) (q : ℕ) → slot_filled i ≡ Some q → FindsSlots full (uses_of i) → full q ≡ false
  one_empty (instr.Alloc k) q e h = subst (λ j. full j ≡ false) (same_Some k q e) h
  one_empty (instr.CopyFrom k from tag) q e h = subst (λ j. full j ≡ false) (same_Some k q e) h
  one_empty (instr.MoveFrom k from tag) q e h = subst (λ j. full j ≡ false) (same_Some k q e) h
  one_empty _ q e h = cc

settles_none : (i : Instr) → slot_filled i ≡ None → (middle_of i).settles ≡ None
settles_none (instr.CopyFrom q from tag) e = cc
settles_none (instr.MoveFrom q from tag) e = cc
settles_none _ e = refl

-- past its first event an instruction that fills a slot has taken its half
settles_some : (i : Instr) (q s : ℕ) → slot_filled i ≡ Some q → 0 < s → s < events_of i → (middle_of i).settles ≡ Some q
settles_some (instr.Alloc k) q s e begun below = absurd (omega arith)
settles_some (instr.CopyFrom k from tag) q s e begun below = e
settles_some (instr.MoveFrom k from tag) q s e begun below = e
settles_some _ q s e begun below = cc

module _ (p : Programs) (schedule : List ℕ) (run : IsLegalRun p schedule) (r : ℕ) (known : r < length p.ranks) where
  abbrev t : Tables
  t = (replay p schedule).tables

  stands : (i : Instr) (s : ℕ) → current p t r ≡ Some i → (t.parts r).stage ≡ s → Stands r (rank_of p r) (middle_of i) (t.parts r).at s (t.parts r) (t.slots r) (t.near r)
  stands i s read stage = standing_at p t r i s read stage ((well_here p schedule run r known).ranks r)

  finds : (i : Instr) → current p t r ≡ Some i → FindsSlots (full_after (before p r (t.parts r).at)) (uses_of i)
  finds i read = (step_at p schedule run r known i read).slots

  pub has_slots : HasSlots p t r
  has_slots = record {
    full = λ i read none.
        let same : (λ q. full_after (before p r (t.parts r).at) q) ≡ (λ q. is_some (t.slots r q)) =
        λ j q. sym (full_before p t r i read (settles_none i none) ((well_here p schedule run r known).ranks r) q) j in
        subst (λ (f : ℕ → Bool). All (λ q. f q ≡ true) (slots_of i)) same (all_full (full_after (before p r (t.parts r).at)) i none (finds i read));
    empty = λ i q read e first.
        none_is (t.slots r q) ((stands i 0 read first).full q ∙ one_empty (full_after (before p r (t.parts r).at)) i q e (finds i read));
    taken = λ i q read e begun.
        let below = within p schedule run.legal r i read in
        (stands i (t.parts r).stage read refl).in_hand q (settles_some i q (t.parts r).stage e begun below) (lt-ltb 0 (t.parts r).stage begun);
  }

  names_rank : NamesRank p t r
  names_rank i d read e = let h = (step_at p schedule run r known i read).partner d e in (h.known, h.other)

-- ---- acts
-- no more ranks than there are, and no more room on a lane than its sends need
record IsLimited (p : Programs) (s : Limits) : Type 0 where
  ranks : s.ranks ≤ length p.ranks
  parcels : (a : Lane) → s.parcels a ≤ lane_sends p a

limited_after : (p : Programs) (act : Act) (s : Limits) → IsLimited p s → IsLimited p (limits_after act s)
limited_after p (Fresh q) s h = record { ranks = h.ranks; parcels = h.parcels }
limited_after p (Twin to) s h = record { ranks = h.ranks; parcels = h.parcels }
limited_after p (Apply l) s h = record { ranks = h.ranks; parcels = h.parcels }
limited_after p (SlotOut q m) s h = record { ranks = h.ranks; parcels = h.parcels }
limited_after p (NearOut m) s h = record { ranks = h.ranks; parcels = h.parcels }
limited_after p (FarOut f m) s h = record { ranks = h.ranks; parcels = h.parcels }
limited_after p _ s h = h

some_there : {A : Type 0} (o : Option A) → o ≢ None → is_some o ≡ true
some_there None h = absurd (h refl)
some_there (Some x) h = refl

module _ (p : Programs) (r : ℕ) where
  is_there : (s : Limits) → IsLimited p s → (act : Act) (t : Tables) → MayDoAct s r act t → IsThere p r act t
  is_there s h (Fresh q) t may = may.empty
  is_there s h (Twin to) t may = omega (arith, may.known, h.ranks)
  is_there s h (SlotOut q m) t may = ap (λ (o : Option Wire). is_some o) may.only.here
  is_there s h (NearOut m) t may = may.only.here
  is_there s h (FarOut f m) t may = may.only.here
  is_there s h (Settle f q) t may = (may.only.here, may.empty)
  is_there s h (Posts a x) t may = omega (arith, may, h.parcels a)
  is_there s h (Fills a b) t may = may
  is_there s h (Receives a) t may = some_there (front t a).bits may
  is_there s h OwnUsed t may = may
  is_there s h ProtocolUsed t may = may
  is_there s h (BitSet b v) t may = may
  is_there s h (Apply l) t may = tt
  is_there s h (FirstKept m) t may = tt

  all_there : (s : Limits) → IsLimited p s → (acts : List Act) (t : Tables) → AllMay s r acts t → AllThere p r acts t
  all_there s h [] t may = tt
  all_there s h (a ∷ acts) t may = (is_there s h a t may.0, all_there (limits_after a s) (limited_after p a s h) acts (after_act r a t) may.1)

pub operands_law : OperandsLaw
operands_law p schedule run r known =
    let t = (replay p schedule).tables in
    record {
      slots = has_slots p schedule run r known;
      partner = names_rank p schedule run r known;
      acts = λ able.
          let acts = list_of (next_here p schedule run r known able).w.acts in
          subst (λ o. AllThere p r (acts_of o) t) (sym (next_row p schedule run r known able))
          (all_there p r (roomy_limits p) (record { ranks = omega arith; parcels = λ a. omega arith }) acts t (may_acts p schedule run r known able));
    }
