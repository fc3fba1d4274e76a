-- The events that look at or lend another rank's wire keep the invariant: the test and the Post of an undo, and the Post of a reach
use Rattle.std.proofs.Common.{◌≡◌, ◌≢◌, ℕ, zero, suc, ◌+◌, ◌-◌, nat_eq, nat_lt, Bool, true, false, ◌&&◌, ◌⊎◌, inl, inr, List, [], ◌∷◌, ◌++◌, length, Option, Some, None, is_some, Contains, cond, refl, sym, ap, ap₂, subst, ◌∙◌, append-nil, append_assoc, arith, ⊎_elim}
use Rattle.std.proofs.lemmas.Bool.{cases_eq, and_parts, eqb-true}
use Rattle.std.proofs.lemmas.Option.{same_Some}
use Rattle.qm_zomega.specs.Numbers.{zero_number}
use Rattle.qm_zomega.proofs.Laws.Norms.{zero_or_not}
use Rattle.qm_denot.specs.declared.Wire.{Wire}
use Rattle.qm_denot.specs.declared.Letter.{Letter}
use Rattle.qm_denot.specs.declared.Letter.TheVariants.{Phase, Had, Cx, Take}
use Rattle.qm_denot.specs.Wires.{Wires, has}
use Rattle.qm_denot.specs.Circuits.{Amplitudes, Circuit, amp, IsBlank}
use Rattle.qm_denot.specs.CircuitFacts.{IsNonzero}
use Rattle.qm_denot.specs.Protocols.{letter_if, differing, differ, Agree}
use Rattle.qm_denot.specs.Tags.{Tagged, letters_with}
use Rattle.qm_denot.proofs.Amplitudes.{amp-append}
use Rattle.qm_denot.proofs.EqualUpTo.{equal_refl}
use Rattle.qm_denot.proofs.Moves.{LooksAt-differ}
use Rattle.qm_denot.proofs.Parities.{IsBlankIn-cross}
use Rattle.qm_denot.proofs.ProtocolLaws.{equal_uncopy, equal_reach}
use Rattle.qm_denot.proofs.Weights.{IsNonzero-append_unitary, IsNonzero-push_take_blank}
use Rattle.qm_denot.proofs.Partings.{AreNaming, IsAmong, IsNamedBy, naming_with}
use Rattle.qm_instr.specs.declared.Instr.{Instr}
use Rattle.qm_instr.specs.declared.Instr.TheVariants as instr
use Rattle.qm_instr.specs.declared.Kind.{Kind}
use Rattle.qm_instr.specs.declared.Kind.TheVariants as kind
use Rattle.qm_instr.specs.declared.Lane.{Lane}
use Rattle.qm_instr.specs.Lanes.{lane}
use Rattle.qm_instr.specs.Programs.{Programs, IsInRange}
use Rattle.qm_check.specs.Checks.{IsReady}
use Rattle.qm_denot.specs.declared.Parcel.{Parcel}
use Rattle.qm_proto.specs.declared.Check.TheVariants.{Equal}
use Rattle.qm_proto.specs.Model.State.{Part, Tables, wire_in, wire_of, protocol_next}
use Rattle.qm_proto.specs.Model.Rows.{current, instr_at, source_wire, wire_offered, bit_parcel}
use Rattle.qm_proto.specs.Model.Runs.{Fails, receives_on}
use Rattle.qm_proto.specs.Model.Places.{InSlot, IsAt}
use Rattle.qm_proto.specs.Model.Ideal.{ideal_wire_offered}
use Rattle.qm_safety.specs.Tables.Lines.{row_at, acts_of}
use Rattle.qm_simulation.specs.Following.Deciding.{is_decided}
use Rattle.qm_simulation.specs.Following.Seen.{tables_seen, part_seen}
use Rattle.qm_simulation.specs.Following.Debts.{Message, ByPair, BackTo, NoMessage, pair_of, is_message, Debt, debt, debt_if, debt_in, rank_debt, message_of, parcel_debt, parcel_letters, Holder, AtRank, OnLane, Owes, IsInCustody, slots_message, slots_message_in}
use Rattle.qm_simulation.specs.Following.Follows.{AgreeIn, Follows}
use Rattle.qm_confluence.specs.Counted.{IsCounted, NamesCounted}
use Rattle.qm_safety.proofs.Tables.NextEvents.{IsNext, part_elsewhere}
use Rattle.qm_simulation.proofs.Following.MessageTests.{message_itself}
use Rattle.qm_simulation.proofs.Following.Rewritings.{IsFree, one_custody, named_in_custody}
use Rattle.qm_confluence.proofs.Confluence.IdealWires.{AreWiresCounted, CountsGrow, counted_on, blank_where}
use Rattle.qm_simulation.proofs.Following.Invariant.{owed_by_none}
use Rattle.qm_simulation.proofs.Following.TestsTransfer.{zero_on_both}
use Rattle.qm_simulation.proofs.Following.UndoLinks.{receives_back}
use Rattle.qm_simulation.proofs.Following.Places.{IsIn, before_event, after, goes_on}
use Rattle.qm_simulation.proofs.Following.Stood.{IsStood}
use Rattle.qm_simulation.proofs.Following.Safe.{custody, unitary_debts, step_in, operand_at, lent_in, half_in, target_at, target_in, reached_waits, reached_message, lent_half, half_target, reached_half}
use Rattle.qm_simulation.proofs.Following.Frames.{rank_debt_at, fresh_debt, debt_on, debt_ended, same_lanes_kept, offered_same, debt_begun, not_none, lane_not_rank}
use Rattle.qm_simulation.proofs.Following.Agreeing.{IsGiving, giving, source_wire_at, agree_kept, own_agree}
use Rattle.qm_simulation.proofs.Following.Deeds.{GoesOn, ideal_grows, Brings, follow_own, follow_give}
use Rattle.qm_simulation.proofs.Following.Events.{Keeps, one_free, two_free, one_wire, one_named, own_free, slot_off, slot_free, uncounted, step_brings, not_back_none, not_back_pair}
use Rattle.qm_simulation.proofs.Following.Lending.{some_there}
use Rattle.qm_simulation.proofs.Following.SafeDebts.{no_debt}

pub same_rank : (a b c e : ℕ) → InSlot a b ≡ InSlot c e → a ≡ c
same_rank a b c e h = cc

pair_not_back : (a k d : ℕ) → ByPair a k ≡ BackTo d → ⊥
pair_not_back a k d e = let n : ⊥ = cc in n

back_parts : (a d : ℕ) → BackTo a ≡ BackTo d → a ≡ d
back_parts a d e = cc

-- the wire that the ideal machine is offered
pub offered_seen : (p : Programs) (t : Tables) (d : ℕ) (j : Instr) (k : ℕ) → IsIn p t d j k → is_decided (Some j) k ≡ false → ideal_wire_offered p (tables_seen p t) d ≡ source_wire p t d
offered_seen p t d j k here early =
    let v = t.parts d in
    let at : ((tables_seen p t).parts d).at ≡ v.at =
    ap₂ (λ o m. (part_seen o m v).at) here.read here.stage ∙ ap (λ b. cond b (v.at + 1) v.at) early in
    ap (λ m. wire_offered (wire_in t d) (instr_at p d m)) at

module _ (p : Programs) (ready : IsReady p) (ranges : IsInRange p) (t : Tables) (r : ℕ) (stood : IsStood p t) (ideal : AreWiresCounted (tables_seen p t)) where
  -- ---- who owes in an undo
  debt_message : (m : Option Message) (o : Option (List Letter)) (e : Debt) → debt_if m o ≡ Some e → m ≡ Some e.message
  debt_message None o e is = no_debt e is
  debt_message (Some k) None e is = no_debt e is
  debt_message (Some k) (Some ls) e is = ap (λ (x : Debt). Some x.message) (same_Some (debt k ls) e is)

  -- a rank that owes to rank d: one that gives a copy back to it, or itself
  back_rank : (j d : ℕ) (e : Debt) → rank_debt p t j ≡ Some e → e.message ≡ BackTo d → ((q : ℕ) × (tag : ℕ) × IsIn p t j (instr.UndoTo q d tag) 1) ⊎ (j ≡ d)
  back_rank j d e is m = by_read (current p t j) refl is
    where
      by_stage : (q to tag s : ℕ) → current p t j ≡ Some (instr.UndoTo q to tag) → (t.parts j).stage ≡ s → to ≡ d
          → debt_in j (t.parts j) (wire_in t j) (source_wire p t) (Some (instr.UndoTo q to tag)) s ≡ Some e → ((x : ℕ) × (g : ℕ) × IsIn p t j (instr.UndoTo x d g) 1) ⊎ (j ≡ d)
      by_stage q to tag zero read stage same is = no_debt e is
      by_stage q to tag (suc zero) read stage same is = inl (q, tag, subst (λ k. IsIn p t j (instr.UndoTo q k tag) 1) same (record { read = read; stage = stage }))
      by_stage q to tag (suc (suc s)) read stage same is = no_debt e is

      by_instr : (i : Instr) → current p t j ≡ Some i → message_of j (t.parts j) i ≡ Some (BackTo d)
          → debt_in j (t.parts j) (wire_in t j) (source_wire p t) (Some i) (t.parts j).stage ≡ Some e → ((x : ℕ) × (g : ℕ) × IsIn p t j (instr.UndoTo x d g) 1) ⊎ (j ≡ d)
      by_instr (instr.UndoTo q to tag) read k is = by_stage q to tag (t.parts j).stage read refl (back_parts to d (same_Some _ _ k)) is
      by_instr (instr.UndoFrom q from tag) read k is = inr (back_parts j d (same_Some _ _ k))
      by_instr (instr.CopyTo q to tag) read k is = absurd (pair_not_back _ _ d (same_Some _ _ k))
      by_instr (instr.CopyFrom q to tag) read k is = absurd (pair_not_back _ _ d (same_Some _ _ k))
      by_instr (instr.MoveTo q to tag) read k is = absurd (pair_not_back _ _ d (same_Some _ _ k))
      by_instr (instr.MoveFrom q to tag) read k is = absurd (pair_not_back _ _ d (same_Some _ _ k))
      by_instr (instr.ReachTo q to tag) read k is = absurd (pair_not_back _ _ d (same_Some _ _ k))
      by_instr (instr.ReachFrom q to tag) read k is = absurd (pair_not_back _ _ d (same_Some _ _ k))
      by_instr _ read k is = absurd (let n : ⊥ = cc in n)

      by_read : (o : Option Instr) → current p t j ≡ o → debt_in j (t.parts j) (wire_in t j) (source_wire p t) o (t.parts j).stage ≡ Some e
          → ((x : ℕ) × (g : ℕ) × IsIn p t j (instr.UndoTo x d g) 1) ⊎ (j ≡ d)
      by_read None read is = no_debt e is
      by_read (Some i) read is = by_instr i read (debt_message (message_of j (t.parts j) i) _ e is ∙ ap (λ k. Some k) m) is

  -- a parcel that owes to rank d is an answer on its way to it
  back_parcel : (a : Lane) (x : Parcel) (d : ℕ) (e : Debt) → parcel_debt p t a x ≡ Some e → e.message ≡ BackTo d → (a.kind ≡ kind.Undo) × (a.to ≡ d)
  back_parcel a x d e is m = by_bits (is_some x.bits) is
    where
      by_kind : (k : Kind) → a.kind ≡ k → parcel_letters p t a k x ≡ Some e → (a.kind ≡ kind.Undo) × (a.to ≡ d)
      by_kind kind.Undo same is = (same, back_parts a.to d (ap (λ (z : Debt). z.message) (same_Some _ _ is) ∙ m))
      by_kind kind.Bit same is = no_debt e is
      by_kind kind.Copy same is = absurd (pair_not_back _ _ d (ap (λ (z : Debt). z.message) (same_Some _ _ is) ∙ m))
      by_kind kind.Move same is = absurd (pair_not_back _ _ d (ap (λ (z : Debt). z.message) (same_Some _ _ is) ∙ m))
      by_kind kind.Reach same is = absurd (pair_not_back _ _ d (ap (λ (z : Debt). z.message) (same_Some _ _ is) ∙ m))
      by_kind kind.Back same is = absurd (pair_not_back _ _ d (ap (λ (z : Debt). z.message) (same_Some _ _ is) ∙ m))

      by_bits : (b : Bool) → cond b (parcel_letters p t a a.kind x) None ≡ Some e → (a.kind ≡ kind.Undo) × (a.to ≡ d)
      by_bits true is = by_kind a.kind refl is
      by_bits false is = no_debt e is

  -- ---- an undo before its test
  module _ (q d tag : ℕ) (next : IsNext p t r (instr.UndoTo q d tag) 0) where
    -- the source's rank stands ready, and the lane is empty
    pub record IsAsking : Type 0 where
      pub source : ℕ
      pub ready_there : IsIn p t d (instr.UndoFrom source r tag) 0
      pub empty : length (t.lanes (lane r d kind.Undo tag)) ≡ 0

    pub asking : IsAsking
    asking =
        let a = lane r d kind.Undo tag in
        let one = and_parts (nat_eq (t.parts d).stage 0) (receives_on d (current p t d) a && nat_eq (length (t.lanes a)) 0) next.holds in
        let two = and_parts (receives_on d (current p t d) a) (nat_eq (length (t.lanes a)) 0) one.1 in
        let back = receives_back d r tag (current p t d) two.0 in
        record { source = back.0; ready_there = record { read = back.1; stage = eqb-true (t.parts d).stage 0 one.0 }; empty = eqb-true (length (t.lanes a)) 0 two.1 }

    -- another rank for which the source's rank stands ready is this one
    same_asker : (o g source : ℕ) → IsIn p t d (instr.UndoFrom source o g) 0 → (o ≡ r) × (g ≡ tag)
    same_asker o g source here =
        let e : instr.UndoFrom source o g ≡ instr.UndoFrom asking.source r tag = same_Some _ _ (sym here.read ∙ asking.ready_there.read) in
        (froms source o g asking.source r tag e, tags source o g asking.source r tag e)
      where
        froms : (a b c x y z : ℕ) → instr.UndoFrom a b c ≡ instr.UndoFrom x y z → b ≡ y
        froms a b c x y z e = cc

        tags : (a b c x y z : ℕ) → instr.UndoFrom a b c ≡ instr.UndoFrom x y z → c ≡ z
        tags a b c x y z e = cc

    nobody : (h : Holder) (e : Debt) → h ≢ AtRank r → Owes p t h e → e.message ≢ BackTo d
    nobody (AtRank j) e ne owes m =
        ⊎_elim
        (λ (x : (y : ℕ) × (g : ℕ) × IsIn p t j (instr.UndoTo y d g) 1).
        let give = giving p ready ranges t r stood (instr.UndoTo q d tag) 0 next j x.0 d x.1 x.2 in
        ne (ap AtRank (same_asker j x.1 give.source give.ready_there).0))
        (λ (same : j ≡ d).
        let low = owes_begun j e owes in
        let z : nat_lt 0 0 ≡ true = ap (nat_lt 0) (sym asking.ready_there.stage) ∙ subst (λ k. nat_lt 0 (t.parts k).stage ≡ true) same low in
        let n : ⊥ = cc in n)
        (back_rank j d e owes m)
      where
        owes_begun : (j : ℕ) (e : Debt) → rank_debt p t j ≡ Some e → nat_lt 0 (t.parts j).stage ≡ true
        owes_begun j e owes = debt_begun p t j e owes
    nobody (OnLane a x) e ne owes m =
        let it = back_parcel a x d e owes.1 m in
        let is_lane : a ≡ lane a.from d kind.Undo a.tag = ap₂ (λ k o. lane a.from o k a.tag) it.0 it.1 in
        let there = some_there _ x (subst (λ l. Contains (t.lanes l) x) is_lane owes.0) in
        let apart : d ≢ a.from = λ f. (let z : length (t.lanes a) ≡ 0 = ap (λ (ys : List Parcel). length ys) (stood.selfless a (sym f ∙ sym it.1)) in let low = some_there (t.lanes a) x owes.0 in omega arith) in
        let ready_for = (stood.undo a.from d a.tag apart).posted there in
        let same = same_asker a.from a.tag ready_for.0 ready_for.1 in
        let lanes : lane a.from d kind.Undo a.tag ≡ lane r d kind.Undo tag = ap₂ (λ o g. lane o d kind.Undo g) same.0 same.1 in
        let size : length (t.lanes (lane a.from d kind.Undo a.tag)) ≡ 0 = ap (λ l. length (t.lanes l)) lanes ∙ asking.empty in
        omega arith

    other : d ≢ r
    other = ((step_in p ready ranges t stood r (instr.UndoTo q d tag) 0 (before_event p t r (instr.UndoTo q d tag) 0 next)).partner d refl).other

    copy_at : IsAt t (wire_in t r q) (InSlot r q)
    copy_at =
        let i = instr.UndoTo q d tag in
        let here = before_event p t r i 0 next in
        operand_at p ready ranges t stood r i 0 here q refl (step_in p ready ranges t stood r i 0 here).slots

    free_slots : slots_message p t r ≡ None
    free_slots = ap (slots_message_in r (t.parts r)) next.read ∙ ap (λ s. cond (nat_lt 0 s) (Some (BackTo d)) None) next.stage

    -- where the test isn't refused, the copy and its source are equal in the ideal circuit
    module _ (n : ℕ) (g c : Circuit) (ds : Tagged Message) (before : Follows p t n g c ds) where
      equal_in_ideal : ¬ Fails g (Equal (wire_in t r q) (source_wire p t d)) → Agree (amp c) (source_wire p t d) (wire_in t r q)
      equal_in_ideal passes =
          let v = source_wire p t d in
          let w = wire_in t r q in
          (zero_on_both p t n g c ds before (unitary_debts p ready ranges t stood) (differ v w) (v ∷ w ∷ []) (LooksAt-differ v w) off).0 (λ y differs. zero_at y differs (zero_or_not (amp g y)))
        where
          zero_at : (y : Wires) → differ (source_wire p t d) (wire_in t r q) y ≡ true → (amp g y ≡ zero_number) ⊎ (amp g y ≢ zero_number) → amp g y ≡ zero_number
          zero_at y differs (inl e) = e
          zero_at y differs (inr some) = absurd (passes (y, other_bits (has y (source_wire p t d)) (has y (wire_in t r q)) differs, some))
            where
              other_bits : (a b : Bool) → differing a b ≡ true → b ≢ a
              other_bits true true e h = let n : ⊥ = cc in n
              other_bits true false e h = let n : ⊥ = cc in n
              other_bits false true e h = let n : ⊥ = cc in n
              other_bits false false e h = let n : ⊥ = cc in n

          nobody_owes : (h : Holder) (e : Debt) → Owes p t h e → e.message ≢ BackTo d
          nobody_owes (OnLane a x) e o = nobody (OnLane a x) e (λ z. lane_not_rank a x r z) o
          nobody_owes (AtRank j) e o =
              ⊎_elim (λ (same : j ≡ r). absurd (not_none (rank_debt p t r) e (fresh_debt p t r next.stage) (subst (λ k. rank_debt p t k ≡ Some e) same o)))
              (λ (ne : j ≢ r). nobody (AtRank j) e (λ z. ne (numbers j z)) o) (cases_eq j r)
            where
              numbers : (j : ℕ) → AtRank j ≡ AtRank r → j ≡ r
              numbers j z = cc

          -- no debt names either of them
          off : (x : Wire) → IsAmong (source_wire p t d ∷ wire_in t r q ∷ []) x → (k : Message) → IsNamedBy ds x k → ⊥
          off x (inl e) k named =
              let in_k = named_in_custody p t stood.well.tidy (custody p ready ranges t stood) ds before.owed x k named in
              let source = source_wire_at p ready ranges t r stood (instr.UndoTo q d tag) 0 next r d tag asking.source asking.ready_there in
              let is : BackTo d ≡ k = one_custody p t stood.well.tidy (custody p ready ranges t stood) x (BackTo d) k (subst (λ y. IsInCustody p t y (BackTo d)) e source.1) in_k in
              no_letters x k named (owed_by_none p t n g c ds before k (λ h b o s. nobody_owes h b o (s ∙ sym is)))
            where
              no_letters : (u : Wire) (k : Message) → IsNamedBy ds u k → letters_with is_message k ds ≡ [] → ⊥
              no_letters u k named none = subst (λ ls. AreNaming ls u) none (naming_with is_message message_itself ds u k named)
          off x (inr h) k named =
              let in_k : IsInCustody p t x k = named_in_custody p t stood.well.tidy (custody p ready ranges t stood) ds before.owed x k named in
              slot_off p ready ranges t r stood ideal q (wire_in t r q) copy_at free_slots k (subst (λ y. IsInCustody p t y k) (sym (one_wire (wire_in t r q) x h)) in_k)

    -- the copy's Hadamard gate is owed from then on
    pub test_follows : Keeps p t r (instr.UndoTo q d tag) 0
    test_follows n g c ds before seen allowed =
        let i = instr.UndoTo q d tag in
        let w = wire_in t r q in
        let u = after p t r i 0 in
        let k = BackTo d in
        let acts = acts_of (row_at p t r i 0) in
        let agree = equal_in_ideal n g c ds before allowed.0 in
        let on = goes_on p t r 2 acts i 0 next refl in
        let now : Agree (amp (c ++ [])) (source_wire p u d) (wire_in t r q) =
        subst (λ z. Agree (amp (c ++ [])) z (wire_in t r q)) (sym (offered_same p t r 2 acts d other)) (subst (λ x. Agree (amp x) (source_wire p t d) (wire_in t r q)) (sym (append-nil c)) agree) in
        follow_own p ready ranges t r stood i 0 next n g c ds before k None (Some (Had w ∷ [])) (Had w ∷ []) [] 0
        (fresh_debt p t r next.stage) (debt_on p t r 2 acts i 0 next refl) (same_lanes_kept p t u refl) nobody (equal_refl (c ++ Had w ∷ []))
        (record {
          free = λ x h. subst (IsFree p t k) (one_named (Had w) w x refl h) (slot_free p ready ranges t r stood ideal q w k copy_at free_slots);
          grow = ideal_grows p t u r i 0 seen;
          named = tt;
          agree = agree_kept p ready ranges t r stood i 0 next c NoMessage [] (λ x h. absurd h) (λ o b e g _ _. not_back_none e) before.agree
              (λ _. subst (AgreeIn p u r (c ++ [])) (sym on.read) now);
          nonzero = subst IsNonzero (sym (append-nil c)) before.nonzero;
        })

  -- ---- the deciding Post of an undo: the copy is given up, and its source corrected later
  module _ (q d tag : ℕ) (next : IsNext p t r (instr.UndoTo q d tag) 1) where
    pub gives : IsGiving p ready ranges t r stood (instr.UndoTo q d tag) 1 next r q d tag
    gives = giving p ready ranges t r stood (instr.UndoTo q d tag) 1 next r q d tag (before_event p t r (instr.UndoTo q d tag) 1 next)

    pub two_wires : source_wire p t d ≢ wire_in t r q
    two_wires e =
        let x = gives in
        x.other (same_rank d x.source r q (stood.well.tidy.one_place (wire_in t r q) (InSlot d x.source) (InSlot r q) (subst (λ w. IsAt t w (InSlot d x.source)) e x.source_at) x.copy_at))

    pub give_follows : Keeps p t r (instr.UndoTo q d tag) 1
    give_follows n g c ds before seen allowed =
        let i = instr.UndoTo q d tag in
        let x = gives in
        let v = source_wire p t d in
        let w = wire_in t r q in
        let m = protocol_next t r in
        let acts = acts_of (row_at p t r i 1) in
        let u = after p t r i 1 in
        let a = lane r d kind.Undo tag in
        let k = BackTo d in
        let ys = letter_if m (Phase 4 v) in
        let agree : Agree (amp c) v w = subst (AgreeIn p t r c) next.read (before.agree r next.stage) in
        let posted : parcel_debt p u a (bit_parcel m) ≡ Some (debt k ys) = ap (λ s. Some (debt k (letter_if m (Phase 4 s)))) (offered_same p t r 2 acts d x.other) in
        let blank : IsBlank (c ++ Cx v w ∷ []) w = λ y h. ap (λ (f : Amplitudes). f y) (amp-append c (Cx v w ∷ [])) ∙ IsBlankIn-cross (amp c) v w two_wires agree y h in
        let crossed : IsNonzero (c ++ Cx v w ∷ []) = IsNonzero-append_unitary c (Cx v w ∷ []) (two_wires, tt) before.nonzero in
        let grow = ideal_grows p t u r i 1 seen in
        let v_in : IsCounted (tables_seen p t) v = ideal.slots d x.source v x.source_at in
        let w_in : IsCounted (tables_seen p t) w = ideal.slots r q w x.copy_at in
        let ms = Cx v w ∷ Take w false ∷ [] in
        let follows : GoesOn p t r u k (Some (a, bit_parcel m)) None (n + 1) (g ++ Take w m ∷ []) (c ++ ms) =
        follow_give p ready ranges t r stood i 1 next n g c ds before k (Had w ∷ []) ys (Take w m ∷ []) ms 1 a (bit_parcel m) (t.lanes a)
        (rank_debt_at p t r i 1 (before_event p t r i 1 next)) (debt_ended p t r 2 acts i 1 next refl) refl (λ z h. h) (λ z h _. h) posted
        (equal_uncopy c v w two_wires agree m)
        (step_brings_back n g c ds before grow (Take w m ∷ []) ms
        (λ z h. subst (IsFree p t k) (one_named (Take w m) w z refl h) (own_free p ready ranges t r stood ideal w k x.copy_in))
        (λ z h. ideal_free z h)
        ((counted_on (tables_seen p t) (tables_seen p u) v grow v_in, (counted_on (tables_seen p t) (tables_seen p u) w grow w_in, tt)), ((counted_on (tables_seen p t) (tables_seen p u) w grow w_in, tt), tt))
        (subst IsNonzero (append_assoc c (Cx v w ∷ []) (Take w false ∷ [])) (IsNonzero-push_take_blank (c ++ Cx v w ∷ []) w blank crossed))) in
        subst (λ z. GoesOn p t r u k (Some (a, bit_parcel m)) None (n + 1) (g ++ Take w m ∷ []) (c ++ Cx z w ∷ Take w false ∷ [])) (sym (offered_seen p t d (instr.UndoFrom x.source r tag) 0 x.ready_there refl)) follows
      where
        ideal_free : (z : Wire) → AreNaming (Cx (source_wire p t d) (wire_in t r q) ∷ Take (wire_in t r q) false ∷ []) z → IsFree p t (BackTo d) z
        ideal_free z (inl h) = two_free p ready ranges t r stood ideal (Cx (source_wire p t d) (wire_in t r q)) (source_wire p t d) (wire_in t r q) (BackTo d) refl gives.source_in gives.copy_in z (inl h)
        ideal_free z (inr h) = one_free p ready ranges t r stood ideal (Take (wire_in t r q) false) (wire_in t r q) (BackTo d) refl gives.copy_in z h

        -- no other rank gives a copy back to the same rank
        other_source : (o b e f : ℕ) → IsIn p t o (instr.UndoTo b e f) 1 → o ≢ r → BackTo d ≢ BackTo e
        other_source o b e f here ne same =
            let y = giving p ready ranges t r stood (instr.UndoTo q d tag) 1 next o b e f here in
            let z = gives in
            let to_d : IsIn p t d (instr.UndoFrom y.source o f) 0 = subst (λ k. IsIn p t k (instr.UndoFrom y.source o f) 0) (sym (back_parts d e same)) y.ready_there in
            ne (froms y.source o f z.source r tag (same_Some _ _ (sym to_d.read ∙ z.ready_there.read)))
          where
            froms : (a b c x y z : ℕ) → instr.UndoFrom a b c ≡ instr.UndoFrom x y z → b ≡ y
            froms a b c x y z e = cc

        step_brings_back : (n : ℕ) (g c : Circuit) (ds : Tagged Message) (before : Follows p t n g c ds)
            → CountsGrow (tables_seen p t) (tables_seen p (after p t r (instr.UndoTo q d tag) 1)) → (ls ms : List Letter)
            → ((z : Wire) → AreNaming ls z → IsFree p t (BackTo d) z) → ((z : Wire) → AreNaming ms z → IsFree p t (BackTo d) z)
            → NamesCounted (tables_seen p (after p t r (instr.UndoTo q d tag) 1)) ms → IsNonzero (c ++ ms)
            → Brings p ready ranges t r stood (instr.UndoTo q d tag) 1 next n g c ds before (BackTo d) ls ms
        step_brings_back n g c ds before grow ls ms free free_ideal named nonzero =
            let i = instr.UndoTo q d tag in
            record {
              free = free;
              grow = grow;
              named = named;
              agree = agree_kept p ready ranges t r stood i 1 next c (BackTo d) ms free_ideal other_source before.agree (own_agree p ready ranges t r stood i 1 next (c ++ ms) refl);
              nonzero = nonzero;
            }

  -- ---- the deciding Post of a reach
  pub reach_give_follows : (q from tag : ℕ) → IsNext p t r (instr.ReachFrom q from tag) 4 → Keeps p t r (instr.ReachFrom q from tag) 4
  reach_give_follows q from tag next n g c ds before seen allowed =
      let i = instr.ReachFrom q from tag in
      let here = before_event p t r i 4 next in
      let w = source_wire p t from in
      let v = wire_in t r q in
      let f = wire_of (t.parts r).taken in
      let m = protocol_next t r in
      let acts = acts_of (row_at p t r i 4) in
      let u = after p t r i 4 in
      let a = lane r from kind.Back tag in
      let k = pair_of f in
      let other = ((step_in p ready ranges t stood r i 4 here).partner from refl).other in
      let waits = reached_waits p ready ranges t stood r q from tag 4 here refl in
      let j = instr.ReachTo waits.slot r tag in
      let offered : w ≡ wire_in t from waits.slot = ap (wire_offered (wire_in t from)) waits.here.read in
      let source_at : IsAt t w (InSlot from waits.slot) = subst (λ z. IsAt t z (InSlot from waits.slot)) (sym offered) (operand_at p ready ranges t stood from j 3 waits.here waits.slot refl (step_in p ready ranges t stood from j 3 waits.here).slots) in
      let v_at = target_at p ready ranges t stood r q from tag 4 here refl in
      let wv : w ≢ v = λ e. other (same_rank from waits.slot r q (stood.well.tidy.one_place v (InSlot from waits.slot) (InSlot r q) (subst (λ z. IsAt t z (InSlot from waits.slot)) e source_at) v_at)) in
      let wf = lent_half p ready ranges t stood r q from tag 4 here refl in
      let fv = half_target p ready ranges t stood r q from tag 4 here refl in
      let f_out : ¬ IsCounted (tables_seen p t) f =
      subst (λ z. ¬ IsCounted (tables_seen p t) z) (sym (reached_half p ready ranges t stood r q from tag 4 here refl)) (uncounted p ready ranges t r stood ideal from j 3 waits.here refl) in
      let blank = blank_where (tables_seen p t) c f before.named f_out in
      let ys = letter_if m (Phase 4 w) in
      let posted : parcel_debt p u a (bit_parcel m) ≡ Some (debt k ys) =
      ap₂ (λ (y : Part) s. Some (debt (ByPair from (y.made - 1)) (letter_if m (Phase 4 s)))) (part_elsewhere 5 r from acts t other) (offered_same p t r 5 acts from other)
      ∙ ap (λ z. Some (debt z ys)) (sym (reached_message p ready ranges t stood r q from tag 4 here refl)) in
      let grow = ideal_grows p t u r i 4 seen in
      let own_w = lent_in p ready ranges t stood r q from tag 4 here refl in
      let own_v = target_in p ready ranges t stood r q from tag 4 here refl in
      let follows : GoesOn p t r u k (Some (a, bit_parcel m)) None (n + 1) (g ++ Take f m ∷ []) (c ++ Cx w v ∷ []) =
      follow_give p ready ranges t r stood i 4 next n g c ds before k (Cx w f ∷ Cx f v ∷ Had f ∷ []) ys (Take f m ∷ []) (Cx w v ∷ []) 1 a (bit_parcel m) (t.lanes a)
      (rank_debt_at p t r i 4 here) (debt_ended p t r 5 acts i 4 next refl) refl (λ z h. h) (λ z h _. h) posted (equal_reach c w f v wf wv fv blank m)
      (step_brings p ready ranges t r stood ideal i 4 next n g c ds before grow refl k (Take f m ∷ []) (Cx w v ∷ []) (λ d. not_back_pair f.rank f.made d)
      (one_free p ready ranges t r stood ideal (Take f m) f k refl (half_in p ready ranges t stood r q from tag 4 here refl))
      (two_free p ready ranges t r stood ideal (Cx w v) w v k refl own_w own_v)
      ((counted_on (tables_seen p t) (tables_seen p u) w grow (ideal.slots from waits.slot w source_at), (counted_on (tables_seen p t) (tables_seen p u) v grow (ideal.slots r q v v_at), tt)), tt)
      (IsNonzero-append_unitary c (Cx w v ∷ []) (wv, tt) before.nonzero)) in
      subst (λ z. GoesOn p t r u k (Some (a, bit_parcel m)) None (n + 1) (g ++ Take f m ∷ []) (c ++ Cx z v ∷ [])) (sym (offered_seen p t from j 3 waits.here refl)) follows
