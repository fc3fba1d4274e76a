-- A copy that is being given up and its source stay equal in the ideal circuit
use Rattle.std.proofs.Common.{◌≡◌, ◌≢◌, ℕ, zero, ◌+◌, nat_lt, Bool, true, false, inl, inr, List, [], ◌∷◌, ◌++◌, Option, Some, None, refl, sym, ap, subst, ◌∙◌, arith, ⊎_elim}
use Rattle.std.proofs.lemmas.Bool.{cases_eq}
use Rattle.std.proofs.lemmas.Option.{same_Some}
use Rattle.qm_denot.specs.declared.Wire.{Wire}
use Rattle.qm_denot.specs.declared.Letter.{Letter}
use Rattle.qm_denot.specs.Circuits.{Amplitudes, Circuit, amp}
use Rattle.qm_denot.specs.Protocols.{Agree}
use Rattle.qm_denot.specs.Weights.{operands}
use Rattle.qm_denot.proofs.Agreement.{Apart, LettersApart}
use Rattle.qm_denot.proofs.Amplitudes.{amp-append}
use Rattle.qm_denot.proofs.Moves.{Agree-with_letters}
use Rattle.qm_denot.proofs.Partings.{AreNaming, IsAmong}
use Rattle.qm_instr.specs.declared.Instr.{Instr}
use Rattle.qm_instr.specs.declared.Instr.TheVariants as instr
use Rattle.qm_instr.specs.declared.Kind.TheVariants as kind
use Rattle.qm_instr.specs.Counts.{events_of}
use Rattle.qm_instr.specs.Lanes.{lane}
use Rattle.qm_instr.specs.Programs.{Programs, IsInRange}
use Rattle.qm_check.specs.Checks.{IsReady}
use Rattle.qm_proto.specs.Model.State.{Part, Tables, wire_in}
use Rattle.qm_proto.specs.Model.Rows.{current, instr_at, source_wire, wire_offered}
use Rattle.qm_proto.specs.Model.Runs.{row_holds}
use Rattle.qm_proto.specs.Model.Places.{InSlot, IsAt}
use Rattle.qm_safety.specs.Tables.Lines.{row_at, acts_of}
use Rattle.qm_simulation.specs.Following.Debts.{Message, BackTo, slots_message_in, IsInCustody}
use Rattle.qm_simulation.specs.Following.Follows.{AgreeIn}
use Rattle.qm_safety.proofs.Tables.NextEvents.{IsNext, event_done, part_elsewhere}
use Rattle.qm_simulation.proofs.Following.Rewritings.{IsFree}
use Rattle.qm_simulation.proofs.Following.Places.{IsIn, goes_on, fresh_stage, other_wires}
use Rattle.qm_simulation.proofs.Following.Stood.{IsStood}
use Rattle.qm_simulation.proofs.Following.Safe.{step_in, operand_at, slot_in}
use Rattle.qm_simulation.proofs.Following.Frames.{offered_same}
use Rattle.qm_simulation.proofs.Following.UndoLinks.{no_front}

-- ---- letters that name neither of two wires
apart_two : (v w : Wire) (ws : List Wire) → ((x : Wire) → IsAmong ws x → (v ≢ x) × (w ≢ x)) → Apart ws (v ∷ w ∷ [])
apart_two v w [] off = tt
apart_two v w (x ∷ ws) off = let h = off x (inl refl) in ((h.0, (h.1, tt)), apart_two v w ws (λ y n. off y (inr n)))

letters_two : (v w : Wire) (ls : List Letter) → ((x : Wire) → AreNaming ls x → (v ≢ x) × (w ≢ x)) → LettersApart ls (v ∷ w ∷ [])
letters_two v w [] off = tt
letters_two v w (l ∷ ls) off = (apart_two v w (operands l) (λ x n. off x (inl n)), letters_two v w ls (λ x n. off x (inr n)))

-- the first event of an undo's sender
abbrev pub is_test : Instr → ℕ → Bool
is_test (instr.UndoTo q to tag) zero = true
is_test _ _ = false

module _ (p : Programs) (ready : IsReady p) (ranges : IsInRange p) (t : Tables) (r : ℕ) (stood : IsStood p t) (i : Instr) (s : ℕ) (next : IsNext p t r i s) where
  -- a rank that gives a copy up, and the source's rank
  pub record IsGiving (o q d tag : ℕ) : Type 0 where
    pub other : d ≢ o
    pub source : ℕ
    pub ready_there : IsIn p t d (instr.UndoFrom source o tag) 0
    pub offered : source_wire p t d ≡ wire_in t d source
    pub source_at : IsAt t (source_wire p t d) (InSlot d source)
    pub source_in : IsInCustody p t (source_wire p t d) (BackTo d)
    pub copy_at : IsAt t (wire_in t o q) (InSlot o q)
    pub copy_in : IsInCustody p t (wire_in t o q) (BackTo d)
    pub empty : t.lanes (lane o d kind.Undo tag) ≡ []

  pub source_wire_at : (o d tag source : ℕ) → IsIn p t d (instr.UndoFrom source o tag) 0
      → IsAt t (source_wire p t d) (InSlot d source) × IsInCustody p t (source_wire p t d) (BackTo d) × (source_wire p t d ≡ wire_in t d source)
  source_wire_at o d tag source here =
      let j = instr.UndoFrom source o tag in
      let offered : source_wire p t d ≡ wire_in t d source = ap (wire_offered (wire_in t d)) here.read in
      let at = operand_at p ready ranges t stood d j 0 here source refl (step_in p ready ranges t stood d j 0 here).slots in (
        subst (λ w. IsAt t w (InSlot d source)) (sym offered) at,
        subst (λ w. IsInCustody p t w (BackTo d)) (sym offered) (InSlot d source, at, ap (slots_message_in d (t.parts d)) here.read),
        offered,
      )

  pub giving : (o q d tag : ℕ) → IsIn p t o (instr.UndoTo q d tag) 1 → IsGiving o q d tag
  giving o q d tag here =
      let j = instr.UndoTo q d tag in
      let step = step_in p ready ranges t stood o j 1 here in
      let other = (step.partner d refl).other in
      let link = (stood.undo o d tag other).held q here in
      let at = operand_at p ready ranges t stood o j 1 here q refl step.slots in
      let source = source_wire_at o d tag link.1.0 link.1.1 in
      record {
        other = other;
        source = link.1.0;
        ready_there = link.1.1;
        offered = source.2;
        source_at = source.0;
        source_in = source.1;
        copy_at = at;
        copy_in = slot_in p ready ranges t stood o j 1 here q (BackTo d) at refl refl;
        empty = link.0;
      }

  -- the source's rank is held
  source_held : (o q d tag : ℕ) → IsGiving o q d tag → d ≢ r
  source_held o q d tag x e =
      let h : IsIn p t r (instr.UndoFrom x.source o tag) 0 = subst (λ k. IsIn p t k (instr.UndoFrom x.source o tag) 0) e x.ready_there in
      let same : i ≡ instr.UndoFrom x.source o tag = same_Some i (instr.UndoFrom x.source o tag) (sym next.read ∙ h.read) in
      let first : s ≡ 0 = sym next.stage ∙ h.stage in
      let holds : row_holds p t (row_at p t r (instr.UndoFrom x.source o tag) 0) ≡ true =
      subst (λ j. row_holds p t (row_at p t r j 0) ≡ true) same (subst (λ k. row_holds p t (row_at p t r i k) ≡ true) first next.holds) in
      no_front (t.lanes (lane o r kind.Undo tag)) (subst (λ k. t.lanes (lane o k kind.Undo tag) ≡ []) e x.empty) holds

  module _ (c : Circuit) (k : Message) (ms : List Letter) (free : (w : Wire) → AreNaming ms w → IsFree p t k w)
      (not_back : (o q d tag : ℕ) → IsIn p t o (instr.UndoTo q d tag) 1 → o ≢ r → k ≢ BackTo d) where
    -- a rank other than the acting one
    agree_other : (o : ℕ) → o ≢ r → ((t.parts o).stage ≡ 1 → AgreeIn p t o c (current p t o))
        → (let u = event_done (events_of i) r (acts_of (row_at p t r i s)) t in (u.parts o).stage ≡ 1 → AgreeIn p u o (c ++ ms) (current p u o))
    agree_other o other old one =
        let u = event_done (events_of i) r (acts_of (row_at p t r i s)) t in
        let same : u.parts o ≡ t.parts o = part_elsewhere (events_of i) r o (acts_of (row_at p t r i s)) t other in
        let was : (t.parts o).stage ≡ 1 = ap (λ (v : Part). v.stage) (sym same) ∙ one in
        subst (AgreeIn p u o (c ++ ms)) (ap (λ (v : Part). instr_at p o v.at) (sym same)) (by_read (current p t o) refl was (old was))
      where
        by_read : (j : Option Instr) → current p t o ≡ j → (t.parts o).stage ≡ 1 → AgreeIn p t o c j
            → AgreeIn p (event_done (events_of i) r (acts_of (row_at p t r i s)) t) o (c ++ ms) j
        by_read (Some (instr.UndoTo q d tag)) read stage agree =
            let here : IsIn p t o (instr.UndoTo q d tag) 1 = record { read = read; stage = stage } in
            let x = giving o q d tag here in
            let v = source_wire p t d in
            let w = wire_in t o q in
            let ne = not_back o q d tag here other in
            let apart : LettersApart ms (v ∷ w ∷ []) = letters_two v w ms (λ y n. (
              (λ e. ne (sym (free y n (BackTo d) (subst (λ z. IsInCustody p t z (BackTo d)) e x.source_in)))),
              (λ e. ne (sym (free y n (BackTo d) (subst (λ z. IsInCustody p t z (BackTo d)) e x.copy_in)))),
            )) in
            let kept : Agree (amp (c ++ ms)) v w = subst (λ (f : Amplitudes). Agree f v w) (sym (amp-append c ms)) (Agree-with_letters ms v w apart (amp c) agree) in
            let n = events_of i in
            let acts = acts_of (row_at p t r i s) in
            subst (λ z. Agree (amp (c ++ ms)) z (wire_in (event_done (events_of i) r (acts_of (row_at p t r i s)) t) o q)) (sym (offered_same p t r n acts d (source_held o q d tag x)))
            (subst (λ (f : ℕ → Wire). Agree (amp (c ++ ms)) v (f q)) (sym (other_wires r o other n acts t)) kept)
        by_read (Some _) read stage agree = tt
        by_read None read stage agree = tt

    pub agree_kept : ((o : ℕ) → (t.parts o).stage ≡ 1 → AgreeIn p t o c (current p t o))
        → (let u = event_done (events_of i) r (acts_of (row_at p t r i s)) t in
        ((u.parts r).stage ≡ 1 → AgreeIn p u r (c ++ ms) (current p u r))
        → (o : ℕ) → (u.parts o).stage ≡ 1 → AgreeIn p u o (c ++ ms) (current p u o))
    agree_kept old own o =
        let u = event_done (events_of i) r (acts_of (row_at p t r i s)) t in
        ⊎_elim (λ (e : o ≡ r). subst (λ k. (u.parts k).stage ≡ 1 → AgreeIn p u k (c ++ ms) (current p u k)) (sym e) own)
        (λ (other : o ≢ r). agree_other o other (old o)) (cases_eq o r)

  -- after an event that is no test the acting rank doesn't give a copy up
  pub own_agree : (c : Circuit) → is_test i s ≡ false
      → (let u = event_done (events_of i) r (acts_of (row_at p t r i s)) t in (u.parts r).stage ≡ 1 → AgreeIn p u r c (current p u r))
  own_agree c no_test one = by_end (nat_lt (s + 1) (events_of i)) refl
    where
      plain : (u : Tables) (i : Instr) → is_test i 0 ≡ false → AgreeIn p u r c (Some i)
      plain u (instr.UndoTo q to tag) e = cc
      plain u _ e = tt

      by_end : (b : Bool) → nat_lt (s + 1) (events_of i) ≡ b
          → (let u = event_done (events_of i) r (acts_of (row_at p t r i s)) t in AgreeIn p u r c (current p u r))
      by_end true more =
          let u = event_done (events_of i) r (acts_of (row_at p t r i s)) t in
          let here = goes_on p t r (events_of i) (acts_of (row_at p t r i s)) i s next more in
          let first : s ≡ 0 = omega (arith, here.stage, one) in
          subst (AgreeIn p u r c) (sym here.read) (plain u i (ap (is_test i) (sym first) ∙ no_test))
      by_end false last =
          let z = fresh_stage p t r (events_of i) (acts_of (row_at p t r i s)) i s next last in
          absurd (omega (arith, z, one))
