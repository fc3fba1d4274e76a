-- What each event makes of the letters that its message has begun, and of the corrections due
use Rattle.std.proofs.Common.{◌≡◌, ◌≢◌, ℕ, zero, suc, ◌+◌, ◌-◌, nat_lt, true, false, if◌then◌else◌, List, [], ◌∷◌, ◌++◌, drop, Some, refl, sym, ap, ap₂, subst, ◌∙◌, append_assoc, append-nil, arith}
use Rattle.qm_denot.specs.declared.Wire.{Wire}
use Rattle.qm_denot.specs.declared.Letter.{Letter}
use Rattle.qm_denot.specs.declared.Letter.TheVariants.{Phase, Flip, Had, Cx, Pair, Take, Keep, Rename}
use Rattle.qm_denot.specs.Circuits.{Circuit, amp, IsEqualUpTo}
use Rattle.qm_denot.specs.Protocols.{Agree, letter_if}
use Rattle.qm_denot.proofs.EqualUpTo.{equal_refl}
use Rattle.qm_denot.proofs.Inverses.{equal_flip_twice, equal_sign_twice}
use Rattle.qm_denot.proofs.ProtocolLaws.{equal_uncopy}
use Rattle.qm_instr.specs.declared.Instr.{Instr}
use Rattle.qm_instr.specs.declared.Instr.TheVariants as instr
use Rattle.qm_instr.specs.declared.Kind.TheVariants as kind
use Rattle.qm_instr.specs.Counts.{events_of}
use Rattle.qm_instr.specs.Lanes.{lane}
use Rattle.qm_instr.specs.Programs.{Programs, IsInRange}
use Rattle.qm_check.specs.Checks.{IsReady}
use Rattle.qm_proto.specs.declared.Event.TheVariants as event
use Rattle.qm_proto.specs.Model.State.{Part, Tables, front, wire_in, near_made, far_made, wire_of, first_bit, second_bit, bit_of, own_next, protocol_next, with_at}
use Rattle.qm_proto.specs.Model.Rows.{gate_letter, source_wire, wire_offered}
use Rattle.qm_proto.specs.Model.Places.{InSlot, IsAt}
use Rattle.qm_proto.proofs.Changes.{with_at-here}
use Rattle.qm_safety.specs.Tables.Lines.{row_at, acts_of}
use Rattle.qm_simulation.specs.Following.Seen.{tables_seen, part_seen}
use Rattle.qm_simulation.specs.Following.Debts.{near_counted, far_counted}
use Rattle.qm_simulation.specs.Following.Follows.{AgreeIn}
use Rattle.qm_confluence.specs.Counted.{IsCounted}
use Rattle.qm_simulation.specs.Following.Simulation.{settles, is_early, outcomes_of, corrections, is_due_after}
use Rattle.qm_safety.proofs.Tables.NextEvents.{IsNext}
use Rattle.qm_confluence.proofs.Confluence.IdealWires.{AreWiresCounted, blank_where}
use Rattle.qm_simulation.proofs.Following.Places.{after, before_event, goes_on}
use Rattle.qm_simulation.proofs.Following.Places.{letters_tables}
use Rattle.qm_simulation.proofs.Following.Stood.{IsStood}
use Rattle.qm_simulation.proofs.Following.SafeDebts.{corrections_of}
use Rattle.qm_simulation.proofs.Following.Safe.{step_in, operand_at, reached_waits, reached_half, target_at, lent_half, half_target}
use Rattle.qm_simulation.proofs.Following.Frames.{offered_same}
use Rattle.qm_simulation.proofs.Following.Raws.{Raw, raw, no_raw, twin_of, reached, rank_raw, raw_at, raw_on, raw_ended, fresh_raw, due_letters, early_law, take_law, local_law, all_due}
use Rattle.qm_simulation.proofs.Following.RawLaws.{copy_settled, move_settled, reach_settled}
use Rattle.qm_simulation.proofs.Following.Deeds.{ideal_letters}
use Rattle.qm_simulation.proofs.Following.Events.{letters_so, halves_differ, near_uncounted, uncounted}
use Rattle.qm_simulation.proofs.Following.Sends.{we, wf, e_blank, f_blank, copying, moving}
use Rattle.qm_simulation.proofs.Following.Receives.{corrected_law}
use Rattle.qm_simulation.proofs.Following.Givings.{gives, two_wires, same_rank}
use Rattle.qm_simulation.proofs.Following.Givings.{offered_seen}
use Rattle.qm_simulation.proofs.Following.RawChanges.{RawChange, Changes, flip_done, sign_done, flip_first, nothing_due, twice_law}
use Rattle.qm_proto.proofs.Lines.{never}

module _ (p : Programs) (ready : IsReady p) (ranges : IsInRange p) (t : Tables) (r : ℕ) (stood : IsStood p t) (ideal : AreWiresCounted (tables_seen p t)) where
  changed : {i : Instr} {s : ℕ} {c : Circuit} {ls ms : List Letter} {b a : Raw} (x y : Raw) → x ≡ b → y ≡ a → RawChange p t r i s c ls ms b a → RawChange p t r i s c ls ms x y
  changed {i} {s} {c} {ls} {ms} {b} {a} x y e d h = subst (λ z. RawChange p t r i s c ls ms z y) (sym e) (subst (λ z. RawChange p t r i s c ls ms b z) (sym d) h)

  -- ---- events outside messages
  local_change : (i : Instr) (next : IsNext p t r i 0) (ls : List Letter) → nat_lt 1 (events_of i) ≡ false → settles (Some i) 0 ≡ false → is_early (Some i) 0 ≡ false
      → ((zs : List Letter) → zs ≡ [] → [] ≡ due_letters (row_at p t r i 0) zs)
      → (c : Circuit) → RawChange p t r i 0 c ls ls (rank_raw p t r) (rank_raw p (after p t r i 0) r)
  local_change i next ls last plain late due c =
      changed (rank_raw p t r) (rank_raw p (after p t r i 0) r) (fresh_raw p t r next.stage) (raw_ended p t r (events_of i) (acts_of (row_at p t r i 0)) i 0 next last)
      (record {
        begun_so = ap₂ (λ x y. if x then [] else (if y then ls else [])) (sym plain) (sym late);
        pending_so = due [] refl ∙ ap (λ x. if x then corrections p t r (Some i) else due_letters (row_at p t r i 0) []) (sym plain);
        law = subst (λ x. IsEqualUpTo (if x then outcomes_of (Some i) else 0) (c ++ ls) (c ++ (ls ++ []))) (sym plain) (local_law c ls);
      })

  -- ---- a pair, and the gates of the sender
  new_pair : (v : Part) → raw (Pair (near_counted r (record v { made = v.made + 1 })) (far_counted r (record v { made = v.made + 1 })) ∷ []) []
      ≡ raw (Pair (record { rank = r; made = v.made; near = true }) (record { rank = r; made = v.made; near = false }) ∷ []) []
  new_pair v =
      let count : v.made + 1 - 1 ≡ v.made = omega arith in
      ap (λ m. raw (Pair (record { rank = r; made = m; near = true }) (record { rank = r; made = m; near = false }) ∷ []) []) count

  copy_pair : (q to tag : ℕ) → IsNext p t r (instr.CopyTo q to tag) 0 → Changes p t r (instr.CopyTo q to tag) 0
  copy_pair q to tag next n g c ds before =
      let i = instr.CopyTo q to tag in
      changed _ _ (fresh_raw p t r next.stage) (raw_on p t r 3 (acts_of (row_at p t r i 0)) i 0 next refl ∙ new_pair (t.parts r))
      (record { begun_so = refl; pending_so = refl; law = early_law c [] (Pair (near_made t r) (far_made t r) ∷ []) })

  move_pair : (q to tag : ℕ) → IsNext p t r (instr.MoveTo q to tag) 0 → Changes p t r (instr.MoveTo q to tag) 0
  move_pair q to tag next n g c ds before =
      let i = instr.MoveTo q to tag in
      changed _ _ (fresh_raw p t r next.stage) (raw_on p t r 5 (acts_of (row_at p t r i 0)) i 0 next refl ∙ new_pair (t.parts r))
      (record { begun_so = refl; pending_so = refl; law = early_law c [] (Pair (near_made t r) (far_made t r) ∷ []) })

  reach_pair : (q to tag : ℕ) → IsNext p t r (instr.ReachTo q to tag) 0 → Changes p t r (instr.ReachTo q to tag) 0
  reach_pair q to tag next n g c ds before =
      let i = instr.ReachTo q to tag in
      changed _ _ (fresh_raw p t r next.stage) (raw_on p t r 5 (acts_of (row_at p t r i 0)) i 0 next refl ∙ new_pair (t.parts r))
      (record { begun_so = refl; pending_so = refl; law = early_law c [] (Pair (near_made t r) (far_made t r) ∷ []) })

  copy_cross : (q to tag : ℕ) → IsNext p t r (instr.CopyTo q to tag) 1 → Changes p t r (instr.CopyTo q to tag) 1
  copy_cross q to tag next n g c ds before =
      let i = instr.CopyTo q to tag in
      let e = near_counted r (t.parts r) in
      changed _ _ (raw_at p t r i 1 (before_event p t r i 1 next)) (raw_on p t r 3 (acts_of (row_at p t r i 1)) i 1 next refl)
      (record { begun_so = refl; pending_so = refl; law = early_law c (Pair e (far_counted r (t.parts r)) ∷ []) (Cx (wire_in t r q) e ∷ []) })

  move_cross : (q to tag : ℕ) → IsNext p t r (instr.MoveTo q to tag) 1 → Changes p t r (instr.MoveTo q to tag) 1
  move_cross q to tag next n g c ds before =
      let i = instr.MoveTo q to tag in
      let e = near_counted r (t.parts r) in
      changed _ _ (raw_at p t r i 1 (before_event p t r i 1 next)) (raw_on p t r 5 (acts_of (row_at p t r i 1)) i 1 next refl)
      (record { begun_so = refl; pending_so = refl; law = early_law c (Pair e (far_counted r (t.parts r)) ∷ []) (Cx (wire_in t r q) e ∷ []) })

  reach_cross : (q to tag : ℕ) → IsNext p t r (instr.ReachTo q to tag) 1 → Changes p t r (instr.ReachTo q to tag) 1
  reach_cross q to tag next n g c ds before =
      let i = instr.ReachTo q to tag in
      let e = near_counted r (t.parts r) in
      changed _ _ (raw_at p t r i 1 (before_event p t r i 1 next)) (raw_on p t r 5 (acts_of (row_at p t r i 1)) i 1 next refl)
      (record { begun_so = refl; pending_so = refl; law = early_law c (Pair e (far_counted r (t.parts r)) ∷ []) (Cx (wire_in t r q) e ∷ []) })

  move_had : (q to tag : ℕ) → IsNext p t r (instr.MoveTo q to tag) 2 → Changes p t r (instr.MoveTo q to tag) 2
  move_had q to tag next n g c ds before =
      let i = instr.MoveTo q to tag in
      let e = near_counted r (t.parts r) in
      let w = wire_in t r q in
      changed _ _ (raw_at p t r i 2 (before_event p t r i 2 next)) (raw_on p t r 5 (acts_of (row_at p t r i 2)) i 2 next refl)
      (record { begun_so = refl; pending_so = refl; law = early_law c (Pair e (far_counted r (t.parts r)) ∷ Cx w e ∷ []) (Had w ∷ []) })

  -- ---- messages taken from their lanes
  copy_take : (q from tag : ℕ) → IsNext p t r (instr.CopyFrom q from tag) 0 → Changes p t r (instr.CopyFrom q from tag) 0
  copy_take q from tag next n g c ds before =
      let i = instr.CopyFrom q from tag in
      let x = front t (lane from r kind.Copy tag) in
      let ls = letter_if (first_bit x) (Flip (wire_of x)) in
      changed _ _ refl (raw_on p t r 2 (acts_of (row_at p t r i 0)) i 0 next refl)
      (record { begun_so = refl; pending_so = all_due (is_due_after event.Deliver) (λ l. refl) ls; law = take_law c ls })

  move_take : (q from tag : ℕ) → IsNext p t r (instr.MoveFrom q from tag) 0 → Changes p t r (instr.MoveFrom q from tag) 0
  move_take q from tag next n g c ds before =
      let i = instr.MoveFrom q from tag in
      let x = front t (lane from r kind.Move tag) in
      let ls = corrections_of (second_bit x) (first_bit x) (wire_of x) in
      changed _ _ refl (raw_on p t r 3 (acts_of (row_at p t r i 0)) i 0 next refl)
      (record { begun_so = refl; pending_so = all_due (is_due_after event.Deliver) (λ l. refl) ls; law = take_law c ls })

  undo_take : (q from tag : ℕ) → IsNext p t r (instr.UndoFrom q from tag) 0 → Changes p t r (instr.UndoFrom q from tag) 0
  undo_take q from tag next n g c ds before =
      let i = instr.UndoFrom q from tag in
      let x = front t (lane from r kind.Undo tag) in
      let ls = letter_if (first_bit x) (Phase 4 (wire_in t r q)) in
      let own : source_wire p t r ≡ wire_in t r q = ap (wire_offered (wire_in t r)) next.read in
      changed _ _ (ap (λ w. raw [] (letter_if (first_bit x) (Phase 4 w))) own) (raw_on p t r 2 (acts_of (row_at p t r i 0)) i 0 next refl)
      (record { begun_so = refl; pending_so = all_due (is_due_after event.Deliver) (λ l. refl) ls; law = take_law c ls })

  answer_take : (q to tag : ℕ) → IsNext p t r (instr.ReachTo q to tag) 3 → Changes p t r (instr.ReachTo q to tag) 3
  answer_take q to tag next n g c ds before =
      let i = instr.ReachTo q to tag in
      let x = front t (lane to r kind.Back tag) in
      let ls = letter_if (first_bit x) (Phase 4 (wire_in t r q)) in
      let own : source_wire p t r ≡ wire_in t r q = ap (wire_offered (wire_in t r)) next.read in
      changed _ _ (ap (λ w. raw [] (letter_if (first_bit x) (Phase 4 w))) own) (raw_on p t r 5 (acts_of (row_at p t r i 3)) i 3 next refl)
      (record { begun_so = refl; pending_so = all_due (is_due_after event.Deliver) (λ l. refl) ls; law = take_law c ls })

  -- ---- the Posts
  copy_post : (q to tag : ℕ) → IsNext p t r (instr.CopyTo q to tag) 2 → Changes p t r (instr.CopyTo q to tag) 2
  copy_post q to tag next n g c ds before =
      let i = instr.CopyTo q to tag in
      let v = t.parts r in
      let here = before_event p t r i 2 next in
      let at = operand_at p ready ranges t stood r i 2 here q refl (step_in p ready ranges t stood r i 2 here).slots in
      let x = copying p ready ranges t r stood ideal q to tag 2 here refl refl refl refl at in
      let w = wire_in t r q in
      let e = near_counted r v in
      let f = far_counted r v in
      let m = protocol_next t r in
      let used : Part = record v { protocol = drop 1 v.protocol } in
      let count : ((tables_seen p t).parts r).made ≡ v.made - 1 = ap₂ (λ o j. (part_seen o j v).made) here.read here.stage in
      let law = copy_settled c w e f (we p ready ranges t r stood ideal i 2 q x) (wf p ready ranges t r stood ideal i 2 q x) (halves_differ e f refl refl)
      (e_blank p ready ranges t r stood ideal i 2 q x n g c ds before) (f_blank p ready ranges t r stood ideal i 2 q x n g c ds before) m in
      let done : RawChange p t r i 2 c (Take e m ∷ []) (Cx w f ∷ []) (raw (Pair e f ∷ Cx w e ∷ []) []) (raw [] (letter_if m (Flip f))) =
      record { begun_so = refl; pending_so = refl; law = law } in
      changed _ _ (raw_at p t r i 2 here) refl
      (subst (λ z. RawChange p t r i 2 c (Take z m ∷ []) (ideal_letters p t r i 2) (raw (Pair e f ∷ Cx w e ∷ []) []) (raw [] (letter_if m (Flip f)))) (sym (ap (λ (z : Part). near_counted r z) (with_at-here t.parts r used)))
      (subst (λ j. RawChange p t r i 2 c (Take e m ∷ []) (Cx w (record { rank = r; made = j; near = false }) ∷ []) (raw (Pair e f ∷ Cx w e ∷ []) []) (raw [] (letter_if m (Flip f)))) (sym count) done))

  move_near : (q to tag : ℕ) → IsNext p t r (instr.MoveTo q to tag) 3 → Changes p t r (instr.MoveTo q to tag) 3
  move_near q to tag next n g c ds before =
      let i = instr.MoveTo q to tag in
      let v = t.parts r in
      let w = wire_in t r q in
      let e = near_counted r v in
      let f = far_counted r v in
      let m = protocol_next t r in
      let used : Part = record v { protocol = drop 1 v.protocol } in
      let b = raw (Pair e f ∷ Cx w e ∷ Had w ∷ []) [] in
      let a = raw (Pair e f ∷ Cx w e ∷ Had w ∷ Take e m ∷ []) [] in
      let done : RawChange p t r i 3 c (Take e m ∷ []) [] b a = record { begun_so = refl; pending_so = refl; law = early_law c (Pair e f ∷ Cx w e ∷ Had w ∷ []) (Take e m ∷ []) } in
      changed _ _ (raw_at p t r i 3 (before_event p t r i 3 next)) (raw_on p t r 5 (acts_of (row_at p t r i 3)) i 3 next refl)
      (record {
        begun_so = ap (λ z. Pair e f ∷ Cx w e ∷ Had w ∷ Take z m ∷ []) (sym (ap (λ (z : Part). near_counted r z) (with_at-here t.parts r used)));
        pending_so = refl;
        law = subst (λ z. IsEqualUpTo 0 (c ++ Pair e f ∷ Cx w e ∷ Had w ∷ Take z m ∷ []) (c ++ Pair e f ∷ Cx w e ∷ Had w ∷ Take e m ∷ [])) (sym (ap (λ (z : Part). near_counted r z) (with_at-here t.parts r used)))
            (equal_refl (c ++ Pair e f ∷ Cx w e ∷ Had w ∷ Take e m ∷ []));
      })

  move_post : (q to tag : ℕ) → IsNext p t r (instr.MoveTo q to tag) 4 → Changes p t r (instr.MoveTo q to tag) 4
  move_post q to tag next n g c ds before =
      let i = instr.MoveTo q to tag in
      let v = t.parts r in
      let here = before_event p t r i 4 next in
      let at = operand_at p ready ranges t stood r i 4 here q refl (step_in p ready ranges t stood r i 4 here).slots in
      let x = moving p ready ranges t r stood ideal q to tag 4 here refl refl refl refl at in
      let w = wire_in t r q in
      let e = near_counted r v in
      let f = far_counted r v in
      let m = protocol_next t r in
      let count : ((tables_seen p t).parts r).made ≡ v.made - 1 = ap₂ (λ o j. (part_seen o j v).made) here.read here.stage in
      let b = raw (Pair e f ∷ Cx w e ∷ Had w ∷ Take e v.first ∷ []) [] in
      let a = raw [] (corrections_of m v.first f) in
      let law = move_settled c w e f (we p ready ranges t r stood ideal i 4 q x) (wf p ready ranges t r stood ideal i 4 q x) (halves_differ e f refl refl)
      (e_blank p ready ranges t r stood ideal i 4 q x n g c ds before) (f_blank p ready ranges t r stood ideal i 4 q x n g c ds before) v.first m in
      let done : RawChange p t r i 4 c (Take w m ∷ []) (Rename w f ∷ []) b a = record { begun_so = refl; pending_so = refl; law = law } in
      changed _ _ (raw_at p t r i 4 here) refl
      (subst (λ j. RawChange p t r i 4 c (Take w m ∷ []) (Rename w (record { rank = r; made = j; near = false }) ∷ []) b a) (sym count) done)

  reach_post : (q to tag : ℕ) → IsNext p t r (instr.ReachTo q to tag) 2 → Changes p t r (instr.ReachTo q to tag) 2
  reach_post q to tag next n g c ds before =
      let i = instr.ReachTo q to tag in
      let v = t.parts r in
      let w = wire_in t r q in
      let e = near_counted r v in
      let f = far_counted r v in
      let m = protocol_next t r in
      let u = after p t r i 2 in
      let used : Part = record v { protocol = drop 1 v.protocol } in
      let offered : source_wire p u r ≡ w = ap (wire_offered (wire_in u r)) (goes_on p t r 5 (acts_of (row_at p t r i 2)) i 2 next refl).read in
      let near : near_counted r (with_at t.parts r used r) ≡ e = ap (λ (z : Part). near_counted r z) (with_at-here t.parts r used) in
      changed _ _ (raw_at p t r i 2 (before_event p t r i 2 next)) (ap (λ z. raw (reached z f m) []) offered)
      (record {
        begun_so = ap (λ z. Pair e f ∷ Cx w e ∷ Take z m ∷ []) (sym near);
        pending_so = refl;
        law = subst (λ z. IsEqualUpTo 0 (c ++ Pair e f ∷ Cx w e ∷ Take z m ∷ []) (c ++ Pair e f ∷ Cx w e ∷ Take e m ∷ [])) (sym near) (equal_refl (c ++ Pair e f ∷ Cx w e ∷ Take e m ∷ []));
      })

  -- ---- corrections
  copy_fix : (q from tag : ℕ) → IsNext p t r (instr.CopyFrom q from tag) 1 → Changes p t r (instr.CopyFrom q from tag) 1
  copy_fix q from tag next n g c ds before =
      let i = instr.CopyFrom q from tag in
      let b = first_bit (t.parts r).taken in
      let f = wire_of (t.parts r).taken in
      let ls = letter_if b (Flip f) in
      let done : RawChange p t r i 1 c ls [] (raw [] ls) no_raw = record { begun_so = refl; pending_so = flip_done b f; law = twice_law c ls (equal_flip_twice c b f) } in
      changed _ _ (raw_at p t r i 1 (before_event p t r i 1 next)) (raw_ended p t r 2 (acts_of (row_at p t r i 1)) i 1 next refl)
      (subst (λ zs. RawChange p t r i 1 c zs [] (raw [] ls) no_raw) (sym (letters_so r t b (Flip f))) done)

  move_sign : (q from tag : ℕ) → IsNext p t r (instr.MoveFrom q from tag) 2 → Changes p t r (instr.MoveFrom q from tag) 2
  move_sign q from tag next n g c ds before =
      let i = instr.MoveFrom q from tag in
      let b = second_bit (t.parts r).taken in
      let f = wire_of (t.parts r).taken in
      let ls = letter_if b (Phase 4 f) in
      let done : RawChange p t r i 2 c ls [] (raw [] ls) no_raw = record { begun_so = refl; pending_so = sign_done b f; law = twice_law c ls (equal_sign_twice c b f) } in
      changed _ _ (raw_at p t r i 2 (before_event p t r i 2 next)) (raw_ended p t r 3 (acts_of (row_at p t r i 2)) i 2 next refl)
      (subst (λ zs. RawChange p t r i 2 c zs [] (raw [] ls) no_raw) (sym (letters_so r t b (Phase 4 f))) done)

  undo_fix : (q from tag : ℕ) → IsNext p t r (instr.UndoFrom q from tag) 1 → Changes p t r (instr.UndoFrom q from tag) 1
  undo_fix q from tag next n g c ds before =
      let i = instr.UndoFrom q from tag in
      let b = first_bit (t.parts r).taken in
      let f = wire_in t r q in
      let ls = letter_if b (Phase 4 f) in
      let done : RawChange p t r i 1 c ls [] (raw [] ls) no_raw = record { begun_so = refl; pending_so = sign_done b f; law = twice_law c ls (equal_sign_twice c b f) } in
      changed _ _ (raw_at p t r i 1 (before_event p t r i 1 next)) (raw_ended p t r 2 (acts_of (row_at p t r i 1)) i 1 next refl)
      (subst (λ zs. RawChange p t r i 1 c zs [] (raw [] ls) no_raw) (sym (letters_so r t b (Phase 4 f))) done)

  answer_fix : (q to tag : ℕ) → IsNext p t r (instr.ReachTo q to tag) 4 → Changes p t r (instr.ReachTo q to tag) 4
  answer_fix q to tag next n g c ds before =
      let i = instr.ReachTo q to tag in
      let b = first_bit (t.parts r).taken in
      let f = wire_in t r q in
      let ls = letter_if b (Phase 4 f) in
      let done : RawChange p t r i 4 c ls [] (raw [] ls) no_raw = record { begun_so = refl; pending_so = sign_done b f; law = twice_law c ls (equal_sign_twice c b f) } in
      changed _ _ (raw_at p t r i 4 (before_event p t r i 4 next)) (raw_ended p t r 5 (acts_of (row_at p t r i 4)) i 4 next refl)
      (subst (λ zs. RawChange p t r i 4 c zs [] (raw [] ls) no_raw) (sym (letters_so r t b (Phase 4 f))) done)

  move_flip : (q from tag : ℕ) → IsNext p t r (instr.MoveFrom q from tag) 1 → Changes p t r (instr.MoveFrom q from tag) 1
  move_flip q from tag next n g c ds before =
      let i = instr.MoveFrom q from tag in
      let b = first_bit (t.parts r).taken in
      let f = wire_of (t.parts r).taken in
      let sign = second_bit (t.parts r).taken in
      let ls = letter_if b (Flip f) in
      let ys = letter_if sign (Phase 4 f) in
      let done : RawChange p t r i 1 c ls [] (raw [] (ys ++ ls)) (raw [] ys) =
      record { begun_so = refl; pending_so = flip_first sign b f; law = corrected_law p ready ranges t r stood ideal c ys ls (λ d. equal_flip_twice d b f) } in
      changed _ _ (raw_at p t r i 1 (before_event p t r i 1 next)) (ap (λ (u : Tables). rank_raw p u r) (letters_tables r 3 b (Flip f) t) ∙ raw_on p t r 3 [] i 1 next refl)
      (subst (λ zs. RawChange p t r i 1 c zs [] (raw [] (ys ++ ls)) (raw [] ys)) (sym (letters_so r t b (Flip f))) done)

  -- ---- the second rank of a reach
  module _ (q from tag s : ℕ) (next : IsNext p t r (instr.ReachFrom q from tag) s) where
    partner_apart : from ≢ r
    partner_apart = ((step_in p ready ranges t stood r (instr.ReachFrom q from tag) s (before_event p t r (instr.ReachFrom q from tag) s next)).partner from refl).other

  reach_take : (q from tag : ℕ) → IsNext p t r (instr.ReachFrom q from tag) 0 → Changes p t r (instr.ReachFrom q from tag) 0
  reach_take q from tag next n g c ds before =
      let i = instr.ReachFrom q from tag in
      let x = front t (lane from r kind.Reach tag) in
      let f = wire_of x in
      let b = first_bit x in
      let acts = acts_of (row_at p t r i 0) in
      changed _ _ refl (raw_on p t r 5 acts i 0 next refl ∙ ap (λ z. raw (reached z f b) []) (offered_same p t r 5 acts from (partner_apart q from tag 0 next)))
      (record { begun_so = refl; pending_so = refl; law = equal_refl (c ++ reached (source_wire p t from) f b) })

  reach_flip : (q from tag : ℕ) → IsNext p t r (instr.ReachFrom q from tag) 1 → Changes p t r (instr.ReachFrom q from tag) 1
  reach_flip q from tag next n g c ds before =
      let i = instr.ReachFrom q from tag in
      let b = first_bit (t.parts r).taken in
      let f = wire_of (t.parts r).taken in
      let w = source_wire p t from in
      let ls = letter_if b (Flip f) in
      let done : RawChange p t r i 1 c ls [] (raw (reached w f b) []) (raw (reached w f b ++ ls) []) = record { begun_so = refl; pending_so = refl; law = early_law c (reached w f b) ls } in
      changed _ _ (raw_at p t r i 1 (before_event p t r i 1 next))
      (ap (λ (u : Tables). rank_raw p u r) (letters_tables r 5 b (Flip f) t) ∙ raw_on p t r 5 [] i 1 next refl
      ∙ ap (λ z. raw (reached z f b ++ ls) []) (offered_same p t r 5 [] from (partner_apart q from tag 1 next)))
      (subst (λ zs. RawChange p t r i 1 c zs [] (raw (reached w f b) []) (raw (reached w f b ++ ls) [])) (sym (letters_so r t b (Flip f))) done)

  reach_target : (q from tag : ℕ) → IsNext p t r (instr.ReachFrom q from tag) 2 → Changes p t r (instr.ReachFrom q from tag) 2
  reach_target q from tag next n g c ds before =
      let i = instr.ReachFrom q from tag in
      let b = first_bit (t.parts r).taken in
      let f = wire_of (t.parts r).taken in
      let v = wire_in t r q in
      let acts = acts_of (row_at p t r i 2) in
      changed _ _ (raw_at p t r i 2 (before_event p t r i 2 next))
      (raw_on p t r 5 acts i 2 next refl ∙ ap (λ z. raw ((reached z f b ++ letter_if b (Flip f)) ++ Cx f v ∷ []) []) (offered_same p t r 5 acts from (partner_apart q from tag 2 next)))
      (record { begun_so = refl; pending_so = refl; law = early_law c (reached (source_wire p t from) f b ++ letter_if b (Flip f)) (Cx f v ∷ []) })

  reach_had : (q from tag : ℕ) → IsNext p t r (instr.ReachFrom q from tag) 3 → Changes p t r (instr.ReachFrom q from tag) 3
  reach_had q from tag next n g c ds before =
      let i = instr.ReachFrom q from tag in
      let b = first_bit (t.parts r).taken in
      let f = wire_of (t.parts r).taken in
      let v = wire_in t r q in
      let acts = acts_of (row_at p t r i 3) in
      changed _ _ (raw_at p t r i 3 (before_event p t r i 3 next))
      (raw_on p t r 5 acts i 3 next refl
      ∙ ap (λ z. raw (((reached z f b ++ letter_if b (Flip f)) ++ Cx f v ∷ []) ++ Had f ∷ []) []) (offered_same p t r 5 acts from (partner_apart q from tag 3 next)))
      (record { begun_so = refl; pending_so = refl; law = early_law c ((reached (source_wire p t from) f b ++ letter_if b (Flip f)) ++ Cx f v ∷ []) (Had f ∷ []) })

  -- ---- an undo
  undo_test : (q to tag : ℕ) → IsNext p t r (instr.UndoTo q to tag) 0 → Changes p t r (instr.UndoTo q to tag) 0
  undo_test q to tag next n g c ds before =
      let i = instr.UndoTo q to tag in
      changed _ _ (fresh_raw p t r next.stage) (raw_on p t r 2 (acts_of (row_at p t r i 0)) i 0 next refl)
      (record { begun_so = refl; pending_so = refl; law = early_law c [] (Had (wire_in t r q) ∷ []) })

  undo_give : (q d tag : ℕ) → IsNext p t r (instr.UndoTo q d tag) 1 → Changes p t r (instr.UndoTo q d tag) 1
  undo_give q d tag next n g c ds before =
      let i = instr.UndoTo q d tag in
      let x = gives p ready ranges t r stood ideal q d tag next in
      let v = source_wire p t d in
      let w = wire_in t r q in
      let m = protocol_next t r in
      let acts = acts_of (row_at p t r i 1) in
      let agree : Agree (amp c) v w = subst (AgreeIn p t r c) next.read (before.agree r next.stage) in
      let b = raw (Had w ∷ []) [] in
      let a = raw [] (letter_if m (Phase 4 v)) in
      let done : RawChange p t r i 1 c (Take w m ∷ []) (Cx v w ∷ Take w false ∷ []) b a =
      record { begun_so = refl; pending_so = refl; law = equal_uncopy c v w (two_wires p ready ranges t r stood ideal q d tag next) agree m } in
      changed _ _ (raw_at p t r i 1 (before_event p t r i 1 next)) (ap (λ s. raw [] (letter_if m (Phase 4 s))) (offered_same p t r 2 acts d x.other))
      (subst (λ z. RawChange p t r i 1 c (Take w m ∷ []) (Cx z w ∷ Take w false ∷ []) b a) (sym (offered_seen p t d (instr.UndoFrom x.source r tag) 0 x.ready_there refl)) done)

  -- the deciding Post of a reach
  reach_give : (q from tag : ℕ) → IsNext p t r (instr.ReachFrom q from tag) 4 → Changes p t r (instr.ReachFrom q from tag) 4
  reach_give q from tag next n g c ds before =
      let i = instr.ReachFrom q from tag in
      let here = before_event p t r i 4 next in
      let w = source_wire p t from in
      let v = wire_in t r q in
      let f = wire_of (t.parts r).taken in
      let e = twin_of f in
      let first = first_bit (t.parts r).taken in
      let m = protocol_next t r in
      let acts = acts_of (row_at p t r i 4) in
      let other = partner_apart q from tag 4 next in
      let waits = reached_waits p ready ranges t stood r q from tag 4 here refl in
      let j = instr.ReachTo waits.slot r tag in
      let offered : w ≡ wire_in t from waits.slot = ap (wire_offered (wire_in t from)) waits.here.read in
      let source_at : IsAt t w (InSlot from waits.slot) = subst (λ z. IsAt t z (InSlot from waits.slot)) (sym offered) (operand_at p ready ranges t stood from j 3 waits.here waits.slot refl (step_in p ready ranges t stood from j 3 waits.here).slots) in
      let v_at = target_at p ready ranges t stood r q from tag 4 here refl in
      let wv : w ≢ v = λ z. other (same_rank from waits.slot r q (stood.well.tidy.one_place v (InSlot from waits.slot) (InSlot r q) (subst (λ y. IsAt t y (InSlot from waits.slot)) z source_at) v_at)) in
      let half : f ≡ far_counted from (t.parts from) = reached_half p ready ranges t stood r q from tag 4 here refl in
      let f_out : ¬ IsCounted (tables_seen p t) f = subst (λ z. ¬ IsCounted (tables_seen p t) z) (sym half) (uncounted p ready ranges t r stood ideal from j 3 waits.here refl) in
      let e_out : ¬ IsCounted (tables_seen p t) e = near_uncounted (tables_seen p t) e refl in
      let we : w ≢ e = λ z. e_out (subst (IsCounted (tables_seen p t)) z (ideal.slots from waits.slot w source_at)) in
      let ef : e ≢ f = halves_differ e f refl (ap (λ (z : Wire). z.near) half) in
      let law : IsEqualUpTo 2 (c ++ ((reached w f first ++ letter_if first (Flip f)) ++ Cx f v ∷ Had f ∷ Take f m ∷ [])) (c ++ Cx w v ∷ letter_if m (Phase 4 w)) =
      reach_settled c w e f we (lent_half p ready ranges t stood r q from tag 4 here refl) ef (blank_where (tables_seen p t) c e before.named e_out) (blank_where (tables_seen p t) c f before.named f_out)
      first v wv (half_target p ready ranges t stood r q from tag 4 here refl) m in
      let b = raw (((reached w f first ++ letter_if first (Flip f)) ++ Cx f v ∷ []) ++ Had f ∷ []) [] in
      let a = raw [] (letter_if m (Phase 4 w)) in
      let done : RawChange p t r i 4 c (Take f m ∷ []) (Cx w v ∷ []) b a =
      record {
        begun_so = refl;
        pending_so = refl;
        law = subst (λ zs. IsEqualUpTo 2 (c ++ zs) (c ++ Cx w v ∷ letter_if m (Phase 4 w))) (sym (joined (reached w f first ++ letter_if first (Flip f)) (Cx f v) (Had f) (Take f m))) law;
      } in
      changed _ _ (raw_at p t r i 4 here) (ap (λ s. raw [] (letter_if m (Phase 4 s))) (offered_same p t r 5 acts from other))
      (subst (λ z. RawChange p t r i 4 c (Take f m ∷ []) (Cx z v ∷ []) b a) (sym (offered_seen p t from j 3 waits.here refl)) done)
    where
      joined : (xs : List Letter) (k l m : Letter) → (((xs ++ k ∷ []) ++ l ∷ []) ++ []) ++ m ∷ [] ≡ xs ++ k ∷ l ∷ m ∷ []
      joined xs k l m =
          ap (λ ys. ys ++ m ∷ []) (append-nil ((xs ++ k ∷ []) ++ l ∷ []))
          ∙ append_assoc (xs ++ k ∷ []) (l ∷ []) (m ∷ [])
          ∙ append_assoc xs (k ∷ []) (l ∷ m ∷ [])

  -- ---- every event of every instruction
  pub changes : (i : Instr) (s : ℕ) → IsNext p t r i s → Changes p t r i s
  changes (instr.Alloc q) zero next = λ n g c ds before. local_change (instr.Alloc q) next [] refl refl refl (λ zs e. nothing_due event.Alloc zs e) c
  changes (instr.CopyTo q to tag) zero next = copy_pair q to tag next
  changes (instr.CopyTo q to tag) (suc zero) next = copy_cross q to tag next
  changes (instr.CopyTo q to tag) (suc (suc zero)) next = copy_post q to tag next
  changes (instr.CopyTo q to tag) (suc (suc (suc s))) next = never next.holds
  changes (instr.CopyFrom q from tag) zero next = copy_take q from tag next
  changes (instr.CopyFrom q from tag) (suc zero) next = copy_fix q from tag next
  changes (instr.CopyFrom q from tag) (suc (suc s)) next = never next.holds
  changes (instr.UndoTo q to tag) zero next = undo_test q to tag next
  changes (instr.UndoTo q to tag) (suc zero) next = undo_give q to tag next
  changes (instr.UndoTo q to tag) (suc (suc s)) next = never next.holds
  changes (instr.UndoFrom q from tag) zero next = undo_take q from tag next
  changes (instr.UndoFrom q from tag) (suc zero) next = undo_fix q from tag next
  changes (instr.UndoFrom q from tag) (suc (suc s)) next = never next.holds
  changes (instr.MoveTo q to tag) zero next = move_pair q to tag next
  changes (instr.MoveTo q to tag) (suc zero) next = move_cross q to tag next
  changes (instr.MoveTo q to tag) (suc (suc zero)) next = move_had q to tag next
  changes (instr.MoveTo q to tag) (suc (suc (suc zero))) next = move_near q to tag next
  changes (instr.MoveTo q to tag) (suc (suc (suc (suc zero)))) next = move_post q to tag next
  changes (instr.MoveTo q to tag) (suc (suc (suc (suc (suc s))))) next = never next.holds
  changes (instr.MoveFrom q from tag) zero next = move_take q from tag next
  changes (instr.MoveFrom q from tag) (suc zero) next = move_flip q from tag next
  changes (instr.MoveFrom q from tag) (suc (suc zero)) next = move_sign q from tag next
  changes (instr.MoveFrom q from tag) (suc (suc (suc s))) next = never next.holds
  changes (instr.ReachTo q to tag) zero next = reach_pair q to tag next
  changes (instr.ReachTo q to tag) (suc zero) next = reach_cross q to tag next
  changes (instr.ReachTo q to tag) (suc (suc zero)) next = reach_post q to tag next
  changes (instr.ReachTo q to tag) (suc (suc (suc zero))) next = answer_take q to tag next
  changes (instr.ReachTo q to tag) (suc (suc (suc (suc zero)))) next = answer_fix q to tag next
  changes (instr.ReachTo q to tag) (suc (suc (suc (suc (suc s))))) next = never next.holds
  changes (instr.ReachFrom q from tag) zero next = reach_take q from tag next
  changes (instr.ReachFrom q from tag) (suc zero) next = reach_flip q from tag next
  changes (instr.ReachFrom q from tag) (suc (suc zero)) next = reach_target q from tag next
  changes (instr.ReachFrom q from tag) (suc (suc (suc zero))) next = reach_had q from tag next
  changes (instr.ReachFrom q from tag) (suc (suc (suc (suc zero)))) next = reach_give q from tag next
  changes (instr.ReachFrom q from tag) (suc (suc (suc (suc (suc s))))) next = never next.holds
  changes (instr.Do gt) zero next = λ n g c ds before. local_change (instr.Do gt) next (gate_letter (wire_in t r) gt ∷ []) refl refl refl (λ zs e. nothing_due event.Gate zs e) c
  changes (instr.Free q) zero next = λ n g c ds before. local_change (instr.Free q) next (Take (wire_in t r q) false ∷ []) refl refl refl (λ zs e. nothing_due event.Free zs e) c
  changes (instr.Measure q b) zero next = λ n g c ds before. local_change (instr.Measure q b) next (Keep (wire_in t r q) (own_next t r) ∷ []) refl refl refl (λ zs e. nothing_due event.Measure zs e) c
  changes (instr.Set b v) zero next = λ n g c ds before. local_change (instr.Set b v) next [] refl refl refl (λ zs e. nothing_due event.Set zs e) c
  changes (instr.Xor b v) zero next = λ n g c ds before. local_change (instr.Xor b v) next [] refl refl refl (λ zs e. nothing_due event.Xor zs e) c
  changes (instr.SendBit b to tag) zero next = λ n g c ds before. local_change (instr.SendBit b to tag) next [] refl refl refl (λ zs e. nothing_due event.SendBit zs e) c
  changes (instr.RecvBit b from tag) zero next = λ n g c ds before. local_change (instr.RecvBit b from tag) next [] refl refl refl (λ zs e. nothing_due event.RecvBit zs e) c
  changes (instr.When b gt) zero next = λ n g c ds before.
      let l = gate_letter (wire_in t r) gt in
      subst (λ zs. RawChange p t r (instr.When b gt) 0 c zs (letter_if (bit_of t r b) l) (rank_raw p t r) (rank_raw p (after p t r (instr.When b gt) 0) r)) (sym (letters_so r t (bit_of t r b) l))
      (local_change (instr.When b gt) next (letter_if (bit_of t r b) l) refl refl refl (λ zs e. nothing_due event.When zs e) c)
  changes _ (suc s) next = never next.holds
