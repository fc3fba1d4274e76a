-- The letters of the collectives are those of the ideal machine's steps
use Rattle.std.proofs.Common.{◌≡◌, ℕ, cond, false, [], ◌∷◌, ◌++◌, Option, Some, refl, sym, ap, ◌∙◌}
use Rattle.std.specs.Option.{option_map}
use Rattle.std.proofs.lemmas.Option.{same_Some}
use Rattle.qm_denot.specs.declared.Wire.{Wire}
use Rattle.qm_denot.specs.declared.Letter.TheVariants.{Cx, Take, Rename}
use Rattle.qm_instr.specs.declared.Instr.{Instr}
use Rattle.qm_instr.specs.declared.Instr.TheVariants as instr
use Rattle.qm_instr.specs.declared.Kind.TheVariants as kind
use Rattle.qm_instr.specs.declared.Lane.{Lane}
use Rattle.qm_instr.specs.Lanes.{lane, lane_sent, lane_received, is_lane}
use Rattle.qm_instr.specs.Programs.{Programs}
use Rattle.qm_proto.specs.Model.Ideal.{IdealTables, ideal_wire_in, ideal_current, ideal_wire_offered, ideal_row_of}
use Rattle.qm_proto.specs.Model.Rows.{wire_offered}
use Rattle.qm_proto.specs.Model.State.{no_wire}
use Rattle.qm_collect.specs.Letters.{Wiring, message_letters, met_letters, sent_letters}
use Rattle.qm_confluence.specs.CollectiveLetters.{IsWiredAs, LetterLaw}
use Rattle.qm_collect.proofs.Meetings.{met}

-- a send and a receive are on one lane
met_on : (b c a : Lane) (v u f : Wire) → Some b ≡ Some a → Some c ≡ Some a
    → met_letters (Some b) (Some c) v u f ≡ message_letters b.kind v u f
met_on b c a v u f sends takes =
    ap (λ x. cond (is_lane b x) (message_letters b.kind v u f) []) (same_Some c b (takes ∙ sym sends))
    ∙ met b v u f

-- both ends of a message are of one kind
kinds : {o u : Option Lane} {a : Lane} → o ≡ Some a → u ≡ Some a
    → option_map (λ (x : Lane). x.kind) o ≡ option_map (λ (x : Lane). x.kind) u
kinds sends takes = ap (option_map (λ (x : Lane). x.kind)) (sends ∙ sym takes)

module _ (p : Programs) (t : IdealTables) (w : Wiring) (r s : ℕ) (wired : IsWiredAs w t r s) where
  -- the wire that a rank offers, by the instruction at which it stands
  offered : (d k : ℕ) (i : Instr) → d ≡ k → ideal_current p t k ≡ Some i
      → wire_offered (ideal_wire_in t k) (Some i) ≡ ideal_wire_offered p t d
  offered d k i same stands =
      ap (wire_offered (ideal_wire_in t k)) (sym stands)
      ∙ ap (ideal_wire_offered p t) (sym same)

  -- the letters where i sends what j receives, while the ranks stand at i and j
  abbrev AreIdeal : Instr → Instr → Type 0
  AreIdeal i j =
      (a : Lane) → lane_sent r i ≡ Some a → lane_received s j ≡ Some a → ideal_current p t r ≡ Some i → ideal_current p t s ≡ Some j
      → sent_letters w r i s j ≡ (ideal_row_of p t r i).letters ++ (ideal_row_of p t s j).letters

  bit : (b to tag : ℕ) (j : Instr) → AreIdeal (instr.SendBit b to tag) j
  bit b to tag (instr.RecvBit c from end) a sends takes here there =
      met_on (lane r to kind.Bit tag) (lane from s kind.Bit end) a no_wire no_wire no_wire sends takes
  bit b to tag _ a sends takes here there = let same = kinds sends takes in cc

  copy : (q to tag : ℕ) (j : Instr) → AreIdeal (instr.CopyTo q to tag) j
  copy q to tag (instr.CopyFrom k from end) a sends takes here there =
      met_on (lane r to kind.Copy tag) (lane from s kind.Copy end) a (w.slot r q) (w.slot s k) (w.sent r s) sends takes
      ∙ ap (λ v. Cx v (w.sent r s) ∷ []) (wired.slot r q)
      ∙ ap (λ f. Cx (ideal_wire_in t r q) f ∷ []) wired.sent
  copy q to tag _ a sends takes here there = let same = kinds sends takes in cc

  move : (q to tag : ℕ) (j : Instr) → AreIdeal (instr.MoveTo q to tag) j
  move q to tag (instr.MoveFrom k from end) a sends takes here there =
      met_on (lane r to kind.Move tag) (lane from s kind.Move end) a (w.slot r q) (w.slot s k) (w.sent r s) sends takes
      ∙ ap (λ v. Rename v (w.sent r s) ∷ []) (wired.slot r q)
      ∙ ap (λ f. Rename (ideal_wire_in t r q) f ∷ []) wired.sent
  move q to tag _ a sends takes here there = let same = kinds sends takes in cc

  undo : (q to tag : ℕ) (j : Instr) → AreIdeal (instr.UndoTo q to tag) j
  undo q to tag (instr.UndoFrom k from end) a sends takes here there =
      let receiver : to ≡ s = ap (λ (x : Lane). x.to) (same_Some (lane r to kind.Undo tag) (lane from s kind.Undo end) (sends ∙ sym takes)) in
      met_on (lane r to kind.Undo tag) (lane from s kind.Undo end) a (w.slot r q) (w.slot s k) (w.sent r s) sends takes
      ∙ ap (λ u. Cx u (w.slot r q) ∷ Take (w.slot r q) false ∷ []) (wired.slot s k ∙ offered to s (instr.UndoFrom k from end) receiver there)
      ∙ ap (λ v. Cx (ideal_wire_offered p t to) v ∷ Take v false ∷ []) (wired.slot r q)
  undo q to tag _ a sends takes here there = let same = kinds sends takes in cc

  reach : (q to tag : ℕ) (j : Instr) → AreIdeal (instr.ReachTo q to tag) j
  reach q to tag (instr.ReachFrom k from end) a sends takes here there =
      let sender : from ≡ r = ap (λ (x : Lane). x.from) (same_Some (lane from s kind.Reach end) (lane r to kind.Reach tag) (takes ∙ sym sends)) in
      met_on (lane r to kind.Reach tag) (lane from s kind.Reach end) a (w.slot r q) (w.slot s k) (w.sent r s) sends takes
      ∙ ap (λ v. Cx v (w.slot s k) ∷ []) (wired.slot r q ∙ offered from r (instr.ReachTo q to tag) sender here)
      ∙ ap (λ u. Cx (ideal_wire_offered p t from) u ∷ []) (wired.slot s k)
  reach q to tag _ a sends takes here there = let same = kinds sends takes in cc

  message : (i j : Instr) → AreIdeal i j
  message (instr.SendBit b to tag) j = bit b to tag j
  message (instr.CopyTo q to tag) j = copy q to tag j
  message (instr.MoveTo q to tag) j = move q to tag j
  message (instr.UndoTo q to tag) j = undo q to tag j
  message (instr.ReachTo q to tag) j = reach q to tag j
  message _ j = λ a sends takes here there. cc

pub letters : LetterLaw
letters = record {
  message = λ p t w r s i j a wired. message p t w r s wired i j a;
  cx = λ p t r c u. refl;
}
