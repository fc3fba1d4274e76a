-- The worked orders: the programs have no fault, and both orders are computed and alike
use Rattle.std.proofs.Common.{◌≡◌, ℕ, zero, suc, ◌||◌, if◌then◌else◌, Bool, true, false, [], ◌∷◌, Some, None, refl, subst, arith, lit≤, All, ◌<◌}
use Rattle.qm_instr.specs.declared.Kind.TheVariants as kind
use Rattle.qm_instr.specs.declared.Lane.{Lane}
use Rattle.qm_instr.specs.Lanes.{lane, is_lane}
use Rattle.std.proofs.lemmas.List.Elements.{All-nil, All-push}
use Rattle.qm_instr.specs.declared.Instr.{Instr}
use Rattle.qm_instr.specs.declared.Instr.TheVariants as instr
use Rattle.qm_instr.specs.Operands.{HasOperands, slots_of, bits_of}
use Rattle.qm_instr.specs.Programs.{IsInRange, IsRankInRange, rank_of}
use Rattle.qm_instr.proofs.LaneOrder.{same_lane}
use Rattle.qm_check.specs.declared.Fault.TheVariants as fault
use Rattle.qm_check.specs.Checks.{IsReady, AllRanks, AtInstr, OnLane, OnTape}
use Rattle.qm_check.specs.Messages.{is_back, lane_fault, posts_in, receives_in}
use Rattle.qm_proto.specs.Model.Ideal.{ideal_replay, IsIdealRun}
use Rattle.qm_confluence.specs.Confluence.{EitherOrder}
use Rattle.qm_confluence.specs.WorkedOrders.{WorkedOrders, crossed_copies}
use Rattle.qm_confluence.proofs.Confluence.Confluent.{steps_commute}

-- ---- no lane is unmatched
abbrev there : Lane
there = lane 0 1 kind.Copy 1

abbrev back : Lane
back = lane 1 0 kind.Copy 1

chosen : {A : Type 0} (b : Bool) (x y : A) → (if b || true then x else y) ≡ x
chosen true x y = refl
chosen false x y = refl

module _ (a : Lane) (not_there : is_lane there a ≡ false) (not_back : is_lane back a ≡ false) where
  none_posted : (r : ℕ) → posts_in r a (rank_of crossed_copies r).instructions ≡ 0
  none_posted zero = rw not_there refl
  none_posted (suc zero) = rw not_back refl
  none_posted (suc (suc r)) = refl

  none_received : (r : ℕ) → receives_in r a (rank_of crossed_copies r).instructions ≡ 0
  none_received zero = rw not_back refl
  none_received (suc zero) = rw not_there refl
  none_received (suc (suc r)) = refl

matched : (a : Lane) → lane_fault crossed_copies a ≡ None
unfolding is_lane
matched a = by_two (is_lane there a) refl (is_lane back a) refl
  where
    by_two : (b : Bool) → is_lane there a ≡ b → (c : Bool) → is_lane back a ≡ c → lane_fault crossed_copies a ≡ None
    by_two true e c d = subst (λ l. lane_fault crossed_copies l ≡ None) (same_lane there a e) refl
    by_two false e true d = subst (λ l. lane_fault crossed_copies l ≡ None) (same_lane back a d) refl
    by_two false e false d =
        rw (none_posted a e d a.from, none_received a e d a.to) (chosen (is_back a.kind) None (Some (fault.UnmatchedLane a 0 0)))

ready : IsReady crossed_copies
ready AllRanks = refl
ready (AtInstr zero zero) = refl
ready (AtInstr zero (suc zero)) = refl
ready (AtInstr zero (suc (suc zero))) = refl
ready (AtInstr zero (suc (suc (suc k)))) = refl
ready (AtInstr (suc zero) zero) = refl
ready (AtInstr (suc zero) (suc zero)) = refl
ready (AtInstr (suc zero) (suc (suc zero))) = refl
ready (AtInstr (suc zero) (suc (suc (suc k)))) = refl
ready (AtInstr (suc (suc r)) k) = refl
ready (OnLane a) = matched a
ready (OnTape zero true) = refl
ready (OnTape zero false) = refl
ready (OnTape (suc zero) true) = refl
ready (OnTape (suc zero) false) = refl
ready (OnTape (suc (suc r)) true) = refl
ready (OnTape (suc (suc r)) false) = refl

module _ {A : Type 0} (P : A → Type 0) where
  all_one : (x : A) → P x → All P (x ∷ [])
  all_one x h = All-push P [] x (All-nil P) h

  all_two : (x y : A) → P x → P y → All P (x ∷ y ∷ [])
  all_two x y h k = All-push P (x ∷ []) y (all_one x h) k

slot_and_none : (q : ℕ) (i : Instr) → q < 2 → slots_of i ≡ q ∷ [] → bits_of i ≡ [] → HasOperands 2 i
slot_and_none q i low slots bits = record {
  slots = rw slots (all_one (λ k. k < 2) q low);
  bits = rw bits (All-nil (λ k. k < 32));
}

copying_in_range : (to : ℕ) (m : Bool)
    → IsRankInRange (record { qubits = 2; buffer = 1; instructions = instr.Alloc 0 ∷ instr.CopyTo 0 to 1 ∷ instr.CopyFrom 1 to 1 ∷ []; own = []; protocol = m ∷ [] })
copying_in_range to m = record {
  some_qubits = lit≤ tt;
  most_qubits = lit≤ tt;
  some_buffer = lit≤ tt;
  most_buffer = lit≤ tt;
  operands =
      let first = slot_and_none 0 (instr.Alloc 0) (omega arith) refl refl in
      let second = slot_and_none 0 (instr.CopyTo 0 to 1) (omega arith) refl refl in
      let third = slot_and_none 1 (instr.CopyFrom 1 to 1) (omega arith) refl refl in
      let P = HasOperands 2 in
      All-push P (instr.Alloc 0 ∷ instr.CopyTo 0 to 1 ∷ []) (instr.CopyFrom 1 to 1) (all_two P (instr.Alloc 0) (instr.CopyTo 0 to 1) first second) third;
  own = lit≤ tt;
  protocol = lit≤ tt;
}

in_range : IsInRange crossed_copies
in_range = record {
  least_version = lit≤ tt;
  last_version = lit≤ tt;
  some_ranks = lit≤ tt;
  most_ranks = lit≤ tt;
  each = all_two IsRankInRange (rank_of crossed_copies 0) (rank_of crossed_copies 1) (copying_in_range 1 false) (copying_in_range 0 true);
  few = lit≤ tt;
}

-- ---- both orders
either : EitherOrder crossed_copies (0 ∷ 1 ∷ []) 0 1
unfolding ideal_replay IsIdealRun
either = steps_commute crossed_copies ready in_range (0 ∷ 1 ∷ []) 0 1 (omega arith, refl, (omega arith, refl, tt)) (omega arith) (omega arith) (λ e. let n : ⊥ = cc in n) refl refl

pub worked_orders : WorkedOrders
unfolding ideal_replay is_lane
worked_orders = record {
  ready = ready;
  in_range = in_range;
  zero_able = refl;
  one_able = refl;
  zero_first = refl;
  one_first = refl;
  sent = refl;
  sent_back = refl;
  alike = either.alike;
  holder_goes = refl;
  source_waits = refl;
  source_goes = refl;
}
