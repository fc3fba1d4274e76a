-- Every event of every instruction keeps the invariant
use Rattle.std.proofs.Common.{ℕ, zero, suc}
use Rattle.qm_instr.specs.declared.Instr.{Instr}
use Rattle.qm_instr.specs.declared.Instr.TheVariants as instr
use Rattle.qm_instr.specs.Programs.{Programs, IsInRange}
use Rattle.qm_check.specs.Checks.{IsReady}
use Rattle.qm_proto.specs.Model.State.{Tables}
use Rattle.qm_simulation.specs.Following.Seen.{tables_seen}
use Rattle.qm_safety.proofs.Tables.NextEvents.{IsNext}
use Rattle.qm_confluence.proofs.Confluence.IdealWires.{AreWiresCounted}
use Rattle.qm_simulation.proofs.Following.Stood.{IsStood}
use Rattle.qm_simulation.proofs.Following.Events.{Keeps, alloc_follows, set_follows, xor_follows, send_follows, receive_follows, gate_follows, gate_if_follows, measure_follows, free_follows}
use Rattle.qm_simulation.proofs.Following.Sends.{copy_pair_follows, move_pair_follows, reach_pair_follows, copy_cross_follows, move_cross_follows, reach_cross_follows, move_had_follows, move_near_follows, copy_post_follows, move_post_follows, reach_post_follows}
use Rattle.qm_simulation.proofs.Following.Receives.{copy_deliver_follows, move_deliver_follows, reach_deliver_follows, undo_deliver_follows, answer_follows, copy_fix_follows, move_sign_follows, undo_fix_follows, answer_fix_follows, move_flip_follows, reach_flip_follows, reach_target_follows, reach_had_follows}
use Rattle.qm_simulation.proofs.Following.Givings.{test_follows, give_follows, reach_give_follows}
use Rattle.qm_proto.proofs.Lines.{never}

module _ (p : Programs) (ready : IsReady p) (ranges : IsInRange p) (t : Tables) (r : ℕ) (stood : IsStood p t) (ideal : AreWiresCounted (tables_seen p t)) where
  pub keeps : (i : Instr) (s : ℕ) → IsNext p t r i s → Keeps p t r i s
  keeps (instr.Alloc q) zero next = alloc_follows p ready ranges t r stood ideal q next
  keeps (instr.Do g) zero next = gate_follows p ready ranges t r stood ideal g next
  keeps (instr.Free q) zero next = free_follows p ready ranges t r stood ideal q next
  keeps (instr.Measure q b) zero next = measure_follows p ready ranges t r stood ideal q b next
  keeps (instr.Set b v) zero next = set_follows p ready ranges t r stood ideal b v next
  keeps (instr.Xor b c) zero next = xor_follows p ready ranges t r stood ideal b c next
  keeps (instr.When b g) zero next = gate_if_follows p ready ranges t r stood ideal b g next
  keeps (instr.SendBit b to tag) zero next = send_follows p ready ranges t r stood ideal b to tag next
  keeps (instr.RecvBit b from tag) zero next = receive_follows p ready ranges t r stood ideal b from tag next
  keeps (instr.CopyTo q to tag) zero next = copy_pair_follows p ready ranges t r stood ideal q to tag next
  keeps (instr.CopyTo q to tag) (suc zero) next = copy_cross_follows p ready ranges t r stood ideal q to tag next
  keeps (instr.CopyTo q to tag) (suc (suc zero)) next = copy_post_follows p ready ranges t r stood ideal q to tag next
  keeps (instr.CopyTo q to tag) (suc (suc (suc s))) next = never next.holds
  keeps (instr.CopyFrom q from tag) zero next = copy_deliver_follows p ready ranges t r stood ideal q from tag next
  keeps (instr.CopyFrom q from tag) (suc zero) next = copy_fix_follows p ready ranges t r stood ideal q from tag next
  keeps (instr.CopyFrom q from tag) (suc (suc s)) next = never next.holds
  keeps (instr.UndoTo q to tag) zero next = test_follows p ready ranges t r stood ideal q to tag next
  keeps (instr.UndoTo q to tag) (suc zero) next = give_follows p ready ranges t r stood ideal q to tag next
  keeps (instr.UndoTo q to tag) (suc (suc s)) next = never next.holds
  keeps (instr.UndoFrom q from tag) zero next = undo_deliver_follows p ready ranges t r stood ideal q from tag next
  keeps (instr.UndoFrom q from tag) (suc zero) next = undo_fix_follows p ready ranges t r stood ideal q from tag next
  keeps (instr.UndoFrom q from tag) (suc (suc s)) next = never next.holds
  keeps (instr.MoveTo q to tag) zero next = move_pair_follows p ready ranges t r stood ideal q to tag next
  keeps (instr.MoveTo q to tag) (suc zero) next = move_cross_follows p ready ranges t r stood ideal q to tag next
  keeps (instr.MoveTo q to tag) (suc (suc zero)) next = move_had_follows p ready ranges t r stood ideal q to tag next
  keeps (instr.MoveTo q to tag) (suc (suc (suc zero))) next = move_near_follows p ready ranges t r stood ideal q to tag next
  keeps (instr.MoveTo q to tag) (suc (suc (suc (suc zero)))) next = move_post_follows p ready ranges t r stood ideal q to tag next
  keeps (instr.MoveTo q to tag) (suc (suc (suc (suc (suc s))))) next = never next.holds
  keeps (instr.MoveFrom q from tag) zero next = move_deliver_follows p ready ranges t r stood ideal q from tag next
  keeps (instr.MoveFrom q from tag) (suc zero) next = move_flip_follows p ready ranges t r stood ideal q from tag next
  keeps (instr.MoveFrom q from tag) (suc (suc zero)) next = move_sign_follows p ready ranges t r stood ideal q from tag next
  keeps (instr.MoveFrom q from tag) (suc (suc (suc s))) next = never next.holds
  keeps (instr.ReachTo q to tag) zero next = reach_pair_follows p ready ranges t r stood ideal q to tag next
  keeps (instr.ReachTo q to tag) (suc zero) next = reach_cross_follows p ready ranges t r stood ideal q to tag next
  keeps (instr.ReachTo q to tag) (suc (suc zero)) next = reach_post_follows p ready ranges t r stood ideal q to tag next
  keeps (instr.ReachTo q to tag) (suc (suc (suc zero))) next = answer_follows p ready ranges t r stood ideal q to tag next
  keeps (instr.ReachTo q to tag) (suc (suc (suc (suc zero)))) next = answer_fix_follows p ready ranges t r stood ideal q to tag next
  keeps (instr.ReachTo q to tag) (suc (suc (suc (suc (suc s))))) next = never next.holds
  keeps (instr.ReachFrom q from tag) zero next = reach_deliver_follows p ready ranges t r stood ideal q from tag next
  keeps (instr.ReachFrom q from tag) (suc zero) next = reach_flip_follows p ready ranges t r stood ideal q from tag next
  keeps (instr.ReachFrom q from tag) (suc (suc zero)) next = reach_target_follows p ready ranges t r stood ideal q from tag next
  keeps (instr.ReachFrom q from tag) (suc (suc (suc zero))) next = reach_had_follows p ready ranges t r stood ideal q from tag next
  keeps (instr.ReachFrom q from tag) (suc (suc (suc (suc zero)))) next = reach_give_follows p ready ranges t r stood ideal q from tag next
  keeps (instr.ReachFrom q from tag) (suc (suc (suc (suc (suc s))))) next = never next.holds
  keeps _ (suc s) next = never next.holds
