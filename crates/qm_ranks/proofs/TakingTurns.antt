-- What one turn at the desk makes of a pass
use Rattle.std.proofs.Common.{◌≡◌, ◌∙◌, ℕ, ◌+◌, ◌≤◌, Bool, true, false, not, List, [], ◌∷◌, ◌++◌, length, sym, ap, subst, arith}
use Rattle.std.specs.Prelude.{Option, None, Some, is_some}
use Rattle.qm_limits.specs.declared.TheConstants.{MOST_EVENTS}
use Rattle.qm_instr.specs.Programs.{Programs}
use Rattle.qm_lock.specs.Lists.{times}
use Rattle.qm_lock.specs.Passes.{pass_number, pass_count, pass_seen, count_after, seen_after}
use Rattle.qm_lock.specs.declared.desk.Pass.{Pass}
use Rattle.qm_lock.proofs.Times.{times_few, times_own}
use Rattle.qm_proto.specs.Model.Schedules.{replay}
use Rattle.qm_ranks.specs.declared.played.Leave.{Leave}
use Rattle.qm_ranks.specs.declared.desk.Playing.{Playing}
use Rattle.qm_ranks.specs.declared.desk.Stepped.{Stepped}
use Rattle.qm_ranks.specs.Played.{LeavesFor}
use Rattle.qm_ranks.specs.Workers.{StepsTo, Counts, TookTurn}

-- the pass before the turn, while it has the machine, and after it; `after` is the schedule then
module _ {A : Type 0} (p : Programs) (r : ℕ) (old mid new : Pass (Playing A)) (after : List ℕ) (number : pass_number mid ≡ r) (same : pass_count mid ≡ pass_count old)
    (own : times r (pass_seen mid) ≡ pass_count mid) where
  -- what the pass knows then
  record Knows (stayed : Option Leave) : Type 0 where
    counts : Counts p r old stayed new
    own_after : times r (pass_seen new) ≡ pass_count new
    seen_is : pass_seen new ≡ after

  knows : (stayed : Option Leave) (added : Bool) → is_some stayed ≡ not added → StepsTo p (pass_seen mid) r stayed after → pass_count new ≡ count_after mid added → pass_seen new ≡ seen_after mid added
      → Knows stayed
  knows None true tells steps count seen =
      let seen_so : pass_seen new ≡ pass_seen mid ++ r ∷ [] = seen ∙ ap (λ n. pass_seen mid ++ n ∷ []) number in
      record {
        counts = count ∙ ap (λ n. n + 1) same;
        own_after = ap (times r) seen_so ∙ times_own r (pass_seen mid) ∙ ap (λ n. n + 1) own ∙ sym count;
        seen_is = seen_so ∙ sym steps;
      }
  knows None false tells steps count seen = absurd (cc)
  knows (Some why) true tells steps count seen = absurd (cc)
  knows (Some why) false tells steps count seen = record {
    counts = (count ∙ same, subst (λ xs. LeavesFor p (replay p xs) r why) (sym seen) steps.1);
    own_after = ap (times r) seen ∙ own ∙ sym count;
    seen_is = seen ∙ sym steps.0;
  }

  pub took_turn : (stepped : Stepped) (added : Bool) → is_some stepped.stayed ≡ not added → StepsTo p (pass_seen mid) r stepped.stayed after → stepped.at ≡ length after → length after ≤ MOST_EVENTS
      → pass_count new ≡ count_after mid added → pass_seen new ≡ seen_after mid added → TookTurn p r old stepped new
  took_turn stepped added tells steps at short count seen =
      let k = knows stepped.stayed added tells steps count seen in
      let long : length (pass_seen new) ≡ length after = ap (λ xs. length xs) k.seen_is in
      let few = times_few r (pass_seen new) in
      let counted = k.own_after in
      record { counts = k.counts; own = k.own_after; at = at ∙ sym long; few = omega arith }
