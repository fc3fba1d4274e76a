-- What the workers of all ranks leave, and that a machine which is played on from there keeps it
use Rattle.std.proofs.Common.{◌≡◌, ◌∙◌, ℕ, ◌+◌, List, ◌++◌, length, take, drop, sym, ap, subst, length-append, arith}
use Rattle.std.specs.Prelude.{Some, slice_get}
use Rattle.std.proofs.lemmas.List.{length-map}
use Rattle.std.proofs.Math.Seq.{take-append_seam, drop-append_seam}
use Rattle.qm_denot.specs.Stores.{Store}
use Rattle.qm_instr.specs.Programs.{Programs}
use Rattle.qm_lock.specs.Lists.{times, StartsWith}
use Rattle.qm_lock.specs.Passes.{pass_count, pass_seen, IsReady, EachPass}
use Rattle.qm_lock.specs.declared.desk.Desk.{Desk}
use Rattle.qm_lock.specs.declared.desk.Pass.{Pass}
use Rattle.qm_proto.specs.Model.Schedules.{replay, IsFirstSoFarFrom}
use Rattle.qm_proto.specs.Model.Orders.{from_the_lowest}
use Rattle.qm_machine.specs.Keeps.{MachineView, Keeps}
use Rattle.qm_ranks.specs.declared.played.Exit.{Exit}
use Rattle.qm_ranks.specs.declared.desk.Playing.{Playing}
use Rattle.qm_ranks.specs.declared.workers.Done.{Done}
use Rattle.qm_ranks.specs.Plays.{Plays}
use Rattle.qm_ranks.specs.Played.{IsExitOf, IsPlayed}
use Rattle.qm_ranks.specs.Workers.{desk_programs, IsDone, EachDone, passes_of, exits_of}
use Rattle.qm_ranks.proofs.Mapped.{from_map, to_map}
use Rattle.qm_ranks.proofs.Leaving.{exit_is, plays_on}

module _ {A : Type 0} (d : Desk (Playing A)) (done : List (Done A)) (each : EachDone (IsDone d) done) where
  -- the passes of workers that have left are those of the desk, in their order, without a turn
  pub each_ready : (passes : List (Pass (Playing A))) → passes ≡ passes_of done → EachPass (IsReady d) passes
  each_ready passes is k p e =
      let x = from_map (λ (y : Done A). y.pass) done k p (ap (λ ps. slice_get ps k) (sym is) ∙ e) in
      subst (IsReady d k) x.2 (each k x.0 x.1).ready

  -- their exits, over the schedule that the desk has when it closes, and whatever comes after it
  module _ (passes : List (Pass (Playing A))) (is : passes ≡ passes_of done) (schedule : List ℕ)
      (seen : EachPass (λ _ p. StartsWith schedule (pass_seen p)) passes) (counts : EachPass (λ k p. times k schedule ≡ pass_count p) passes) where
    each_exit : (more : List ℕ) (r : ℕ) (e : Exit) → slice_get (exits_of done) r ≡ Some e → IsExitOf (desk_programs d) (schedule ++ more) (length schedule) r e
    each_exit more r e at =
        let x = from_map (λ (y : Done A). y.exit) done r e at in
        let here : slice_get passes r ≡ Some x.0.pass = ap (λ ps. slice_get ps r) is ∙ to_map (λ (y : Done A). y.pass) done r x.0 x.1 in
        let left = (each r x.0 x.1).exit in
        subst (IsExitOf (desk_programs d) (schedule ++ more) (length schedule) r) x.2
        (exit_is (desk_programs d) schedule more (pass_seen x.0.pass) r x.0.exit (seen r x.0.pass here) left.at left.own (counts r x.0.pass here ∙ sym left.made) left.why)

    -- the machine of the desk is played on to its end
    pub is_played : (store : A → Store) (m n : MachineView A) (threaded : ℕ) (exits : List Exit) → m.programs ≡ desk_programs d → m.schedule ≡ schedule → exits ≡ exits_of done
        → length done ≡ length (desk_programs d).ranks → threaded ≡ length m.schedule → Keeps store m → Plays store m n from_the_lowest → IsPlayed n threaded exits
    is_played store m n threaded exits programs same exits_are all threaded_is kept plays =
        let on = plays_on store m n kept plays in
        let n_programs : n.programs ≡ desk_programs d = plays.programs ∙ programs in
        let n_schedule : n.schedule ≡ schedule ++ on.more = on.schedule ∙ ap (λ xs. xs ++ on.more) same in
        let t : threaded ≡ length schedule = threaded_is ∙ ap (λ xs. length xs) same in
        let long : length n.schedule ≡ length schedule + length on.more = ap (λ xs. length xs) n_schedule ∙ length-append schedule on.more in
        let front : take threaded n.schedule ≡ schedule = ap (λ k. take k n.schedule) t ∙ ap (take (length schedule)) n_schedule ∙ take-append_seam schedule on.more in
        let back : drop threaded n.schedule ≡ on.more = ap (λ k. drop k n.schedule) t ∙ ap (drop (length schedule)) n_schedule ∙ drop-append_seam schedule on.more in
        record {
          short = omega arith;
          count = ap (λ es. length es) exits_are ∙ length-map done (λ (y : Done A). y.exit) ∙ all ∙ ap (λ (p : Programs). length p.ranks) (sym n_programs);
          each = λ r e at.
              subst (λ k. IsExitOf n.programs n.schedule k r e) (sym t)
              (subst (λ xs. IsExitOf n.programs xs (length schedule) r e) (sym n_schedule)
              (subst (λ (p : Programs). IsExitOf p (schedule ++ on.more) (length schedule) r e) (sym n_programs)
              (each_exit on.more r e (ap (λ es. slice_get es r) (sym exits_are) ∙ at))));
          lowest =
              subst (λ xs. IsFirstSoFarFrom n.programs (replay n.programs (take threaded n.schedule)) xs) (sym back)
              (subst (λ xs. IsFirstSoFarFrom n.programs (replay n.programs xs) on.more) (sym front)
              (subst (λ (p : Programs). IsFirstSoFarFrom p (replay p schedule) on.more) (sym plays.programs)
              (subst (λ xs. IsFirstSoFarFrom m.programs (replay m.programs xs) on.more) same on.lowest)));
          over = on.over;
        }
