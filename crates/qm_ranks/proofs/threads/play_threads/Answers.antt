use Rattle.std.proofs.Common.{◌≡◌, ◌∙◌, ℕ, List, length, refl, sym, ap}
use Rattle.qm_instr.specs.Programs.{Programs}
use Rattle.qm_ranks.specs.Workers.{desk_programs}
use Rattle.qm_ranks.proofs.Finishing.{each_ready, is_played}
use Rattle.qm_ranks.proofs.threads.play_threads.Goals as goal

abbrev programs_of : List ℕ × Programs → Programs
programs_of o = o.1

pub work_all-done-requires-clause-passes : goal.work_all-done-requires-clause-passes
work_all-done-requires-clause-passes g c κs within = λ k p e. (c.in_ok-desk.ensures.passes k p e, c.in_ok-desk.ensures.new k p e)

pub close-machine-requires-clause-passes : goal.close-machine-requires-clause-passes
close-machine-requires-clause-passes g c = each_ready c.in_ok-desk.desk _ c.work_all-done.ensures.done _ c.parted-passes.ensures.passes

pub invariant_of-result : goal.invariant_of-result
invariant_of-result g c =
    let desk = c.in_ok-desk.desk in
    let programs = ap programs_of c.in_ok-desk.ensures.opening in
    let all : length c.work_all-done.result.items ≡ length (desk_programs desk).ranks =
    c.work_all-done.ensures.count ∙ c.in_ok-desk.ensures.count ∙ c.from-4.ensures ∙ c.ranks-ranks.ensures.value
    ∙ ap (λ (p : Programs). length p.ranks) (c.input.ensures.value ∙ c.ready.ensures ∙ sym programs) in
    is_played desk _ c.work_all-done.ensures.done _ c.parted-passes.ensures.passes _ c.close-machine.ensures.seen c.close-machine.ensures.counts
    g.A.Amps.store c.close-machine.result.machine c.play_order.new.machine _ _ (ap programs_of c.close-machine.ensures.opening) refl c.parted-passes.ensures.exits all
    (ap (λ xs. length xs) c.schedule.ensures.value) c.schedule.ensures.kept c.play_order.ensures
