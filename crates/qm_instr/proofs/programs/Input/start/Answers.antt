use Rattle.std.proofs.Common.{◌≡◌, ◌∙◌, List, ℕ, replicate, ap, sym, subst, arith}
use Rattle.qm_instr.specs.Programs.{RankProgram, idle_rank, IsInRange}
use Rattle.qm_instr.proofs.Ranges.{idle-in_range}
use Rattle.qm_instr.proofs.programs.Input.start.Goals as goal

pub invariant_of-result : goal.invariant_of-result
invariant_of-result c =
    let ended : c.loop.counter ≡ c.args.ranks = omega arith in
    let all : replicate c.args.ranks idle_rank ≡ c.loop.all.items = ap (λ (n : ℕ). replicate n idle_rank) (sym ended) ∙ sym c.loop.invariant in
    let need = c.requires in
    subst (λ (xs : List RankProgram). IsInRange (record { version = c.args.version; ranks = xs })) all (idle-in_range c.args.version c.args.ranks need.least_version need.last_version need.some_ranks need.most_ranks)
