use Rattle.std.proofs.Common.{◌++◌, ◌∷◌, [], subst}
use Rattle.qm_instr.specs.Programs.{IsInRange, RankProgram}
use Rattle.qm_instr.proofs.Ranges.{edited, same_rank-in_range, with_instruction-in_range}
use Rattle.qm_instr.proofs.programs.Input.push.Goals as goal

pub invariant_of-self : goal.invariant_of-self
invariant_of-self c =
    let need = c.requires in
    let same = edited (λ (x : RankProgram). x) _ _ _ _ _ _ c.self.view_is c.from.ensures need.known c.index_mut.ensures.value c.in_err-push.ensures.err in
    subst IsInRange same (same_rank-in_range c.args.self.now c.args.rank need.known (subst IsInRange c.self.view_is c.self.invariant))

pub invariant_of-self-2 : goal.invariant_of-self-2
invariant_of-self-2 c =
    let i = c.args.i in
    let need = c.requires in
    let same = edited (λ (x : RankProgram). record x { instructions = x.instructions ++ i ∷ [] }) _ _ _ _ _ _ c.self.view_is c.from.ensures need.known c.index_mut.ensures.value c.in_ok-push.ensures.ok in
    subst IsInRange same (with_instruction-in_range c.args.self.now c.args.rank i need.known need.operands need.few (subst IsInRange c.self.view_is c.self.invariant))
