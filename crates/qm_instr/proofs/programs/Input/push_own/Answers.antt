use Rattle.std.proofs.Common.{◌++◌, ◌∷◌, [], subst}
use Rattle.qm_instr.specs.Programs.{IsInRange, RankProgram}
use Rattle.qm_instr.proofs.Ranges.{edited, same_rank-in_range, with_own-in_range}
use Rattle.qm_instr.proofs.programs.Input.push_own.Goals as goal

pub invariant_of-self : goal.invariant_of-self
invariant_of-self c =
    let need = c.requires in
    let same = edited (λ (x : RankProgram). x) _ _ _ _ _ _ c.self.view_is c.from.ensures need.known c.index_mut.ensures.value c.in_err-push_own.ensures.err in
    subst IsInRange same (same_rank-in_range c.args.self.now c.args.rank need.known (subst IsInRange c.self.view_is c.self.invariant))

pub invariant_of-self-2 : goal.invariant_of-self-2
invariant_of-self-2 c =
    let m = c.args.m in
    let need = c.requires in
    let same = edited (λ (x : RankProgram). record x { own = x.own ++ m ∷ [] }) _ _ _ _ _ _ c.self.view_is c.from.ensures need.known c.index_mut.ensures.value c.in_ok-push_own.ensures.ok in
    subst IsInRange same (with_own-in_range c.args.self.now c.args.rank m need.known need.room (subst IsInRange c.self.view_is c.self.invariant))
