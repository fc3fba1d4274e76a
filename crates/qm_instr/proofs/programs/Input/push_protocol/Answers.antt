use Rattle.std.proofs.Common.{◌++◌, ◌∷◌, [], subst}
use Rattle.qm_instr.specs.Programs.{IsInRange, RankProgram}
use Rattle.qm_instr.proofs.Ranges.{edited, same_rank-in_range, with_protocol-in_range}
use Rattle.qm_instr.proofs.programs.Input.push_protocol.Goals as goal

pub invariant_of-self : goal.invariant_of-self
invariant_of-self c =
    let need = c.requires in
    let same = edited (λ (x : RankProgram). x) _ _ _ _ _ _ c.self.view_is c.from.ensures need.known c.index_mut.ensures.value c.in_err-push_protocol.ensures.err in
    subst IsInRange same (same_rank-in_range c.args.self.now c.args.rank need.known (subst IsInRange c.self.view_is c.self.invariant))

pub invariant_of-self-2 : goal.invariant_of-self-2
invariant_of-self-2 c =
    let m = c.args.m in
    let need = c.requires in
    let same = edited (λ (x : RankProgram). record x { protocol = x.protocol ++ m ∷ [] }) _ _ _ _ _ _ c.self.view_is c.from.ensures need.known c.index_mut.ensures.value c.in_ok-push_protocol.ensures.ok in
    subst IsInRange same (with_protocol-in_range c.args.self.now c.args.rank m need.known need.room (subst IsInRange c.self.view_is c.self.invariant))
