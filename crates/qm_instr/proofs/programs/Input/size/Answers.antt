use Rattle.std.proofs.Common.{subst}
use Rattle.qm_instr.specs.Programs.{IsInRange, RankProgram}
use Rattle.qm_instr.proofs.Ranges.{edited, with_sizes-in_range}
use Rattle.qm_instr.proofs.programs.Input.size.Goals as goal

pub invariant_of-self : goal.invariant_of-self
invariant_of-self c =
    let q = c.args.qubits in
    let b = c.args.buffer in
    let need = c.requires in
    let same = edited (λ (x : RankProgram). record x { qubits = q; buffer = b }) _ _ _ _ _ _ c.self.view_is c.from.ensures need.known c.index_mut.ensures.value c.size.ensures in
    subst IsInRange same (with_sizes-in_range c.args.self.now c.args.rank q b need.known need.unwritten need.some_qubits need.most_qubits need.some_buffer need.most_buffer (subst IsInRange c.self.view_is c.self.invariant))
