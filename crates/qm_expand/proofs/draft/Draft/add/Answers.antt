use Rattle.std.proofs.Common.{rules, ◌≡◌, ◌<◌, ◌∙◌, ap, sym, arith, true}
use Rattle.qm_instr.specs.Programs.{instruction_total, rank_of}
use Rattle.qm_expand.specs.Drafts.{has_operands}
use Rattle.qm_expand.proofs.DraftLemmas.{made_ok}
use Rattle.qm_expand.proofs.draft.Draft.add.Goals as goal

pub push-requires-clause-few : goal.push-requires-clause-few
push-requires-clause-few c = let e = c.args.self.now.counted in omega arith

pub overflow_add-self : goal.overflow_add-self
overflow_add-self c = let low = c.if-self-ge-MOST_INSTRUCTIONS.false in omega arith

pub returns-clause-answers : goal.returns-clause-answers
returns-clause-answers c =
    let p = c.args.self.now.input in
    let e = c.args.self.now.counted in
    let few : instruction_total p < 100000 = omega arith in
    let ok : has_operands (rank_of p c.args.rank).qubits c.args.i ≡ true =
    ap (λ q. has_operands q c.args.i) (sym c.qubits.ensures) ∙ sym c.if-not-has_operands.ensures.value in
    made_ok c.args.line c.args.rank c.args.i p c.push.new.self c.args.self.now.turns ok few c.in-Ok.ensures.ok

pub returns-then-self-ge-MOST_INSTRUCTIONS-clause-answers : goal.returns-then-self-ge-MOST_INSTRUCTIONS-clause-answers
returns-then-self-ge-MOST_INSTRUCTIONS-clause-answers c = search rules
