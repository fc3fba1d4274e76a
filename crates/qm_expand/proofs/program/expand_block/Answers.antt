use Rattle.qm_expand.proofs.program.expand_block.Goals as goal

pub returns-clause-answers : goal.returns-clause-answers
returns-clause-answers c = λ n h. rw (c.new.ensures.items, c.ranks.ensures.value, c.qubits.ensures) at (c.body.ensures.answers n h)
