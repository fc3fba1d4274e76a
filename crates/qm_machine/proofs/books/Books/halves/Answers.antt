use Rattle.std.proofs.Common.{arith}
use Rattle.std.proofs.lemmas.List.{length-map}
use Rattle.qm_buffers.specs.declared.Buffer.{Buffer}
use Rattle.qm_machine.specs.Views.{tables}
use Rattle.qm_machine.proofs.Leaving.{size_read}
use Rattle.qm_machine.proofs.books.Books.halves.Goals as goal

pub halves-requires : goal.halves-requires
unfolding tables
halves-requires c = omega (arith, c.requires, length-map c.args.self.now.halves (λ (b : Buffer). b.size))

pub returns-clause-count : goal.returns-clause-count
unfolding tables
returns-clause-count c = c.halves.ensures.count

pub returns-clause-within : goal.returns-clause-within
unfolding tables
returns-clause-within c = omega (arith, c.halves.ensures.within, size_read c.args.self.now.halves c.args.rank)
