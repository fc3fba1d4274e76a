use Rattle.std.proofs.Common.{◌≡◌, None, replicate}
use Rattle.qm_cost.proofs.books.Books.start.Given as goal

abbrev pub invariant-loop : goal.invariant-loop
invariant-loop l = l.last.items ≡ replicate l.counter None
