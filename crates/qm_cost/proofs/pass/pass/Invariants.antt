use Rattle.std.proofs.Common.{◌≡◌, length}
use Rattle.qm_walk.specs.Notes.{AreStanding}
use Rattle.qm_cost.specs.Books.{books_of}
use Rattle.qm_cost.specs.Longest.{AreMarked}
use Rattle.qm_cost.specs.Turns.{turns_of}
use Rattle.qm_cost.proofs.Keeping.{Keeps}
use Rattle.qm_cost.proofs.Turning.{state_upto}
use Rattle.qm_cost.proofs.pass.pass.Given as goal

abbrev pub invariant-loop-rank : goal.invariant-loop-rank
invariant-loop-rank l = record {
  walk : AreStanding l.input (state_upto l.input l.schedule l.rank-index).tables l.walk;
  books : Keeps (turns_of l.input l.schedule) l.rank-index (books_of l.books);
  count : length l.books.last.items ≡ length l.input.ranks;
  marks : AreMarked (turns_of l.input l.schedule) l.delays l.marks.items l.rank-index;
}
