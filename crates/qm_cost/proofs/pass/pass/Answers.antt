use Rattle.std.proofs.Common.{◌≡◌, ◌∙◌, ◌<◌, ◌≤◌, length, slice_index_or, sym, ap, subst, arith}
use Rattle.std.proofs.lemmas.Option.{slice_get-get_or}
use Rattle.qm_cost.specs.Books.{BooksView, books_of}
use Rattle.qm_cost.specs.Turns.{turns_of}
use Rattle.qm_cost.specs.Longest.{finish_in, AreMarked}
use Rattle.qm_cost.proofs.Keeping.{Keeps, keeps_at_start, length_none}
use Rattle.qm_cost.proofs.Passing.{none_marked, finishes_few}
use Rattle.qm_cost.proofs.Turning.{state_upto}
use Rattle.qm_cost.proofs.Stepping.{note_rank, legal_few, some_here, known_here, stands_on, below_step, books_step, count_step, marks_step}
use Rattle.qm_cost.proofs.pass.pass.Goals as goal

pub loop-rank-init : goal.loop-rank-init
loop-rank-init c =
    let start = c.in_ok-books.ensures in
    record {
      walk = c.in_ok-walk.ensures;
      books = subst (λ b. Keeps (turns_of c.args.input.now c.args.schedule.now) 0 b) (sym start) (keeps_at_start _ c.ranks.result);
      count = ap (λ (b : BooksView). length b.last) start ∙ length_none c.ranks.result ∙ c.ranks.ensures.value;
      marks = subst (λ ms. AreMarked (turns_of c.args.input.now c.args.schedule.now) c.args.delays ms 0) (sym c.in_ok-marks.ensures.items)
          (none_marked _ c.args.delays);
    }

pub overflow_cast-rank : goal.overflow_cast-rank
overflow_cast-rank c =
    let lt : c.loop-rank.rank-index < length c.args.schedule.now = omega arith in
    let entry = slice_get-get_or c.args.schedule.now c.loop-rank.rank-index 0 lt in
    let known = known_here c.args.input.now c.args.schedule.now c.loop-rank.rank-index _ entry c.requires.legal in
    omega (arith, known, c.ranks.ensures.value)

pub next-requires-clause-known : goal.next-requires-clause-known
next-requires-clause-known c =
    let lt : c.loop-rank.rank-index < length c.args.schedule.now = omega arith in
    let entry = slice_get-get_or c.args.schedule.now c.loop-rank.rank-index 0 lt in
    known_here c.args.input.now c.args.schedule.now c.loop-rank.rank-index _ entry c.requires.legal

pub unreachable-requires : goal.unreachable-requires
unreachable-requires c =
    let lt : c.loop-rank.rank-index < length c.args.schedule.now = omega arith in
    let entry = slice_get-get_or c.args.schedule.now c.loop-rank.rank-index 0 lt in
    some_here c.args.input.now c.args.schedule.now c.loop-rank.rank-index _ entry c.requires.legal
    (c.in_default.ensures.note (state_upto c.args.input.now c.args.schedule.now c.loop-rank.rank-index).tables c.loop-rank.invariant.walk)

pub links-links-requires : goal.links-links-requires
links-links-requires c =
    let lt : c.loop-rank.rank-index < length c.args.schedule.now = omega arith in
    let entry = slice_get-get_or c.args.schedule.now c.loop-rank.rank-index 0 lt in
    let known = known_here c.args.input.now c.args.schedule.now c.loop-rank.rank-index _ entry c.requires.legal in
    let same = note_rank c.args.input.now (state_upto c.args.input.now c.args.schedule.now c.loop-rank.rank-index).tables
    (slice_index_or c.args.schedule.now c.loop-rank.rank-index 0) c.in-Some.note (c.in-Some.ensures.note (state_upto c.args.input.now c.args.schedule.now c.loop-rank.rank-index).tables c.loop-rank.invariant.walk) in
    omega (arith, known, same, c.loop-rank.invariant.count)

pub next-mark-requires-clause-known : goal.next-mark-requires-clause-known
next-mark-requires-clause-known c =
    let lt : c.loop-rank.rank-index < length c.args.schedule.now = omega arith in
    let entry = slice_get-get_or c.args.schedule.now c.loop-rank.rank-index 0 lt in
    below_step c.args.input.now c.args.schedule.now c.loop-rank.rank-index _ entry c.in-Some.note
    (c.in-Some.ensures.note (state_upto c.args.input.now c.args.schedule.now c.loop-rank.rank-index).tables c.loop-rank.invariant.walk) (books_of c.loop-rank.books) c.loop-rank.invariant.books c.links-links.result _
    (ap length c.deref.ensures.value ∙ c.loop-rank.invariant.marks.count) c.links-links.ensures

pub next-mark-requires-clause-few : goal.next-mark-requires-clause-few
next-mark-requires-clause-few c = λ j h.
    let few = legal_few c.args.input.now c.args.schedule.now c.ranks.ensures.in_range c.requires.legal in
    let long : c.loop-rank.rank-index ≤ 500000 = omega (arith, few) in
    let same = c.deref.ensures.value in
    subst (λ ms. j < length ms → finish_in ms j ≤ 1000000000000) (sym same)
    (finishes_few (turns_of c.args.input.now c.args.schedule.now) c.args.delays c.loop-rank.marks.items c.loop-rank.rank-index long c.loop-rank.invariant.marks j) h

pub overflow_cast-len : goal.overflow_cast-len
overflow_cast-len c =
    let few = legal_few c.args.input.now c.args.schedule.now c.ranks.ensures.in_range c.requires.legal in
    omega (arith, few, c.loop-rank.invariant.marks.count, c.loop-rank.marks.ok.0, c.len.ensures)

pub write-requires : goal.write-requires
write-requires c =
    let lt : c.loop-rank.rank-index < length c.args.schedule.now = omega arith in
    let entry = slice_get-get_or c.args.schedule.now c.loop-rank.rank-index 0 lt in
    let known = known_here c.args.input.now c.args.schedule.now c.loop-rank.rank-index _ entry c.requires.legal in
    let same = note_rank c.args.input.now (state_upto c.args.input.now c.args.schedule.now c.loop-rank.rank-index).tables
    (slice_index_or c.args.schedule.now c.loop-rank.rank-index 0) c.in-Some.note (c.in-Some.ensures.note (state_upto c.args.input.now c.args.schedule.now c.loop-rank.rank-index).tables c.loop-rank.invariant.walk) in
    omega (arith, known, same, c.loop-rank.invariant.count)

pub loop-rank-preserved : goal.loop-rank-preserved
loop-rank-preserved c =
    let lt : c.loop-rank.rank-index < length c.args.schedule.now = omega arith in
    let entry = slice_get-get_or c.args.schedule.now c.loop-rank.rank-index 0 lt in
    let known = known_here c.args.input.now c.args.schedule.now c.loop-rank.rank-index _ entry c.requires.legal in
    let noted = c.in-Some.ensures.note (state_upto c.args.input.now c.args.schedule.now c.loop-rank.rank-index).tables c.loop-rank.invariant.walk in
    let same = note_rank c.args.input.now (state_upto c.args.input.now c.args.schedule.now c.loop-rank.rank-index).tables
    (slice_index_or c.args.schedule.now c.loop-rank.rank-index 0) c.in-Some.note noted in
    let within : c.in-Some.note.rank < length c.loop-rank.books.last.items = omega (arith, known, same, c.loop-rank.invariant.count) in
    let long : c.len.result ≡ c.loop-rank.rank-index = omega (arith, c.loop-rank.invariant.marks.count, c.loop-rank.marks.ok.0, c.len.ensures) in
    record {
      walk = stands_on c.args.input.now c.args.schedule.now c.loop-rank.rank-index _ entry c.next.new.self (c.in-Some.ensures.walk _ c.loop-rank.invariant.walk);
      books = books_step c.args.input.now c.args.schedule.now c.loop-rank.rank-index _ entry c.in-Some.note noted (books_of c.loop-rank.books)
          c.loop-rank.invariant.books (books_of c.write.new.self) c.len.result long within c.in_ok-write.ensures;
      count = count_step c.args.input.now c.args.schedule.now c.loop-rank.rank-index _ entry c.in-Some.note noted (books_of c.loop-rank.books)
          c.loop-rank.invariant.books (books_of c.write.new.self) c.len.result c.in_ok-write.ensures ∙ c.loop-rank.invariant.count;
      marks = marks_step c.args.input.now c.args.schedule.now c.loop-rank.rank-index _ entry c.in-Some.note noted (books_of c.loop-rank.books)
          c.loop-rank.invariant.books c.args.delays c.loop-rank.marks.items c.deref.result.now c.push.new.self.items c.links-links.result c.next-mark.result
          c.requires.delays c.loop-rank.invariant.marks c.deref.ensures.value c.links-links.ensures c.next-mark.ensures c.in_ok-push.ensures.items;
    }

pub returns-clause-few : goal.returns-clause-few
returns-clause-few c =
    let few = legal_few c.args.input.now c.args.schedule.now c.ranks.ensures.in_range c.requires.legal in
    let count = c.loop-rank.invariant.marks.count in
    omega (arith, few, count)
