use Rattle.std.proofs.Common.{◌-◌, ◌++◌}
use Rattle.qm_seed.specs.Seeds.{words_of}
use Rattle.qm_gen.specs.Sizes.{ranks_of}
use Rattle.qm_gen.specs.Made.{lines_text, drawn_lines, words_left, tapes_of, numbers}
use Rattle.qm_gen.proofs.DrawnLemmas.{DrawsTapes}
use Rattle.qm_gen.proofs.tapes.push_tapes.Given as goal

-- the lines so far with those of the ranks that are left are all
abbrev pub invariant-loop-rank : goal.invariant-loop-rank
invariant-loop-rank l =
    let all = tapes_of l.kind l.size l.own (numbers 0 (ranks_of l.kind l.size)) in
    DrawsTapes l.text.items (words_of l.words) (tapes_of l.kind l.size l.own (numbers l.rank (ranks_of l.kind l.size - l.rank)))
    (l.fn.text.items ++ lines_text (drawn_lines all (words_of l.fn.words))) (words_left all (words_of l.fn.words))
