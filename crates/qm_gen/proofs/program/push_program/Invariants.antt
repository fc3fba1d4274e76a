use Rattle.std.proofs.Common.{◌≡◌, ◌-◌, ◌++◌}
use Rattle.std.specs.Prelude.{flat_map}
use Rattle.qm_gen.specs.Sizes.{ranks_of}
use Rattle.qm_gen.specs.Made.{lines_text, program_lines, rank_lines, numbers}
use Rattle.qm_gen.proofs.program.push_program.Given as goal

-- the lines so far with those of the ranks that are left are all
abbrev pub invariant-loop-rank : goal.invariant-loop-rank
invariant-loop-rank l =
    l.text.items ++ lines_text (flat_map (rank_lines l.kind l.size) (numbers l.rank (ranks_of l.kind l.size - l.rank)))
    ≡ l.fn.text.items ++ lines_text (program_lines l.kind l.size)
