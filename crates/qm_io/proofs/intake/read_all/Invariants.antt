use Rattle.std.proofs.Common.{◌≤◌, vec_len}
use Rattle.qm_io.specs.Ends.{Gave}
use Rattle.qm_limits.specs.declared.TheConstants.{MOST_BYTES}
use Rattle.qm_io.proofs.intake.read_all.Given as goal

abbrev pub invariant-loop : goal.invariant-loop
invariant-loop g l = record {
  grown : l.counter ≤ vec_len l.text;
  short : vec_len l.text ≤ MOST_BYTES;
  gave : Gave (g.I.Source.seen l.fn.source) (g.I.Source.seen l.source) l.text.items;
}
