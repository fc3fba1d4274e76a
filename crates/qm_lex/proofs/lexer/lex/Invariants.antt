use Rattle.std.proofs.Common.{◌+◌, ◌-◌, ◌≤◌, length}
use Rattle.qm_lex.specs.Spans.{SpansRise}
use Rattle.qm_lex.proofs.LexLemmas.{Ahead}
use Rattle.qm_lex.proofs.lexer.lex.Given as goal

abbrev pub invariant-loop-at : goal.invariant-loop-at
invariant-loop-at l = record {
  within : l.at ≤ length l.text;
  lines : l.line ≤ l.at + 1;
  few : length l.items.items ≤ l.at;
  rising : SpansRise 0 l.at l.items.items;
  ahead : Ahead l.text l.items.items l.at l.line;
}

abbrev pub decreases-loop-at : goal.decreases-loop-at
decreases-loop-at l = length l.text - l.at
