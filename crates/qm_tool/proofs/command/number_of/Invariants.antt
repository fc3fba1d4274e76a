use Rattle.std.proofs.Common.{◌≡◌, ◌≤◌, drop}
use Rattle.qm_tool.specs.Commands.{digits_after, if_at_most, number_of}
use Rattle.qm_tool.proofs.command.number_of.Given as goal

abbrev pub invariant-loop-byte : goal.invariant-loop-byte
invariant-loop-byte l = record {
  small : l.number ≤ l.largest;
  left : number_of l.most l.largest l.word ≡ if_at_most l.largest (digits_after l.number (drop l.byte-index l.word));
}
