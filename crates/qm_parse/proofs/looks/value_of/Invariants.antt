use Rattle.std.proofs.Common.{◌≡◌, ◌≤◌, drop}
use Rattle.std.specs.Prelude.{fold}
use Rattle.qm_parse.specs.Words.{value_of}
use Rattle.qm_parse.specs.Looks.{capped}
use Rattle.qm_parse.proofs.WordLemmas.{with_digit}
use Rattle.qm_parse.proofs.looks.value_of.Given as goal

abbrev pub invariant-loop-digit : goal.invariant-loop-digit
invariant-loop-digit l = record {
  small : l.value ≤ 2147483648;
  left : capped (value_of l.digits) ≡ capped (fold with_digit l.value (drop l.digit-index l.digits));
}
