use Rattle.std.proofs.Common.{arith}
use Rattle.std.proofs.lemmas.List.{take_rest}
use Rattle.qm_lex.proofs.LexLemmas.{Ahead-start, Ahead-gap, Ahead-part, Ahead-bad, line_after-le}
use Rattle.qm_lex.proofs.SpanLemmas.{SpansRise-later, SpansRise-more, one_more}
use Rattle.qm_lex.proofs.lexer.lex.Goals as goal

pub loop-at-init : goal.loop-at-init
loop-at-init c = record {
  within = omega arith;
  lines = omega arith;
  few = rw c.new-items.ensures.items (omega arith);
  rising = rw c.new-items.ensures.items (omega arith);
  ahead = rw c.new-items.ensures.items (Ahead-start c.args.text.now);
}

pub loop-at-preserved-in-Gap : goal.loop-at-preserved-in-Gap
loop-at-preserved-in-Gap c = record {
  within = grind arith;
  lines = omega (arith, c.line_after-line.ensures, c.in-Gap.ensures.bytes, line_after-le);
  few = omega (arith, c.in-Gap.ensures.bytes);
  rising = SpansRise-later _ _ _ _ c.loop-at.invariant.rising (omega arith);
  ahead = rw c.line_after-line.ensures (Ahead-gap _ _ _ _ _ c.loop-at.invariant.ahead c.loop-at-test.true c.in-Gap.ensures.bytes.0 (rw (take_rest c.args.text.now c.loop-at.at) at c.in-Gap.ensures.piece));
}

pub loop-at-preserved : goal.loop-at-preserved
loop-at-preserved c = record {
  within = grind arith;
  lines = omega (arith, c.in-Part.ensures.bytes);
  few = rw c.in_ok-push-in-Part.ensures.items (one_more _ _ _ _ c.loop-at.invariant.few c.in-Part.ensures.bytes.0);
  rising = rw c.in_ok-push-in-Part.ensures.items (SpansRise-more _ _ _ _ c.loop-at.invariant.rising (omega arith) (omega (arith, c.in-Part.ensures.bytes)));
  ahead = rw c.in_ok-push-in-Part.ensures.items (Ahead-part _ _ _ _ _ _ c.loop-at.invariant.ahead c.loop-at-test.true c.in-Part.ensures.bytes.0 (rw (take_rest c.args.text.now c.loop-at.at) at c.in-Part.ensures.piece));
}

pub returns-in-Bad : goal.returns-in-Bad
returns-in-Bad c = record {
  tokens = Ahead-bad _ _ _ _ c.loop-at.invariant.ahead c.loop-at-test.true (rw (take_rest c.args.text.now c.loop-at.at) at c.in-Bad.ensures.piece);
  spans = tt;
}

pub returns-clause-spans : goal.returns-clause-spans
returns-clause-spans c = SpansRise-later _ _ _ _ c.loop-at.invariant.rising (c.loop-at.invariant.within)
