use Rattle.std.proofs.Common.{◌∙◌, arith, sym}
use Rattle.qm_lex.proofs.SpanLemmas.{SpansRise-at}
use Rattle.qm_expand.proofs.words.bytes.Goals as goal

pub part-requires-clause-rising : goal.part-requires-clause-rising
part-requires-clause-rising c = omega (arith, SpansRise-at _ _ _ _ _ c.requires (sym c.in-Some.is ∙ c.token.ensures))

pub part-requires-clause-within : goal.part-requires-clause-within
part-requires-clause-within c = (SpansRise-at _ _ _ _ _ c.requires (sym c.in-Some.is ∙ c.token.ensures)).1
