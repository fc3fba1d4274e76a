use Rattle.qm_lex.proofs.SpanLemmas.{SpansRise-at}
use Rattle.qm_parse.proofs.looks.version_of.Goals as goal

pub look_of_token-requires-clause-rising : goal.look_of_token-requires-clause-rising
look_of_token-requires-clause-rising c = (SpansRise-at 0 _ _ 1 _ c.requires c.in-Some.ensures).0

pub look_of_token-requires-clause-within : goal.look_of_token-requires-clause-within
look_of_token-requires-clause-within c = (SpansRise-at 0 _ _ 1 _ c.requires c.in-Some.ensures).1
