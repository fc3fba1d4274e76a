use Rattle.std.proofs.Common.{◌∙◌}
use Rattle.qm_parse.proofs.LookLemmas.{LieIn-at, looks-more}
use Rattle.qm_parse.proofs.looks.looks_of.Goals as goal

pub look_of_token-requires-clause-rising : goal.look_of_token-requires-clause-rising
look_of_token-requires-clause-rising c = (LieIn-at _ _ _ c.loop-token.token-index _ c.as_slice-token-items.ensures c.requires c.loop-token-test.true).0

pub look_of_token-requires-clause-within : goal.look_of_token-requires-clause-within
look_of_token-requires-clause-within c = (LieIn-at _ _ _ c.loop-token.token-index _ c.as_slice-token-items.ensures c.requires c.loop-token-test.true).1

pub loop-token-preserved : goal.loop-token-preserved
loop-token-preserved c = c.in_ok-push.ensures.items ∙ looks-more c.version_of-version.result c.args.text.now c.as_slice-token-items.result.now c.loop-token.token-index _ _ _ c.loop-token.invariant c.look_of_token.ensures c.loop-token-test.true
