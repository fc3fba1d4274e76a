use Rattle.std.proofs.Common.{◌∙◌, rules}
use Rattle.std.proofs.lemmas.Fn.{filter_same}
use Rattle.qm_owner.proofs.Searching.{without-filter}
use Rattle.qm_owner.proofs.remove.Goals as goal

pub returns-clause-rest : goal.returns-clause-rest
returns-clause-rest c =
    filter_same _ _ _ (λ x b f' k. search rules) _ _ c.retain.ensures.filtered
    ∙ without-filter c.args.placed.now.items c.args.w
