use Rattle.std.proofs.Common.{◌∙◌, sym, ap, rules}
use Rattle.std.proofs.lemmas.Fn.{filter_same}
use Rattle.qm_denot.specs.Stores.{live_after}
use Rattle.qm_ideal.proofs.WireTests.{without_wire-filter}
use Rattle.qm_ideal.proofs.width.pass.Goals as goal

pub returns-in-Take : goal.returns-in-Take
returns-in-Take c =
    let kept = filter_same _ _ _ (λ x b f' k. search rules) _ _ c.retain.ensures.filtered in
    kept ∙ without_wire-filter c.args.live.now.items c.in-Take.w ∙ sym (ap (λ l. live_after l c.args.live.now.items) c.in-Take.is)
