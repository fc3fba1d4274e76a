use Rattle.std.proofs.Common.{ap, ◌∙◌, Option, unwrap_or}
use Rattle.qm_check.specs.declared.messages.Tally.{Tally}
use Rattle.qm_check.specs.Tallies.{tally}
use Rattle.qm_check.proofs.TallyLemmas.{tally_in-noted}
use Rattle.qm_check.proofs.messages.note_message.Goals as goal

pub returns : goal.returns
returns c =
    λ a. tally_in-noted c.args.tallies.now c.insert.new.self c.args.on c.in-Some.lane a c.args.more c.unwrap_or-had.result c.in-Some.is (c.unwrap_or-had.ensures ∙ ap (λ (o : Option Tally). unwrap_or o (tally 0 0)) (c.copied.ensures ∙ c.get.ensures.value)) (c.in_ok-insert.ensures.updates.0 a)
