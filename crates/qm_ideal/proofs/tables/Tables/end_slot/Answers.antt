use Rattle.std.proofs.Common.{◌∙◌, sym}
use Rattle.qm_ideal.proofs.NumberLemmas.{slot_at_end}
use Rattle.qm_ideal.proofs.tables.Tables.end_slot.Goals as goal

pub returns : goal.returns
returns c = c.slot.ensures ∙ sym (slot_at_end c.args.self.now.ranks.items c.args.rank c.args.q)
