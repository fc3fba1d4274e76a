use Rattle.std.proofs.Common.{◌∙◌, ap}
use Rattle.qm_instr.specs.Bits.{number_of_bits}
use Rattle.qm_ideal.proofs.NumberLemmas.{bits_read}
use Rattle.qm_ideal.proofs.tables.Tables.bits.Goals as goal

pub returns : goal.returns
returns c = c.number.ensures ∙ ap number_of_bits (bits_read c.args.self.now.ranks.items c.args.rank c.from.result _ c.from.ensures c.requires c.index.ensures)
