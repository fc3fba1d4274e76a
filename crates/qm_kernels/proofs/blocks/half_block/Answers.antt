use Rattle.std.proofs.Common.{arith}
use Rattle.qm_kernels.proofs.PlaceFits.{place_small, whole_blocks, shifted_one, some_power}
use Rattle.qm_kernels.proofs.blocks.half_block.Goals as goal

pub overflow_shl-result : goal.overflow_shl-result
overflow_shl-result c = place_small c.args.size c.args.place c.requires (omega arith)

pub returns-clause-value : goal.returns-clause-value
returns-clause-value c = shifted_one c.args.place (place_small c.args.size c.args.place c.requires (omega arith))

pub returns-clause-some : goal.returns-clause-some
returns-clause-some c = some_power c.args.place _ (shifted_one c.args.place (place_small c.args.size c.args.place c.requires (omega arith)))

pub returns-clause-whole : goal.returns-clause-whole
returns-clause-whole c = whole_blocks c.args.size c.args.place _ c.requires (shifted_one c.args.place (place_small c.args.size c.args.place c.requires (omega arith)))
