use Rattle.qm_kernels.proofs.halving.had_halved.Goals as goal

pub on_blocks-requires-clause-may : goal.on_blocks-requires-clause-may
on_blocks-requires-clause-may g c = λ i h. (c.requires.fits i h, c.requires.divisible i h)
