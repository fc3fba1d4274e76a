use Rattle.qm_seed.specs.Seeds.{seed_words}
use Rattle.qm_gen.proofs.MadeReads.{made-ready}
use Rattle.qm_gen.proofs.laws.made_law.Goals as goal

pub returns : goal.returns
returns c kind size number h = made-ready kind size (seed_words number) h
