use Rattle.std.proofs.Common.{refl, sym, subst}
use Rattle.qm_proto.specs.Model.Orders.{from_the_lowest}
use Rattle.qm_seed.specs.Seeds.{seed_words}
use Rattle.qm_tool.specs.declared.command.Order.{Order}
use Rattle.qm_tool.specs.declared.command.Order.TheVariants.{Lowest, Seeded}
use Rattle.qm_tool.specs.Dues.{HasPlayed}
use Rattle.qm_tool.proofs.DueLemmas.{has_played}
use Rattle.qm_tool.proofs.running.play_as.Goals as goal

pub returns-in-Lowest-clause-played : goal.returns-in-Lowest-clause-played
returns-in-Lowest-clause-played g c =
    subst (λ (o : Order). HasPlayed o c.play_order.new.machine) (sym c.in-Lowest.is)
    (has_played g.A.Amps.store _ _ Lowest from_the_lowest refl c.play_order.ensures c.requires.running c.requires.start)

pub returns-in-Seeded-clause-played : goal.returns-in-Seeded-clause-played
returns-in-Seeded-clause-played g c =
    subst (λ (o : Order). HasPlayed o c.play_seed.new.machine) (sym c.in-Seeded.is)
    (has_played g.A.Amps.store _ _ (Seeded c.in-Seeded.seed) (seed_words c.in-Seeded.seed) refl c.play_seed.ensures c.requires.running c.requires.start)
