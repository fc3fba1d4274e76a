use Rattle.std.proofs.Common.{[], sym, ap₂, subst}
use Rattle.qm_proto.specs.Model.Ideal.{IdealState}
use Rattle.qm_confluence.proofs.Confluence.Drawn.{IsDrawn, is_drawn_start}
use Rattle.qm_ideal.specs.Drawings.{drawing}
use Rattle.qm_ideal.specs.Views.{state_of}
use Rattle.qm_ideal.proofs.DrawnLemmas.{step_falls}
use Rattle.qm_ideal.proofs.run.Run.of.Goals as goal

pub loop-rank-smaller : goal.loop-rank-smaller
loop-rank-smaller g c =
    let way = c.loop-rank.invariant.0 in
    step_falls c.args.input.now (state_of c.loop-rank.run) c.in-Some.rank
    (record { ready = c.requires.ready; in_range = c.requires.in_range; lowest = c.in-Some.ensures })
    way.outcomes way.drawn _ c.in_ok-step.ensures.did

pub loop-rank-init : goal.loop-rank-init
loop-rank-init g c = (
  record {
    outcomes = [];
    drawn = subst (λ z. IsDrawn c.args.input.now z [])
        (sym (ap₂ (λ t ls. let u : IdealState = record { tables = t; circuit = ls } in u) c.in_ok-start.ensures.start c.new.ensures.items))
        (is_drawn_start c.args.input.now);
    fed = subst (λ ls. g.F.Feed.feeds c.args.feed.now c.args.input.now (drawing ls [])) (sym c.new.ensures.items) c.requires.fed;
  },
  c.in_ok-start.ensures.ranks,
)
