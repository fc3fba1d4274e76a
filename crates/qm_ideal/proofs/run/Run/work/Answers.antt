use Rattle.std.proofs.Common.{◌∙◌, false, [], ◌∷◌, ◌++◌, length, Some, sym, ap, subst, append-nil, arith}
use Rattle.qm_ideal.specs.Drawings.{drawing, with_stop, OfOutcome, MayAsk}
use Rattle.qm_ideal.specs.UnderWay.{ExplainsAsked}
use Rattle.qm_ideal.specs.Views.{state_of}
use Rattle.qm_ideal.proofs.DrawnLemmas.{few_letters, may_measure, none_drawn}
use Rattle.qm_ideal.proofs.run.Run.work.Goals as goal

pub returns-in_default : goal.returns-in_default
returns-in_default g c =
    let p = c.args.input.now in
    let s = state_of c.args.self.now in
    let none = none_drawn c.args.rank c.args.instr c.in_default.not-Measure false s in
    record {
      ok = record {
        outcome = false;
        letters = c.step_of.ensures.letters;
        acts = c.step_of.ensures.acts;
        fed = λ xs f. subst (λ ys. g.F.Feed.feeds c.args.feed.now p (drawing s.circuit ys)) (sym (append-nil xs) ∙ ap (λ ys. xs ++ ys) (sym none)) f;
      };
      err = tt;
    }

pub give-requires : goal.give-requires
give-requires g c =
    let p = c.args.input.now in
    let s = state_of c.args.self.now in
    let way = c.requires.way in
    let next = c.requires.next in (
      p,
      drawing s.circuit way.outcomes,
      way.fed,
      next.lowest.known,
      subst (λ w. MayAsk (drawing s.circuit way.outcomes) (w ∷ [])) (sym c.wire_in.ensures)
          (may_measure p s c.args.rank next way.outcomes way.drawn c.in-Measure.q c.in-Measure.b (c.requires.instr ∙ ap Some c.in-Measure.is)),
    )

pub stopped-requires : goal.stopped-requires
stopped-requires g c =
    let few = few_letters c.args.input.now (state_of c.args.self.now) c.args.rank c.requires.next c.requires.way.outcomes c.requires.way.drawn in
    let e = ap length c.deref.ensures.value in
    omega (arith, few, e)

pub returns-in-Err-clause-err : goal.returns-in-Err-clause-err
returns-in-Err-clause-err g c =
    let p = c.args.input.now in
    let s = state_of c.args.self.now in
    let after = g.F.Feed.feeds c.give.new.self p in
    subst (ExplainsAsked (g.F.Feed.feeds c.args.feed.now p) after s c.args.rank c.args.instr) (sym c.stopped.ensures) (record {
      slot = c.in-Measure.q;
      bit = c.in-Measure.b;
      measures = c.in-Measure.is;
      taken = ap length c.deref.ensures.value;
      fed = λ xs f. subst (λ w. after (with_stop (drawing s.circuit xs) c.in-Err.why (OfOutcome c.args.rank w))) c.wire_in.ensures
          (c.in-Err.ensures.err p (drawing s.circuit xs) f);
    })
