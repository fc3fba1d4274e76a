use Rattle.std.proofs.Common.{◌∙◌, ◌++◌, map, sym, ap, subst, arith}
use Rattle.qm_proto.specs.Model.Acts.{list_of}
use Rattle.qm_proto.specs.Model.Ideal.{IdealTables, ideal_past_instr}
use Rattle.qm_confluence.specs.Letters.{AreGoodAfter}
use Rattle.qm_confluence.proofs.Confluence.Drawn.{IsDrawn, drawn_by}
use Rattle.qm_ideal.specs.Meanings.{act_meant, AllSmall}
use Rattle.qm_ideal.specs.Views.{tables_of, state_of}
use Rattle.qm_ideal.proofs.ActLemmas.{at_all_done}
use Rattle.qm_ideal.proofs.DrawnLemmas.{few_letters, few_made, few_at, small_told, good_more, drawn_more, told_so, explains_asked, explains_writing}
use Rattle.qm_ideal.proofs.WritingLemmas.{passed_on}
use Rattle.qm_ideal.proofs.run.Run.step.Goals as goal

pub returns-in_err-work-clause-err : goal.returns-in_err-work-clause-err
returns-in_err-work-clause-err g c =
    let way = c.requires.way in
    passed_on _ _ _ c.from_residual.ensures.1
    (explains_asked c.args.input.now (state_of c.args.self.now) c.args.rank c.requires.next way.outcomes way.drawn _ _ c.in-Some.instr
    (sym c.current.ensures ∙ c.in-Some.is) _ way.fed c.in_err-work.ensures.err)

pub write-requires-clause-good : goal.write-requires-clause-good
write-requires-clause-good g c =
    let way = c.requires.way in
    let s = state_of c.args.self.now in
    let work = c.in_ok-work.ensures.ok in
    subst (AreGoodAfter s.circuit) (sym work.letters)
    (good_more c.args.input.now s c.args.rank c.requires.next way.outcomes way.drawn c.in-Some.instr (sym c.current.ensures ∙ c.in-Some.is) work.outcome)

pub write-requires-clause-few : goal.write-requires-clause-few
write-requires-clause-few g c =
    let few = few_letters c.args.input.now (state_of c.args.self.now) c.args.rank c.requires.next c.requires.way.outcomes c.requires.way.drawn in
    omega (arith, few)

pub returns-in_err-write-clause-err : goal.returns-in_err-write-clause-err
returns-in_err-write-clause-err g c =
    let way = c.requires.way in
    let work = c.in_ok-work.ensures.ok in
    passed_on _ _ _ c.from_residual-in_err-write.ensures.1
    (explains_writing c.args.input.now (state_of c.args.self.now) c.args.rank c.requires.next way.outcomes way.drawn _ _ c.in-Some.instr
    (sym c.current.ensures ∙ c.in-Some.is) work.outcome _ work.letters _ (work.fed way.outcomes way.fed) (c.in_err-write.ensures.err c.args.input.now))

pub do_acts-requires-clause-few : goal.do_acts-requires-clause-few
do_acts-requires-clause-few g c =
    few_made c.args.input.now (state_of c.args.self.now) c.args.rank c.requires.next c.requires.way.outcomes c.requires.way.drawn

pub do_acts-requires-clause-small : goal.do_acts-requires-clause-small
do_acts-requires-clause-small g c =
    let way = c.requires.way in
    let work = c.in_ok-work.ensures.ok in
    subst AllSmall (sym work.acts)
    (small_told c.args.input.now (state_of c.args.self.now) c.args.rank c.requires.next way.outcomes way.drawn c.in-Some.instr
    (sym c.current.ensures ∙ c.in-Some.is) work.outcome)

pub move_on-requires-clause-few : goal.move_on-requires-clause-few
move_on-requires-clause-few g c =
    let few = few_at c.args.input.now (state_of c.args.self.now) c.args.rank c.requires.next c.requires.way.outcomes c.requires.way.drawn in
    let e = ap (λ (t : IdealTables). (t.parts c.args.rank).at) c.in_ok-do_acts.ensures.did in
    let h = at_all_done c.args.rank (map act_meant (list_of c.in_ok-work.work.acts)) (tables_of c.args.self.now.tables) in
    omega (arith, e, h, few)

pub returns-in_ok-do_acts-clause-way : goal.returns-in_ok-do_acts-clause-way
returns-in_ok-do_acts-clause-way g c =
    let p = c.args.input.now in
    let s = state_of c.args.self.now in
    let r = c.args.rank in
    let i = c.in-Some.instr in
    let way = c.requires.way in
    let read = sym c.current.ensures ∙ c.in-Some.is in
    let work = c.in_ok-work.ensures.ok in
    let outcomes = way.outcomes ++ drawn_by r i work.outcome s in
    record {
      outcomes = outcomes;
      drawn = subst (λ z. IsDrawn p z outcomes)
          (sym (told_so p s r c.requires.next way.outcomes way.drawn i read work.outcome _ _ _ _
          (c.move_on.ensures.did ∙ ap (λ t. ideal_past_instr t r) c.in_ok-do_acts.ensures.did) work.acts c.in_ok-write.ensures.written work.letters))
          (drawn_more p s r c.requires.next way.outcomes way.drawn i read work.outcome);
      fed = c.in_ok-write.ensures.fed p outcomes (work.fed way.outcomes way.fed);
    }
