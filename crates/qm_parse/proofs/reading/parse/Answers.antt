use Rattle.std.proofs.Common.{◌≡◌, ◌∙◌, refl, Bool, sym, ap, subst, arith}
use Rattle.qm_lex.specs.Lexing.{token_list}
use Rattle.qm_lex.proofs.SpanLemmas.{tokens_of-LieIn}
use Rattle.qm_parse.specs.declared.looks.Look.{Look}
use Rattle.qm_parse.specs.Signs.{signs_of, verb_of}
use Rattle.qm_parse.specs.Looks.{verb_seen}
use Rattle.qm_parse.specs.Places.{place_of, AtGoal, Behind}
use Rattle.qm_parse.specs.Verdicts.{verdict_of}
use Rattle.qm_parse.proofs.Law.{ends-parses, comes-parses}
use Rattle.qm_parse.proofs.LookLemmas.{next-look, few-next, verbs-seen}
use Rattle.qm_parse.proofs.LoopLemmas.{Decides, Going-start, Going-step, length-signs}
use Rattle.qm_parse.proofs.reading.parse.Goals.{in-Take, in-Stay}
use Rattle.qm_parse.proofs.reading.parse.Goals as goal

pub looks_of-requires : goal.looks_of-requires
looks_of-requires c = tokens_of-LieIn _ _ c.requires.tokens

pub loop-goal-init : goal.loop-goal-init
loop-goal-init c = Going-start _ _ c.in_ok-reading.ensures (omega (arith, length-signs c.args.text.now (token_list c.args.tokens.now), c.args.tokens.now.few))

pub loop-goal-preserved : goal.loop-goal-preserved
loop-goal-preserved c =
    let is = next-look (signs_of c.args.text.now (token_list c.args.tokens.now)) c.loop-goal.reading.at _ _ (c.as_slice.ensures.value ∙ c.in_ok-looks.ensures) c.look_at-look.ensures in
    let v : Decides c.match-verdict_of.takes (verdict_of c.in-Some.goal c.look_at-look.result c.loop-goal.reading.depth) =
    elim c.match-verdict_of.branch [
      | in-Take w ↦ subst (λ (b : Bool). Decides b (verdict_of c.in-Some.goal c.look_at-look.result c.loop-goal.reading.depth)) (sym w.takes-is) (sym c.verdict_of.ensures ∙ w.in-Take.is)
      | in-Stay w ↦ subst (λ (b : Bool). Decides b (verdict_of c.in-Some.goal c.look_at-look.result c.loop-goal.reading.depth)) (sym w.takes-is) (sym c.verdict_of.ensures ∙ w.in-Stay.is)
    ] in
    (Going-step _ _ _ _ _ _ _ c.loop-goal.invariant c.in-Some.ensures is (few-next c.args.text.now (token_list c.args.tokens.now) c.loop-goal.reading.at _ is) v c.in_ok-go_on.ensures).0

pub loop-goal-smaller : goal.loop-goal-smaller
loop-goal-smaller c =
    let is = next-look (signs_of c.args.text.now (token_list c.args.tokens.now)) c.loop-goal.reading.at _ _ (c.as_slice.ensures.value ∙ c.in_ok-looks.ensures) c.look_at-look.ensures in
    let v : Decides c.match-verdict_of.takes (verdict_of c.in-Some.goal c.look_at-look.result c.loop-goal.reading.depth) =
    elim c.match-verdict_of.branch [
      | in-Take w ↦ subst (λ (b : Bool). Decides b (verdict_of c.in-Some.goal c.look_at-look.result c.loop-goal.reading.depth)) (sym w.takes-is) (sym c.verdict_of.ensures ∙ w.in-Take.is)
      | in-Stay w ↦ subst (λ (b : Bool). Decides b (verdict_of c.in-Some.goal c.look_at-look.result c.loop-goal.reading.depth)) (sym w.takes-is) (sym c.verdict_of.ensures ∙ w.in-Stay.is)
    ] in
    (Going-step _ _ _ _ _ _ _ c.loop-goal.invariant c.in-Some.ensures is (few-next c.args.text.now (token_list c.args.tokens.now) c.loop-goal.reading.at _ is) v c.in_ok-go_on.ensures).1

pub returns-in-Stop-clause-tree : goal.returns-in-Stop-clause-tree
returns-in-Stop-clause-tree c =
    let is = next-look (signs_of c.args.text.now (token_list c.args.tokens.now)) c.loop-goal.reading.at _ _ (c.as_slice.ensures.value ∙ c.in_ok-looks.ensures) c.look_at-look.ensures in
    ends-parses _ _ _ (record {
      place = place_of c.loop-goal.reading;
      reaches = c.loop-goal.invariant.reaches;
      stop = c.in-Stop.stop;
      halts = AtGoal _ _ _ c.in-Some.ensures (ap (λ (x : Look). verdict_of c.in-Some.goal x c.loop-goal.reading.depth) (sym is) ∙ sym c.verdict_of.ensures ∙ c.in-Stop.is);
      error = c.error_at.ensures;
    })

pub returns-then-reading-len-clause-tree : goal.returns-then-reading-len-clause-tree
returns-then-reading-len-clause-tree c = ends-parses _ _ _ (record {
  place = place_of c.loop-goal.reading;
  reaches = c.loop-goal.invariant.reaches;
  stop = _;
  halts = Behind c.in_default.ensures (omega (arith, length-signs c.args.text.now (token_list c.args.tokens.now), c.len.ensures));
  error = c.error_at-then-reading-len.ensures;
})

pub returns-clause-tree : goal.returns-clause-tree
returns-clause-tree c = comes-parses _ _ _ (length-signs c.args.text.now (token_list c.args.tokens.now)) (record {
  place = place_of c.loop-goal.reading;
  reaches = c.loop-goal.invariant.reaches;
  done = c.in_default.ensures;
  whole = omega (arith, c.len.ensures);
  nodes_are = refl;
})

pub returns-clause-verbs : goal.returns-clause-verbs
returns-clause-verbs c = rw c.in_ok-looks.ensures (verbs-seen (signs_of c.args.text.now (token_list c.args.tokens.now)))
