use Rattle.std.proofs.Common.{◌∙◌, ap, sym, subst, ◌∷◌, reverse, rules}
use mir.Val.{SFits}
use mir.Syntax.{w64}
use Rattle.std.proofs.lemmas.Int.{to_z-of_z}
use Rattle.qm_expand.specs.Values.{computed}
use Rattle.qm_expand.specs.Walk.{Answers, on_two}
use Rattle.qm_expand.specs.Views.{words_of, scope_in, IsPushed}
use Rattle.qm_expand.proofs.StackLemmas.{IsPushed-from, reverse_push, pushed-op}
use Rattle.qm_expand.proofs.values.node_value.Goals as goal

pub returns-in-Some-pop-2 : goal.returns-in-Some-pop-2
returns-in-Some-pop-2 c =
    let n = c.args.node in
    let words = words_of c.args.context.now.source in
    let s = scope_in c.args.context.now c.args.names.now.items in
    let old = c.args.stack.now.items in
    let mid = c.pop.new.self.items in
    let new = c.pop-in-Some-pop.new.self.items in
    let right = c.in-Some-pop.right in
    let left = c.in-Some-pop-2.left in
    let two = pushed-op words c.args.line s n.token n.value (reverse old) n.what c.in_default.not-Num c.in_default.not-Name c.in_default.not-Rank c.in_default.not-Size
    ∙ ap (on_two c.args.line n.what) (reverse_push old mid right c.in-Some-pop.ensures.items ∙ ap (λ r. right ∷ r) (reverse_push mid new left c.in-Some-pop-2.ensures.items)) in
    let fits_left : SFits w64 left = search rules in
    let fits_right : SFits w64 right = search rules in
    let answered : Answers (λ z. z) c.compute.result (computed c.args.line n.what left right) = simp to_z-of_z at c.compute.ensures in
    subst (IsPushed (reverse new) c.compute.result) (sym two) (IsPushed-from (reverse new) c.compute.result (computed c.args.line n.what left right) answered)
