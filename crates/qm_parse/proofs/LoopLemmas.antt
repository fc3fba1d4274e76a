-- The turns of the loop that reads tokens
use Rattle.std.proofs.Common.{◌≡◌, ℕ, zero, suc, ◌+◌, ◌*◌, ◌-◌, ◌<◌, ◌≤◌, Bool, true, false, List, [], ◌∷◌, length, Option, Some, None, refl, sym, ap, ◌∙◌, subst, arith, length-append}
use Rattle.std.proofs.lemmas.List.Sums.{sum_by-append, sum_by-cons}
use Rattle.std.proofs.lemmas.List.{length-map}
use Rattle.qm_lex.specs.declared.tokens.Token.{Token}
use Rattle.qm_parse.specs.declared.goals.Goal.{Goal}
use Rattle.qm_parse.specs.declared.goals.Goal.TheVariants as goal
use Rattle.qm_parse.specs.declared.goals.Verdict.{Verdict}
use Rattle.qm_parse.specs.declared.goals.Verdict.TheVariants as verdict
use Rattle.qm_parse.specs.declared.looks.Look.{Look}
use Rattle.qm_parse.specs.declared.looks.Look.TheVariants as look
use Rattle.qm_parse.specs.declared.tree.Node.{Node}
use Rattle.qm_parse.specs.declared.tree.What.{What}
use Rattle.qm_parse.specs.declared.words.Mark.TheVariants as mark
use Rattle.qm_parse.specs.Signs.{Sign, sign_of, signs_of, version_of}
use Rattle.qm_parse.specs.Moves.{next_goals}
use Rattle.qm_parse.specs.Verdicts.{verdict_of, leaf_of}
use Rattle.qm_parse.specs.Weights.{weight_of, goals_weight, HasFewOperands}
use Rattle.qm_parse.specs.Reaching.{Place, start_place, with_stop, with_leaf, closed, written, depth_behind, moved, behind_goal, next_look, Reaches, AtStart, Taking, Staying}
use Rattle.qm_parse.proofs.WeightLemmas.{weight-stay, weight-take, take-token}

pub length-signs : (text : List ℕ) (tokens : List Token) → length (signs_of text tokens) ≡ length tokens
length-signs text tokens = length-map tokens (sign_of (version_of text tokens) text)

-- what is left to do at a place
abbrev pub left_of : List Sign → Place → ℕ
left_of signs p = 72 * (length signs - p.at) + goals_weight p.goals

pub record Going (signs : List Sign) (p : Place) : Type 0 where
  pub reaches : Reaches signs p
  pub within : p.at ≤ length signs
  pub deep : p.depth ≤ p.at
  pub room : length p.nodes + left_of signs p ≤ 75497500

pub Going-start : (signs : List Sign) (p : Place) → p ≡ start_place → length signs ≤ 1048576 → Going signs p
Going-start signs p e h = subst (λ (q : Place). Going signs q) (sym e) (record { reaches = AtStart; within = omega arith; deep = omega arith; room = omega arith })

-- what the verdict is where a token is taken, or not
abbrev pub Decides : Bool → Verdict → Type 0
Decides true v = v ≡ verdict.Take
Decides false v = v ≡ verdict.Stay

length-with_stop : (stop n : ℕ) (ns : List Node) → length (with_stop stop n ns) ≡ length ns
length-with_stop stop n [] = refl
length-with_stop stop zero (x ∷ xs) = refl
length-with_stop stop (suc n) (x ∷ xs) = ap (λ m. suc m) (length-with_stop stop n xs)

length-closed : (g : Goal) (ns : List Node) → length (closed g ns) ≡ length ns
length-closed (goal.Close node) ns = length-with_stop (length ns) node ns
length-closed g ns = refl

length-with_leaf : (o : Option (What × ℕ × ℕ)) (ns : List Node) → length (with_leaf o ns) ≤ length ns + 1
length-with_leaf None ns = omega arith
length-with_leaf (Some (w, token, value)) ns = omega (arith, length-append ns (record { what = w; token = token; value = value; stop = length ns + 1 } ∷ []))

length-written : (g : Goal) (l : Look) (at : ℕ) (ns : List Node) → length (written g l at ns) ≤ length ns + 1
length-written g l at ns = omega (arith, length-closed g (with_leaf (leaf_of g l at) ns), length-with_leaf (leaf_of g l at) ns)

depth-more : (l : Look) (n : ℕ) → depth_behind l n ≤ n + 1
depth-more (look.Mark mark.OpenBrace) n = omega arith
depth-more (look.Mark m) n = omega arith
depth-more l n = omega arith

-- one goal further
step : (signs : List Sign) (p : Place) (g : Goal) (rest : List Goal) (takes : Bool) → Going signs p → p.goals ≡ g ∷ rest → HasFewOperands (next_look signs p) → Decides takes (verdict_of g (next_look signs p) p.depth)
    → let q = moved g (next_look signs p) takes (behind_goal p rest) in Going signs q × (left_of signs q < left_of signs p)
step signs p g rest true h e few v =
    let l = next_look signs p in
    let q = moved g l true (behind_goal p rest) in
    let light : goals_weight (next_goals g l p.at (length p.nodes)) ≤ 71 = weight-take g l p.depth p.at (length p.nodes) few v in
    let both : goals_weight q.goals ≡ goals_weight (next_goals g l p.at (length p.nodes)) + goals_weight rest = sum_by-append weight_of (next_goals g l p.at (length p.nodes)) rest in
    let old : goals_weight p.goals ≡ weight_of g + goals_weight rest = ap goals_weight e ∙ sum_by-cons weight_of g rest in
    let more : length q.nodes ≤ length p.nodes + 1 = length-written g l p.at p.nodes in
    let token : p.at < length signs = take-token g p.depth p.at signs v in
    let deeper : q.depth ≤ p.depth + 1 = depth-more l p.depth in
    let less : left_of signs q < left_of signs p = omega (arith, light, both, old, token) in (
      record {
        reaches = Taking p g rest h.reaches e v;
        within = omega (arith, token);
        deep = omega (arith, deeper, h.deep);
        room = omega (arith, less, more, h.room);
      },
      less,
    )
step signs p g rest false h e few v =
    let l = next_look signs p in
    let q = moved g l false (behind_goal p rest) in
    let light : goals_weight (next_goals g l p.at (length p.nodes)) < weight_of g = weight-stay g l p.depth p.at (length p.nodes) v in
    let both : goals_weight q.goals ≡ goals_weight (next_goals g l p.at (length p.nodes)) + goals_weight rest = sum_by-append weight_of (next_goals g l p.at (length p.nodes)) rest in
    let old : goals_weight p.goals ≡ weight_of g + goals_weight rest = ap goals_weight e ∙ sum_by-cons weight_of g rest in
    let more : length q.nodes ≤ length p.nodes + 1 = length-written g l p.at p.nodes in
    let less : left_of signs q < left_of signs p = omega (arith, light, both, old) in (
      record {
        reaches = Staying p g rest h.reaches e v;
        within = h.within;
        deep = h.deep;
        room = omega (arith, less, more, h.room);
      },
      less,
    )

pub Going-step : (signs : List Sign) (p q : Place) (g : Goal) (rest : List Goal) (l : Look) (takes : Bool) → Going signs p → p.goals ≡ g ∷ rest → l ≡ next_look signs p → HasFewOperands l → Decides takes (verdict_of g l p.depth)
    → q ≡ moved g l takes (behind_goal p rest) → Going signs q × (left_of signs q < left_of signs p)
Going-step signs p q g rest l takes h e k few v m =
    let few' : HasFewOperands (next_look signs p) = subst (λ (x : Look). HasFewOperands x) k few in
    let v' : Decides takes (verdict_of g (next_look signs p) p.depth) = subst (λ (x : Look). Decides takes (verdict_of g x p.depth)) k v in
    let m' : q ≡ moved g (next_look signs p) takes (behind_goal p rest) = m ∙ ap (λ (x : Look). moved g x takes (behind_goal p rest)) k in
    subst (λ (r : Place). Going signs r × (left_of signs r < left_of signs p)) (sym m') (step signs p g rest takes h e few' v')
