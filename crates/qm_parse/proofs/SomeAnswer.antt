-- Tokens of a text that is short enough spell a source tree, or have a first fault
use Rattle.std.proofs.Common.{◌≡◌, ℕ, zero, suc, ◌+◌, ◌<◌, ◌≤◌, ◌⊎◌, inl, inr, true, false, List, [], ◌∷◌, length, drop, Option, Some, None, Ok, Err, refl, arith}
use Rattle.std.specs.Prelude.{slice_get, option_map}
use Rattle.qm_lex.specs.declared.tokens.Token.{Token}
use Rattle.qm_lex.specs.Spans.{SpansRise}
use Rattle.qm_lex.specs.Lexing.{tokens_of}
use Rattle.qm_lex.proofs.SpanLemmas.{tokens_of-LieIn}
use Rattle.qm_parse.specs.declared.errors.ParseError.{ParseError}
use Rattle.qm_parse.specs.declared.errors.ParseError.TheVariants as errors
use Rattle.qm_parse.specs.declared.goals.Goal.{Goal}
use Rattle.qm_parse.specs.declared.goals.Stop.{Stop}
use Rattle.qm_parse.specs.declared.goals.Stop.TheVariants as stop
use Rattle.qm_parse.specs.declared.goals.Verdict.{Verdict}
use Rattle.qm_parse.specs.declared.goals.Verdict.TheVariants as verdict
use Rattle.qm_parse.specs.declared.tree.Node.{Node}
use Rattle.qm_parse.specs.Signs.{Sign, signs_of}
use Rattle.qm_parse.specs.Verdicts.{verdict_of}
use Rattle.qm_parse.specs.Laws.{Refused}
use Rattle.qm_parse.specs.Trees.{Program}
use Rattle.qm_parse.specs.Faults.{Spells}
use Rattle.qm_parse.specs.Parsing.{Parses}
use Rattle.qm_parse.specs.Reaching.{Place, start_place, moved, behind_goal, next_look}
use Rattle.qm_parse.specs.Places.{stop_on, error_of, AtGoal, Behind, Ends, Comes}
use Rattle.qm_parse.proofs.LookLemmas.{few-look}
use Rattle.qm_parse.proofs.LoopLemmas.{Going, left_of, length-signs, Going-start, Going-step}
use Rattle.qm_parse.proofs.Law.{ends-parses, comes-parses}

-- ---- tokens
-- a text has no more tokens than bytes
tokens-few : (from end : ℕ) (ts : List Token) → SpansRise from end ts → from + length ts ≤ end
tokens-few from end [] r = omega (arith, r)
tokens-few from end (t ∷ ts) r = let rest = tokens-few t.stop end ts r.2 in omega (arith, r.0, r.1, rest)

-- ---- the grammar
-- the tokens spell a tree, or have a first fault
data Answered (text : List ℕ) (tokens : List Token) : Type 0 where
  Tree : (nodes : List Node) → Comes text tokens nodes → Answered text tokens
  Fault : (e : ParseError) → Ends text tokens e → Answered text tokens

within-or-past : (n m : ℕ) → (n < m) ⊎ (m ≤ n)
within-or-past n m = grind arith

module _ (text : List ℕ) (tokens : List Token) where
  abbrev signs : List Sign
  signs = signs_of text tokens

  ends : (p : Place) → Going signs p → p.goals ≡ [] → (p.at < length signs) ⊎ (length signs ≤ p.at) → Answered text tokens
  ends p h e (inl less) =
      Fault (error_of text tokens p.at stop.Unexpected) (record { place = p; reaches = h.reaches; stop = stop.Unexpected; halts = Behind e less; error = refl })
  ends p h e (inr past) =
      let same = length-signs text tokens in
      Tree p.nodes (record { place = p; reaches = h.reaches; done = e; whole = omega (arith, past, same); nodes_are = refl })

  -- a place is the last one, or the reading goes on to a place that leaves less to do
  goes-on : (p : Place) → Going signs p → ((q : Place) → Going signs q → left_of signs q < left_of signs p → Answered text tokens) → Answered text tokens
  goes-on p h next = by_goals p.goals refl
    where
      step : (g : Goal) (rest : List Goal) (v : Verdict) → p.goals ≡ g ∷ rest → verdict_of g (next_look signs p) p.depth ≡ v → Answered text tokens
      step g rest verdict.Take e is =
          let q = moved g (next_look signs p) true (behind_goal p rest) in
          let more = Going-step signs p q g rest (next_look signs p) true h e refl (few-look text tokens p.at) is refl in
          next q more.0 more.1
      step g rest verdict.Stay e is =
          let q = moved g (next_look signs p) false (behind_goal p rest) in
          let more = Going-step signs p q g rest (next_look signs p) false h e refl (few-look text tokens p.at) is refl in
          next q more.0 more.1
      step g rest (verdict.Stop s) e is =
          Fault (error_of text tokens p.at s) (record { place = p; reaches = h.reaches; stop = s; halts = AtGoal g rest s e is; error = refl })

      by_goals : (gs : List Goal) → p.goals ≡ gs → Answered text tokens
      by_goals [] e = ends p h e (within-or-past p.at (length signs))
      by_goals (g ∷ rest) e = step g rest (verdict_of g (next_look signs p) p.depth) e refl

  answered-from : (n : ℕ) (p : Place) → Going signs p → left_of signs p < n → Answered text tokens
  answered-from zero p h few = absurd (omega (arith, few))
  answered-from (suc n) p h few = goes-on p h (λ q more less. answered-from n q more (omega (arith, less, few)))

  answered : length signs ≤ 1048576 → Answered text tokens
  answered small = answered-from (suc (left_of signs start_place)) start_place (Going-start signs start_place refl small) (omega arith)

-- ---- the answer
never-memory : (text : List ℕ) (o : Option ℕ) (s : Stop) → errors.Memory ≡ stop_on text o s → ⊥
never-memory text None s e = cc
never-memory text (Some n) stop.Unexpected e = cc
never-memory text (Some n) stop.NumberTooLarge e = cc
never-memory text (Some n) stop.TooDeep e = cc

refused : (text : List ℕ) (tokens : List Token) (e : ParseError) → Ends text tokens e → Parses text tokens (Err e) → Refused text tokens e
refused text tokens (errors.Unexpected n) end h = h
refused text tokens (errors.NumberTooLarge n) end h = h
refused text tokens (errors.TooDeep n) end h = h
refused text tokens (errors.Unended n) end h = h
refused text tokens errors.Memory end h = never-memory text (option_map (λ t. t.line) (slice_get tokens end.place.at)) end.stop end.error

pub some-answer : (text : List ℕ) (tokens : List Token) → tokens_of text ≡ Ok tokens → length text ≤ 1048576
    → ((p : Program) × Spells (signs_of text tokens) p) ⊎ ((e : ParseError) × Refused text tokens e)
some-answer text tokens are small =
    let few = tokens-few 0 (length text) tokens (tokens_of-LieIn text tokens are) in
    let same = length-signs text tokens in
    by_answer (answered text tokens (omega (arith, few, same, small)))
  where
    by_answer : Answered text tokens → ((p : Program) × Spells (signs_of text tokens) p) ⊎ ((e : ParseError) × Refused text tokens e)
    by_answer (Tree nodes h) = let t = comes-parses text tokens nodes (length-signs text tokens) h in inl (t.program, t.spells)
    by_answer (Fault e h) = inr (e, refused text tokens e h (ends-parses text tokens e h))
