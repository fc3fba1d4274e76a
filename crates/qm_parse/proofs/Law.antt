-- Where the reading ends, a program is spelled, or the first token at which no program goes on decides
use Rattle.std.proofs.Common.{◌≡◌, ℕ, zero, suc, ◌≤◌, List, [], ◌∷◌, ◌++◌, length, map, take, drop, Option, Some, None, Err, refl, sym, ap, ◌∙◌, subst, append_assoc, arith}
use Rattle.std.specs.Prelude.{slice_get, option_map}
use Rattle.std.proofs.lemmas.List.{append-nil}
use Rattle.qm_lex.specs.declared.tokens.Token.{Token}
use Rattle.qm_parse.specs.declared.errors.ParseError.{ParseError}
use Rattle.qm_parse.specs.declared.goals.Goal.{Goal}
use Rattle.qm_parse.specs.declared.goals.Stop.{Stop}
use Rattle.qm_parse.specs.declared.goals.Stop.TheVariants as stop
use Rattle.qm_parse.specs.declared.goals.Verdict.TheVariants as verdict
use Rattle.qm_parse.specs.declared.looks.Look.{Look}
use Rattle.qm_parse.specs.declared.looks.Look.TheVariants as look
use Rattle.qm_parse.specs.declared.tree.Node.{Node}
use Rattle.qm_parse.specs.declared.words.Version.{Version}
use Rattle.qm_parse.specs.Signs.{Sign, Number, sign_of, signs_of, version_of}
use Rattle.qm_parse.specs.Trees.{Program, ProgramMay}
use Rattle.qm_parse.specs.Spelling.{program_signs}
use Rattle.qm_parse.specs.Faults.{open_after, IsShallow, Spells, CanGoOn, StopsAt, IsTooLarge, IsTooDeep, IsUnexpected, IsUnended}
use Rattle.qm_parse.specs.Looks.{capped, look_of, look_at}
use Rattle.qm_parse.specs.Verdicts.{verdict_of}
use Rattle.qm_parse.specs.Moves.{next_goals}
use Rattle.qm_parse.specs.Reaching.{Place, next_look}
use Rattle.qm_parse.specs.Parsing.{IsTree, StopsOn, Parses}
use Rattle.qm_parse.specs.Places.{Halts, AtGoal, Behind, Ends, Comes, stop_on}
use Rattle.qm_parse.proofs.Behind.{Spot}
use Rattle.qm_parse.proofs.BehindLemmas.{program-written}
use Rattle.qm_parse.proofs.Parts.{behind_all, Parts, PartsMay, before, Forth}
use Rattle.qm_parse.proofs.Turns.{back-take}
use Rattle.qm_parse.proofs.Stays.{no-stop}
use Rattle.qm_parse.proofs.Known.{GoalsOk, ok-take, Alike, Alike-same, Reads, Known, known, spot_of}
use Rattle.qm_parse.proofs.Stops.{some-parts, stop-large, stop-deep, zero-unexpected, zero-end, number-unexpected, open-after-le}

-- ---- tokens by number
record AtToken (signs : List Sign) (n : ℕ) (t : Sign) : Type 0 where
  rest : List Sign
  whole : signs ≡ take n signs ++ t ∷ rest
  next : drop n signs ≡ t ∷ rest
  count : length (take n signs) ≡ n

at-token : (v : Version) (text : List ℕ) (tokens : List Token) (n : ℕ) (token : Token) → slice_get tokens n ≡ Some token → AtToken (map (sign_of v text) tokens) n (sign_of v text token)
at-token v text [] n token e = cc
at-token v text (u ∷ us) zero token e = let h : u ≡ token = cc in
    let k = ap (λ (x : Token). sign_of v text x ∷ map (sign_of v text) us) h in record { rest = map (sign_of v text) us; whole = k; next = k; count = refl }
at-token v text (u ∷ us) (suc n) token e = let a = at-token v text us n token e in
    record { rest = a.rest; whole = ap (λ z. sign_of v text u ∷ z) a.whole; next = a.next; count = ap (λ m. suc m) a.count }

record AtNone (signs : List Sign) (n : ℕ) : Type 0 where
  whole : take n signs ≡ signs
  none : drop n signs ≡ []
  short : length signs ≤ n

at-none : (v : Version) (text : List ℕ) (tokens : List Token) (n : ℕ) → slice_get tokens n ≡ None → AtNone (map (sign_of v text) tokens) n
at-none v text [] zero e = record { whole = refl; none = refl; short = omega arith }
at-none v text [] (suc n) e = record { whole = refl; none = refl; short = omega arith }
at-none v text (u ∷ us) zero e = cc
at-none v text (u ∷ us) (suc n) e = let a = at-none v text us n e in
    let h = a.short in record { whole = ap (λ z. sign_of v text u ∷ z) a.whole; none = a.none; short = omega (arith, h) }

-- ---- programs that go on
can-go-on : (signs : List Sign) (p : Place) → Known signs p → CanGoOn (take p.at signs)
can-go-on signs p k =
    let q = some-parts p.goals k.ok in
    let r = k.back q.parts q.may in record { program = r.program; may = r.may; rest = before p.goals q.parts []; spelled = r.spelled }

can-take : (signs : List Sign) (p : Place) (g : Goal) (rest : List Goal) (t : Sign) → Known signs p → p.goals ≡ g ∷ rest → verdict_of g (look_of t) 0 ≡ verdict.Take → CanGoOn (take p.at signs ++ t ∷ [])
can-take signs p g rest t k e v =
    let ok : GoalsOk (g ∷ rest) = subst (λ (x : List Goal). GoalsOk x) e k.ok in
    let s = spot_of p in
    let back : (q : Parts (g ∷ rest)) → PartsMay (g ∷ rest) q → Reads (take p.at signs) (before (g ∷ rest) q []) (behind_all (g ∷ rest) q s) = subst (λ (x : List Goal). (q : Parts x) → PartsMay x q → Reads (take p.at signs) (before x q []) (behind_all x q s)) e k.back in
    let gs : List Goal = next_goals g (look_of t) s.at (length s.nodes) in
    let q = some-parts gs (ok-take g t s.at (length s.nodes) ok.0 v) in
    let o = some-parts rest ok.1 in
    let b = back-take g t s v q.parts q.may in
    let r = back (b.part, o.parts) (b.may, o.may) in record {
      program = r.program;
      may = r.may;
      rest = before gs q.parts (before rest o.parts []);
      spelled = r.spelled ∙ ap (λ z. take p.at signs ++ z) (b.spelled (before rest o.parts [])) ∙ sym (append_assoc (take p.at signs) (t ∷ []) (before gs q.parts (before rest o.parts [])));
    }

-- no program goes on with tokens that stop the goal
none-goes : (signs : List Sign) (p : Place) (g : Goal) (rest : List Goal) (s : Stop) (r : Program) (ys : List Sign) → Known signs p → p.goals ≡ g ∷ rest → ProgramMay r → Alike (look_at ys) (next_look signs p)
    → program_signs r ≡ take p.at signs ++ ys → verdict_of g (look_at ys) 0 ≡ verdict.Stop s → ⊥
none-goes signs p g rest s r ys k e m a w v =
    let ok : GoalsOk (g ∷ rest) = subst (λ (x : List Goal). GoalsOk x) e k.ok in
    let f : Forth (g ∷ rest) [] ys = subst (λ (x : List Goal). Forth x [] ys) e (k.forth r ys m a w) in
    no-stop g f.parts.0 (before rest f.parts.1 []) s ok.0 f.may.0 (ap (λ (z : List Sign). verdict_of g (look_at z) 0) f.spelled ∙ v)

-- behind the last goal
none-behind : (signs : List Sign) (p : Place) (r : Program) (t : Sign) (ts : List Sign) → Known signs p → p.goals ≡ [] → ProgramMay r → Alike (look_of t) (next_look signs p) → program_signs r ≡ take p.at signs ++ t ∷ ts → ⊥
none-behind signs p r t ts k e m a w = let f : Forth [] [] (t ∷ ts) = subst (λ (x : List Goal). Forth x [] (t ∷ ts)) e (k.forth r (t ∷ ts) m a w) in let h : [] ≡ t ∷ ts = f.spelled in cc

alike-to : (l k : Look) → l ≡ k → Alike l k
alike-to l k e = subst (λ (x : Look). Alike l x) e (Alike-same l)

-- ---- the reasons
stops-at : (signs : List Sign) (p : Place) (t : Sign) → Known signs p → AtToken signs p.at t → StopsAt signs (take p.at signs) t
stops-at signs p t k a = record { rest = a.rest; whole = a.whole; before = can-go-on signs p k; shallow = k.shallow }

unexpected : (signs : List Sign) (p : Place) (t : Sign) → Known signs p → AtToken signs p.at t → Halts signs p stop.Unexpected → IsUnexpected (take p.at signs) t
unexpected signs p t k a h = by_halt h
  where
    by_halt : Halts signs p stop.Unexpected → IsUnexpected (take p.at signs) t
    by_halt (Behind e l) = record {
      none = λ c. none-behind signs p c.program t c.rest k e c.may (alike-to (look_of t) (next_look signs p) (ap look_at (sym a.next))) (c.spelled ∙ append_assoc (take p.at signs) (t ∷ []) c.rest);
      other = λ b. let c = b.may in
          none-behind signs p c.program (Number b.small) c.rest k e c.may (subst (λ (x : Look). Alike (look_of (Number b.small)) x) (ap look_of (sym b.number) ∙ ap look_at (sym a.next)) tt) (c.spelled ∙ append_assoc (take p.at signs) (Number b.small ∷ []) c.rest);
    }
    by_halt (AtGoal g rest s e v) =
        let same : look_of t ≡ next_look signs p = ap look_at (sym a.next) in
        let here : verdict_of g (look_of t) 0 ≡ verdict.Stop stop.Unexpected = ap (λ (x : Look). verdict_of g x 0) same ∙ zero-unexpected g (next_look signs p) p.depth v in record {
          none = λ c. none-goes signs p g rest stop.Unexpected c.program (t ∷ c.rest) k e c.may (alike-to (look_of t) (next_look signs p) same) (c.spelled ∙ append_assoc (take p.at signs) (t ∷ []) c.rest) here;
          other = λ b. let c = b.may in
              let large : verdict_of g (look.Number (capped b.value)) 0 ≡ verdict.Stop stop.Unexpected = ap (λ (x : Sign). verdict_of g (look_of x) 0) (sym b.number) ∙ here in
              none-goes signs p g rest stop.Unexpected c.program (Number b.small ∷ c.rest) k e c.may (subst (λ (x : Look). Alike (look_of (Number b.small)) x) (ap look_of (sym b.number) ∙ same) tt)
              (c.spelled ∙ append_assoc (take p.at signs) (Number b.small ∷ []) c.rest) (number-unexpected g b.value (capped b.small) b.large large);
        }

too-large : (signs : List Sign) (p : Place) (t : Sign) → Known signs p → AtToken signs p.at t → Halts signs p stop.NumberTooLarge → IsTooLarge (take p.at signs) t
too-large signs p t k a (AtGoal g rest s e v) =
    let ok : GoalsOk (g ∷ rest) = subst (λ (x : List Goal). GoalsOk x) e k.ok in
    let same : look_of t ≡ next_look signs p = ap look_at (sym a.next) in
    let l = stop-large g t p.depth ok.0 (ap (λ (x : Look). verdict_of g x p.depth) same ∙ v) in
    record { value = l.value; number = l.number; large = l.large; small = l.small; may = can-take signs p g rest (Number l.small) k e l.taken }

too-deep : (signs : List Sign) (p : Place) (t : Sign) → Known signs p → AtToken signs p.at t → Halts signs p stop.TooDeep → IsTooDeep (take p.at signs) t
too-deep signs p t k a (AtGoal g rest s e v) =
    let same : look_of t ≡ next_look signs p = ap look_at (sym a.next) in
    let d = stop-deep g t p.depth (ap (λ (x : Look). verdict_of g x p.depth) same ∙ v) in
    let none : 0 ≤ 32 = omega arith in
    let most : open_after 0 (take p.at signs) ≤ 32 = open-after-le 0 (take p.at signs) none k.shallow in
    let deep : 32 ≤ p.depth = d.deep in
    let is : p.depth ≡ open_after 0 (take p.at signs) = k.depth_is in
    record { opens = d.opens; deep = omega arith; may = can-take signs p g rest t k e d.taken }

none-short : (signs : List Sign) (p : Place) (s : Stop) → Known signs p → AtNone signs p.at → Halts signs p s → (r : Program) → Spells signs r → ⊥
none-short signs p s k a (Behind e l) r sp = let n = a.short in absurd (omega (arith, l, n))
none-short signs p s k a (AtGoal g rest s0 e v) r sp =
    let ended : look.End ≡ next_look signs p = ap look_at (sym a.none) in
    none-goes signs p g rest s0 r [] k e sp.may (alike-to look.End (next_look signs p) ended) (sp.spelled ∙ sym a.whole ∙ sym (append-nil (take p.at signs)))
    (zero-end g p.depth s0 (ap (λ (x : Look). verdict_of g x p.depth) ended ∙ v))

unended : (signs : List Sign) (p : Place) (s : Stop) → Known signs p → AtNone signs p.at → Halts signs p s → IsUnended signs
unended signs p s k a h = record {
  before = subst (λ (x : List Sign). CanGoOn x) a.whole (can-go-on signs p k);
  shallow = subst (λ (x : List Sign). IsShallow 0 x) a.whole k.shallow;
  short = λ r sp. none-short signs p s k a h r sp;
}

-- ---- what parsing answers
on-line : (reason : List Sign → Sign → Type 0) (text : List ℕ) (tokens : List Token) (p : Place) (token : Token) (t : Sign) → Known (signs_of text tokens) p → slice_get tokens p.at ≡ Some token → AtToken (signs_of text tokens) p.at t
    → reason (take p.at (signs_of text tokens)) t → StopsOn reason text tokens token.line
on-line reason text tokens p token t k e a why = record {
  front = take p.at (signs_of text tokens);
  stop = t;
  stops = stops-at (signs_of text tokens) p t k a;
  why = why;
  token = token;
  there = ap (λ n. slice_get tokens n) a.count ∙ e;
  on = refl;
}

fault : (text : List ℕ) (tokens : List Token) (p : Place) (s : Stop) (o : Option Token) → Known (signs_of text tokens) p → Halts (signs_of text tokens) p s → slice_get tokens p.at ≡ o
    → Parses text tokens (Err (stop_on text (option_map (λ t. t.line) o) s))
fault text tokens p s None k h e = (unended (signs_of text tokens) p s k (at-none (version_of text tokens) text tokens p.at e) h, refl)
fault text tokens p stop.Unexpected (Some token) k h e = let a = at-token (version_of text tokens) text tokens p.at token e in on-line IsUnexpected text tokens p token _ k e a (unexpected (signs_of text tokens) p _ k a h)
fault text tokens p stop.NumberTooLarge (Some token) k h e = let a = at-token (version_of text tokens) text tokens p.at token e in on-line IsTooLarge text tokens p token _ k e a (too-large (signs_of text tokens) p _ k a h)
fault text tokens p stop.TooDeep (Some token) k h e = let a = at-token (version_of text tokens) text tokens p.at token e in on-line IsTooDeep text tokens p token _ k e a (too-deep (signs_of text tokens) p _ k a h)

pub ends-parses : (text : List ℕ) (tokens : List Token) (e : ParseError) → Ends text tokens e → Parses text tokens (Err e)
ends-parses text tokens e h =
    subst (λ (x : ParseError). Parses text tokens (Err x)) (sym h.error) (fault text tokens h.place h.stop (slice_get tokens h.place.at) (known (signs_of text tokens) h.place h.reaches) h.halts refl)

whole-take : (xs : List Sign) (n : ℕ) → length xs ≤ n → take n xs ≡ xs
whole-take [] zero h = refl
whole-take [] (suc n) h = refl
whole-take (x ∷ xs) zero h = absurd (omega arith)
whole-take (x ∷ xs) (suc n) h = ap (λ z. x ∷ z) (whole-take xs n (omega arith))

pub comes-parses : (text : List ℕ) (tokens : List Token) (nodes : List Node) → length (signs_of text tokens) ≡ length tokens → Comes text tokens nodes → IsTree (signs_of text tokens) nodes
comes-parses text tokens nodes l h =
    let signs : List Sign = signs_of text tokens in
    let k = known signs h.place h.reaches in
    let w = h.whole in
    let all : take h.place.at signs ≡ signs = whole-take signs h.place.at (omega (arith, l, w)) in
    let s = spot_of h.place in
    let back : (q : Parts []) → PartsMay [] q → Reads (take h.place.at signs) (before [] q []) (behind_all [] q s) =
    subst (λ (x : List Goal). (q : Parts x) → PartsMay x q → Reads (take h.place.at signs) (before x q []) (behind_all x q s)) h.done k.back in
    let r = back tt tt in record {
      program = r.program;
      spells = record { spelled = r.spelled ∙ append-nil (take h.place.at signs) ∙ all; may = r.may; shallow = subst (λ (x : List Sign). IsShallow 0 x) all k.shallow };
      nodes_are = h.nodes_are ∙ ap (λ (t : Spot). t.nodes) (sym r.written) ∙ program-written r.program;
    }
