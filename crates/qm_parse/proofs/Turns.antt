-- Each turn of the reading: a token that a goal takes, or a goal that takes none
use Rattle.std.proofs.Common.{◌≡◌, ℕ, ◌<◌, ◌≤◌, Bool, true, false, ◌&&◌, ◌||◌, nat_le, nat_lt, List, [], ◌∷◌, ◌++◌, length, Some, None, refl, sym, ap, ◌∙◌, subst, arith, if◌then◌else◌}
use Rattle.std.specs.Prelude.{count_by, is_some, map, ◌==◌}
use Rattle.std.specs.List.{list_all}
use Rattle.std.proofs.lemmas.Bool.Decides.{nat_tests}
use Rattle.qm_parse.specs.declared.goals.Fixed.{Fixed}
use Rattle.qm_parse.specs.declared.goals.Fixed.TheVariants as fixed
use Rattle.qm_parse.specs.declared.goals.Goal.{Goal}
use Rattle.qm_parse.specs.declared.goals.Goal.TheVariants as goal
use Rattle.qm_parse.specs.declared.goals.Stop.TheVariants as stop
use Rattle.qm_parse.specs.declared.goals.Verdict.TheVariants as verdict
use Rattle.qm_parse.specs.declared.looks.Look.TheVariants as look
use Rattle.qm_parse.specs.declared.tree.What.TheVariants as what
use Rattle.qm_parse.specs.declared.words.Keyword.TheVariants as keyword
use Rattle.qm_parse.specs.declared.words.Mark.TheVariants as mark
use Rattle.qm_parse.specs.declared.words.Verb.{Verb}
use Rattle.qm_parse.specs.declared.words.Version.{Version}
use Rattle.qm_parse.specs.Words.{bits_word, takes_gate, version_number}
use Rattle.qm_parse.specs.Signs.{Sign, Number, Key, Act, Ident, Symbol}
use Rattle.qm_parse.specs.Looks.{capped, is_outcome, is_bits, look_of, version_seen}
use Rattle.qm_parse.specs.Trees.{Times, Over, Rest, Plus, Minus, Num, Name, Rank, Size}
use Rattle.qm_parse.specs.Verdicts.{is_fixed, verdict_if, stay_unless, number_verdict, is_rank, is_all, is_tape, is_statement, verdict_of}
use Rattle.qm_parse.specs.Moves.{version_goals, each_goals, next_goals}
use Rattle.qm_parse.specs.Reaching.{with_leaf}
use Rattle.qm_parse.proofs.WordLemmas.{and-left, and-right, capped-small, capped-large}
use Rattle.qm_parse.proofs.Behind.{Spot, spot, met, taken, noted}
use Rattle.qm_parse.proofs.Parts.{Part, Parts, PartMay, PartsMay, part_signs, fixed_sign, behind, Back}
use Rattle.qm_parse.proofs.ExprSteps.{back-mul, back-add, back-paren}
use Rattle.qm_parse.proofs.BodySteps.{back-do, back-under, back-gate, back-for, back-braced}
use Rattle.qm_parse.proofs.FrameSteps.{rank_goals, back-version, back-ranks, back-all, back-each, back-tape}

-- ---- what a verdict says of the token
pub verdict_if-take : (b : Bool) → verdict_if b ≡ verdict.Take → b ≡ true
verdict_if-take true e = refl
verdict_if-take false e = cc

pub fixed-is : (f : Fixed) (t : Sign) → is_fixed f (look_of t) ≡ true → fixed_sign f ≡ t
fixed-is fixed.Qmpi (Key keyword.Qmpi) e = refl
fixed-is fixed.Ranks (Key keyword.Ranks) e = refl
fixed-is fixed.Qubits (Key keyword.Qubits) e = refl
fixed-is fixed.Buffer (Key keyword.Buffer) e = refl
fixed-is fixed.End (Key keyword.End) e = refl
fixed-is fixed.In (Key keyword.In) e = refl
fixed-is fixed.Dots (Symbol mark.Dots) e = refl
fixed-is fixed.CloseBrace (Symbol mark.CloseBrace) e = refl
fixed-is fixed.CloseParenthesis (Symbol mark.CloseParenthesis) e = refl
fixed-is f t e = cc

-- a number within a range
pub record InRange (least end v : ℕ) : Type 0 where
  pub low : least ≤ v
  pub high : v < end
  pub small : v ≤ 2147483647
  pub same : capped v ≡ v

range-take : (b c : Bool) → (if b then verdict.Stop stop.NumberTooLarge else verdict_if c) ≡ verdict.Take → c ≡ true
range-take true c e = cc
range-take false c e = verdict_if-take c e

pub number-in : (least end v : ℕ) → number_verdict (look.Number (capped v)) least end ≡ verdict.Take → InRange least end v
number-in least end v e = by_size (nat_le v 2147483647) refl
  where
    by_size : (b : Bool) → nat_le v 2147483647 ≡ b → InRange least end v
    by_size true k =
        let small : v ≤ 2147483647 = grind (arith, nat_tests) in
        let same = capped-small v small in
        let both : nat_le least v && nat_lt v end ≡ true = range-take (nat_lt 2147483647 v) (nat_le least v && nat_lt v end) (subst (λ (n : ℕ). number_verdict (look.Number n) least end ≡ verdict.Take) same e) in
        record {
          low = (let h : nat_le least v ≡ true = and-left (nat_le least v) (nat_lt v end) both in grind (arith, nat_tests));
          high = (let h : nat_lt v end ≡ true = and-right (nat_le least v) (nat_lt v end) both in grind (arith, nat_tests));
          small = small;
          same = same;
        }
    by_size false k =
        let large : 2147483647 < v = grind (arith, nat_tests) in
        let f : verdict.Stop stop.NumberTooLarge ≡ verdict.Take = subst (λ (n : ℕ). number_verdict (look.Number n) least end ≡ verdict.Take) (capped-large v large) e in
        absurd (cc f)

-- a number of a range is taken
pub number-may : (least end v : ℕ) → least ≤ v → v < end → end ≤ 2147483648 → number_verdict (look.Number (capped v)) least end ≡ verdict.Take
number-may least end v low high few =
    let small : v ≤ 2147483647 = omega arith in
    let a : nat_lt 2147483647 v ≡ false = grind (arith, nat_tests) in
    let b : nat_le least v ≡ true = grind (arith, nat_tests) in
    let c : nat_lt v end ≡ true = grind (arith, nat_tests) in
    rw (capped-small v small) (rw (a, b, c) refl)

-- ---- the words of outcomes
or-cases : {A : Type 0} (b c : Bool) → b || c ≡ true → (b ≡ true → A) → (c ≡ true → A) → A
or-cases true c e f g = f refl
or-cases false c e f g = g e

outcome-of : (d : ℕ) → is_outcome d ≡ true → (m : Bool) × ((if m then 49 else 48) ≡ d)
outcome-of d e = or-cases (d == 48) (d == 49) e (λ k. (false, grind (arith, nat_tests))) (λ k. (true, grind (arith, nat_tests)))

digits-of : (bs : List ℕ) → list_all is_outcome bs ≡ true → (ms : List Bool) × (map (λ m. if m then 49 else 48) ms ≡ bs)
digits-of [] e = ([], refl)
digits-of (d ∷ bs) e =
    let m = outcome-of d (and-left _ _ e) in
    let ms = digits-of bs (and-right _ _ e) in
    (m.0 ∷ ms.0, ap (λ (x : ℕ). x ∷ map (λ m. if m then 49 else 48) ms.0) m.1 ∙ ap (λ z. d ∷ z) ms.1)

pub bits-of : (bytes : List ℕ) → is_bits bytes ≡ true → (ms : List Bool) × (bits_word ms ≡ bytes)
bits-of [] e = cc
bits-of (b ∷ bs) e =
    let h : b == 98 ≡ true = and-left _ _ e in
    let k : 98 ≡ b = grind (arith, nat_tests) in
    let ms = digits-of bs (and-right _ _ e) in
    (ms.0, ap (λ z. 98 ∷ z) ms.1 ∙ ap (λ (x : ℕ). x ∷ bs) k)

digits-are : (ms : List Bool) → list_all is_outcome (map (λ m. if m then 49 else 48) ms) ≡ true
digits-are [] = refl
digits-are (true ∷ ms) = digits-are ms
digits-are (false ∷ ms) = digits-are ms

pub bits-are : (ms : List Bool) → is_bits (bits_word ms) ≡ true
bits-are ms = digits-are ms

-- ---- what a goal takes belongs to it
-- what stands for a goal with this token, at a spot, is a part of it
abbrev pub Takes : Goal → Sign → Spot → List Goal → Type 0
Takes g t s gs = (q : Parts gs) → PartsMay gs q → Back g (t ∷ []) gs q s (met g (look_of t) true s)

-- a goal that is this token alone
alone : (g : Goal) (t : Sign) (s u : Spot) (p : Part g) → PartMay g p → part_signs g p ≡ t ∷ [] → behind g p s ≡ u → Back g (t ∷ []) [] tt s u
alone g t s u p m e w = record { part = p; may = m; spelled = λ xs. ap (λ z. z ++ xs) e; written = w }

take-number : (least end : ℕ) (w : Bool) (t : Sign) (s : Spot) → number_verdict (look_of t) least end ≡ verdict.Take
    → Back (goal.Number least end w) (t ∷ []) [] tt s (met (goal.Number least end w) (look_of t) true s)
take-number least end true (Number v) s e =
    let r = number-in least end v e in alone (goal.Number least end true) (Number v) s _ v (r.low, r.high) refl (ap (λ (n : ℕ). noted what.Num n s) (sym r.same))
take-number least end false (Number v) s e = let r = number-in least end v e in alone (goal.Number least end false) (Number v) s _ v (r.low, r.high) refl refl
take-number least end w t s e = cc

-- the number of the version that a number names
pub version-seen-is : (n : ℕ) → 1 ≤ n → n < 3 → version_number (version_seen (look.Number n)) ≡ n
version-seen-is n low high = grind (arith, nat_tests)

take-version : (t : Sign) (s : Spot) → number_verdict (look_of t) 1 3 ≡ verdict.Take → Takes goal.Version t s (next_goals goal.Version (look_of t) s.at (length s.nodes))
take-version (Number n) s e q m =
    let r = number-in 1 3 n e in
    let v : Version = version_seen (look.Number (capped n)) in
    let is : version_number v ≡ capped n = version-seen-is (capped n) (omega (arith, r.low, r.same)) (omega (arith, r.high, r.same)) in
    subst (λ (k : ℕ). Back goal.Version (Number k ∷ []) (version_goals v) q s (noted what.Num (capped n) s)) r.same
    (subst (λ (k : ℕ). Back goal.Version (Number k ∷ []) (version_goals v) q s (noted what.Num k s)) is (back-version v s q m))
take-version t s e q m = cc

take-ranks : (v : Version) (t : Sign) (s : Spot) → number_verdict (look_of t) 1 17 ≡ verdict.Take → Takes (goal.Ranks v) t s (next_goals (goal.Ranks v) (look_of t) s.at (length s.nodes))
take-ranks v (Number n) s e q m =
    let r = number-in 1 17 n e in
    let low : 1 ≤ capped n = omega (arith, r.low, r.same) in
    let high : capped n ≤ 16 = omega (arith, r.high, r.same) in
    subst (λ (k : ℕ). Back (goal.Ranks v) (Number k ∷ []) (rank_goals v (capped n)) q s (noted what.Num (capped n) s)) r.same (back-ranks v (capped n) s q low high m)
take-ranks v t s e q m = cc

take-blocks : (ranks : ℕ) (t : Sign) (s : Spot) → stay_unless (is_all (look_of t)) ≡ verdict.Take
    → Takes (goal.Blocks ranks) t s (next_goals (goal.Blocks ranks) (look_of t) s.at (length s.nodes))
take-blocks ranks (Key keyword.All) s e q m = back-all ranks s q m
take-blocks ranks (Key k) s e q m = cc
take-blocks ranks t s e q m = cc

each-key : (t : Sign) → is_rank (look_of t) ≡ true → Key keyword.Rank ≡ t
each-key (Key keyword.Rank) e = refl
each-key (Key k) e = cc
each-key t e = cc

take-each : (next ranks : ℕ) (t : Sign) (s : Spot) (b : Bool) → nat_lt next ranks ≡ b → (if b then verdict_if (is_rank (look_of t)) else verdict.Stay) ≡ verdict.Take
    → (q : Parts (if b then each_goals next ranks (length s.nodes) else [])) → PartsMay (if b then each_goals next ranks (length s.nodes) else []) q
    → Back (goal.Each next ranks) (t ∷ []) (if b then each_goals next ranks (length s.nodes) else []) q s
    (taken (spot s.at (with_leaf (if b then Some (what.Block, s.at, 0) else None) s.nodes)))
take-each next ranks t s true k e q m =
    let l : next < ranks = grind (arith, nat_tests) in
    subst (λ (x : Sign). Back (goal.Each next ranks) (x ∷ []) (each_goals next ranks (length s.nodes)) q s (noted what.Block 0 s)) (each-key t (verdict_if-take _ e)) (back-each next ranks s q l m)
take-each next ranks t s false k e q m = cc

take-tapes : (ranks : ℕ) (t : Sign) (s : Spot) → stay_unless (is_tape (look_of t)) ≡ verdict.Take
    → Takes (goal.Tapes ranks) t s (next_goals (goal.Tapes ranks) (look_of t) s.at (length s.nodes))
take-tapes ranks (Key keyword.Own) s e q m = back-tape true ranks s q m
take-tapes ranks (Key keyword.Protocol) s e q m = back-tape false ranks s q m
take-tapes ranks (Key k) s e q m = cc
take-tapes ranks t s e q m = cc

take-outcomes : (t : Sign) (s : Spot) → verdict_of goal.Outcomes (look_of t) 0 ≡ verdict.Take → Back goal.Outcomes (t ∷ []) [] tt s (met goal.Outcomes (look_of t) true s)
take-outcomes (Ident bytes) s e = let ms = bits-of bytes (verdict_if-take _ e) in alone goal.Outcomes (Ident bytes) s _ ms.0 tt (ap (λ z. Ident z ∷ []) ms.1) refl
take-outcomes t s e = cc

take-name : (t : Sign) (s : Spot) → verdict_of goal.Name (look_of t) 0 ≡ verdict.Take → Back goal.Name (t ∷ []) [] tt s (met goal.Name (look_of t) true s)
take-name (Ident bytes) s e = alone goal.Name (Ident bytes) s _ bytes tt refl refl
take-name t s e = cc

take-act : (v : Verb) (s : Spot) (b : Bool) → takes_gate v.action ≡ b
    → let gs = if b then goal.Operands (count_by is_some v.operands) ∷ goal.Gate ∷ goal.Close (length s.nodes) ∷ goal.Body ∷ [] else goal.Operands (count_by is_some v.operands) ∷ goal.Close (length s.nodes) ∷ goal.Body ∷ [] in
    Takes goal.Body (Act v) s gs
take-act v s true k q m = back-under v s q k m
take-act v s false k q m = back-do v s q k m

take-body : (t : Sign) (s : Spot) → stay_unless (is_statement (look_of t)) ≡ verdict.Take → Takes goal.Body t s (next_goals goal.Body (look_of t) s.at (length s.nodes))
take-body (Act v) s e q m = take-act v s (takes_gate v.action) refl q m
take-body (Key keyword.For) s e q m = back-for s q m
take-body (Key k) s e q m = cc
take-body t s e q m = cc

take-braced : (t : Sign) (s : Spot) → verdict_of goal.Braced (look_of t) 0 ≡ verdict.Take → Takes goal.Braced t s (next_goals goal.Braced (look_of t) s.at (length s.nodes))
take-braced (Symbol mark.OpenBrace) s e q m = back-braced s q m
take-braced (Symbol k) s e q m = cc
take-braced t s e q m = cc

take-gate : (t : Sign) (s : Spot) → verdict_of goal.Gate (look_of t) 0 ≡ verdict.Take → Takes goal.Gate t s (next_goals goal.Gate (look_of t) s.at (length s.nodes))
take-gate (Act v) s e q m = back-gate v s q (verdict_if-take _ e) m
take-gate t s e q m = cc

take-prim : (t : Sign) (s : Spot) → verdict_of goal.Prim (look_of t) 0 ≡ verdict.Take → Takes goal.Prim t s (next_goals goal.Prim (look_of t) s.at (length s.nodes))
take-prim (Number v) s e q m =
    let r = number-in 0 2147483648 v e in alone goal.Prim (Number v) s _ (Num v) r.small refl (ap (λ (n : ℕ). noted what.Num n s) (sym r.same))
take-prim (Ident bytes) s e q m = alone goal.Prim (Ident bytes) s _ (Name bytes) tt refl refl
take-prim (Key keyword.Rank) s e q m = alone goal.Prim (Key keyword.Rank) s _ Rank tt refl refl
take-prim (Key keyword.Size) s e q m = alone goal.Prim (Key keyword.Size) s _ Size tt refl refl
take-prim (Symbol mark.OpenParenthesis) s e q m = back-paren s q m
take-prim (Key k) s e q m = cc
take-prim (Symbol k) s e q m = cc
take-prim t s e q m = cc

take-muls : (t : Sign) (s : Spot) → verdict_of goal.Muls (look_of t) 0 ≡ verdict.Take → Takes goal.Muls t s (next_goals goal.Muls (look_of t) s.at (length s.nodes))
take-muls (Symbol mark.Times) s e q m = back-mul Times s q m
take-muls (Symbol mark.Over) s e q m = back-mul Over s q m
take-muls (Symbol mark.Rest) s e q m = back-mul Rest s q m
take-muls (Symbol k) s e q m = cc
take-muls t s e q m = cc

take-adds : (t : Sign) (s : Spot) → verdict_of goal.Adds (look_of t) 0 ≡ verdict.Take → Takes goal.Adds t s (next_goals goal.Adds (look_of t) s.at (length s.nodes))
take-adds (Symbol mark.Plus) s e q m = back-add Plus s q m
take-adds (Symbol mark.Minus) s e q m = back-add Minus s q m
take-adds (Symbol k) s e q m = cc
take-adds t s e q m = cc

pub back-take : (g : Goal) (t : Sign) (s : Spot) → verdict_of g (look_of t) 0 ≡ verdict.Take → Takes g t s (next_goals g (look_of t) s.at (length s.nodes))
back-take (goal.Fixed f) t s e q m = alone (goal.Fixed f) t s _ tt tt (ap (λ z. z ∷ []) (fixed-is f t (verdict_if-take _ e))) refl
back-take (goal.Number least end w) t s e q m = take-number least end w t s e
back-take goal.Version t s e q m = take-version t s e q m
back-take (goal.Ranks v) t s e q m = take-ranks v t s e q m
back-take (goal.Numbers left end) t s e q m = cc
back-take (goal.Blocks ranks) t s e q m = take-blocks ranks t s e q m
back-take (goal.Each next ranks) t s e q m = take-each next ranks t s (nat_lt next ranks) refl e q m
back-take (goal.Tapes ranks) t s e q m = take-tapes ranks t s e q m
back-take goal.Outcomes t s e q m = take-outcomes t s e
back-take goal.Name t s e q m = take-name t s e
back-take goal.Body t s e q m = take-body t s e q m
back-take goal.Braced t s e q m = take-braced t s e q m
back-take (goal.Operands left) t s e q m = cc
back-take goal.Gate t s e q m = take-gate t s e q m
back-take goal.Prim t s e q m = take-prim t s e q m
back-take goal.Muls t s e q m = take-muls t s e q m
back-take goal.Adds t s e q m = take-adds t s e q m
back-take (goal.Leaf w token) t s e q m = cc
back-take (goal.Close node) t s e q m = cc
