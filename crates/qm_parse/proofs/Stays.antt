-- Goals that take no token, tokens that a goal takes, and tokens that stop it
use Rattle.std.proofs.Common.{◌≡◌, ℕ, ◌+◌, ◌-◌, ◌<◌, ◌≤◌, Bool, true, false, nat_lt, List, [], ◌∷◌, ◌++◌, length, Option, Some, None, refl, sym, ap, ◌∙◌, subst, arith, if◌then◌else◌}
use Rattle.std.specs.Prelude.{All, count_by, is_some}
use Rattle.std.proofs.lemmas.Bool.Decides.{nat_tests}
use Rattle.qm_parse.specs.declared.goals.Fixed.{Fixed}
use Rattle.qm_parse.specs.declared.goals.Fixed.TheVariants as fixed
use Rattle.qm_parse.specs.declared.goals.Goal.{Goal}
use Rattle.qm_parse.specs.declared.goals.Goal.TheVariants as goal
use Rattle.qm_parse.specs.declared.goals.Stop.{Stop}
use Rattle.qm_parse.specs.declared.goals.Verdict.{Verdict}
use Rattle.qm_parse.specs.declared.goals.Verdict.TheVariants as verdict
use Rattle.qm_parse.specs.declared.looks.Look.{Look}
use Rattle.qm_parse.specs.declared.looks.Look.TheVariants as look
use Rattle.qm_parse.specs.declared.tree.What.{What}
use Rattle.qm_parse.specs.declared.tree.What.TheVariants as what
use Rattle.qm_parse.specs.declared.words.Keyword.TheVariants as keyword
use Rattle.qm_parse.specs.declared.words.Mark.TheVariants as mark
use Rattle.qm_parse.specs.declared.words.Verb.{Verb}
use Rattle.qm_parse.specs.declared.words.Version.{Version}
use Rattle.qm_parse.specs.declared.words.Version.TheVariants as version
use Rattle.qm_parse.specs.Words.{takes_gate, version_number}
use Rattle.qm_parse.specs.Signs.{Sign, Number, Key, Act, Ident, Symbol}
use Rattle.qm_parse.specs.Looks.{capped, look_of, look_at, version_seen}
use Rattle.qm_parse.specs.Trees.{Times, Over, Rest, Plus, Minus, Adds, NoAdd, Add, Muls, NoMul, Mul, Prim, Num, Name, Rank, Size, Paren, Expr, Body, Nothing, Then, Do, DoUnder, For, Blocks, TapeLine, Program, PrimMay, ExprMay, BodyMay, BlocksMay}
use Rattle.qm_parse.specs.Spelling.{prim_signs, muls_signs, adds_signs, operands_signs, body_signs, each_signs, blocks_signs, tapes_signs, numbers_signs}
use Rattle.qm_parse.specs.Verdicts.{is_fixed, verdict_if, stay_unless, number_verdict, is_rank, is_all, is_tape, is_statement, mul_op, add_op, verdict_of}
use Rattle.qm_parse.specs.Moves.{number_goals, each_goals, statement_goals, muls_goals, adds_goals, next_goals}
use Rattle.qm_parse.proofs.WeightLemmas.{verdict_if-stay, number-stay, prim-stay, braced-stay, stay_unless-stay}
use Rattle.qm_parse.specs.Reaching.{with_leaf}
use Rattle.qm_parse.proofs.Behind.{Spot, spot, met}
use Rattle.qm_parse.proofs.Parts.{Part, Parts, PartMay, PartsMay, PartEnds, behind, part_signs, fixed_sign, NoHead, is_op, is_inner, is_tape_sign, Back, Forth}
use Rattle.qm_parse.proofs.ExprSteps.{operand_goals, back-operand, forth-operand, forth-mul, forth-add, forth-paren}
use Rattle.qm_parse.proofs.BodySteps.{forth-do, forth-under, forth-gate, forth-for, forth-braced}
use Rattle.qm_parse.proofs.FrameSteps.{tape_key, back-number, forth-number, back-blocks, forth-version, forth-ranks, forth-all, forth-blocks, forth-each, forth-tape}
use Rattle.qm_parse.proofs.Turns.{number-in, number-may, bits-are, version-seen-is}

-- what is known of each goal that comes next
abbrev pub GoalOk : Goal → Type 0
GoalOk (goal.Number least end w) = (least < end) × (end ≤ 2147483648)
GoalOk (goal.Numbers left end) = (1 < end) × (end ≤ 2147483648)
GoalOk (goal.Blocks ranks) = (1 ≤ ranks) × (ranks ≤ 16)
GoalOk (goal.Each next ranks) = ranks ≤ 16
GoalOk (goal.Tapes ranks) = (1 ≤ ranks) × (ranks ≤ 16)
GoalOk g = Unit {0}

-- ---- a goal that takes no token, from those that stand for it
-- nothing is written for it
back-none : (b : Bool) (g : Goal) (gs : List Goal) (p : Part g) (s : Spot) → PartMay g p → part_signs g p ≡ [] → behind g p s ≡ s → b ≡ false → (q : Parts (if b then gs else [])) → Back g [] (if b then gs else []) q s s
back-none true g gs p s m e w k q = cc
back-none false g gs p s m e w k q = record { part = p; may = m; spelled = λ xs. ap (λ z. z ++ xs) e; written = w }

stay-blocks : (ranks : ℕ) (s : Spot) (b : Bool) (gs : List Goal) → b ≡ false → (q : Parts (if b then gs else goal.Each 0 ranks ∷ [])) → PartsMay (if b then gs else goal.Each 0 ranks ∷ []) q
    → Back (goal.Blocks ranks) [] (if b then gs else goal.Each 0 ranks ∷ []) q s (spot s.at (with_leaf (if b then Some (what.All, s.at, 0) else None) s.nodes))
stay-blocks ranks s true gs e q m = cc
stay-blocks ranks s false gs e q m = back-blocks ranks s q m

stay-each : (next ranks : ℕ) (s : Spot) (l : Look) (b : Bool) → nat_lt next ranks ≡ b → (if b then verdict_if (is_rank l) else verdict.Stay) ≡ verdict.Stay
    → (q : Parts (if b then each_goals next ranks (length s.nodes) else []))
    → Back (goal.Each next ranks) [] (if b then each_goals next ranks (length s.nodes) else []) q s (spot s.at (with_leaf (if b then Some (what.Block, s.at, 0) else None) s.nodes))
stay-each next ranks s l true k e q = absurd (verdict_if-stay _ e)
stay-each next ranks s l false k e q =
    let h : ranks ≤ next = grind (arith, nat_tests) in
    record { part = []; may = (omega arith, λ i d small. absurd (omega arith)); spelled = λ xs. refl; written = refl }

pub no_tapes : (ranks : ℕ) → All (λ (t : TapeLine). t.rank < ranks) []
no_tapes ranks = λ i d small. absurd (omega arith)

stay-tapes : (ranks : ℕ) (l : Look) (s : Spot) → is_tape l ≡ false → (q : Parts (next_goals (goal.Tapes ranks) l s.at (length s.nodes)))
    → Back (goal.Tapes ranks) [] (next_goals (goal.Tapes ranks) l s.at (length s.nodes)) q s (met (goal.Tapes ranks) l false s)
stay-tapes ranks (look.Keyword keyword.Own) s e q = cc
stay-tapes ranks (look.Keyword keyword.Protocol) s e q = cc
stay-tapes ranks l s e q = back-none false (goal.Tapes ranks) [] [] s (no_tapes ranks) refl refl refl q

stay-body : (l : Look) (s : Spot) → is_statement l ≡ false → (q : Parts (statement_goals l (length s.nodes))) → Back goal.Body [] (statement_goals l (length s.nodes)) q s (met goal.Body l false s)
stay-body (look.Verb v) s e q = cc
stay-body (look.Keyword keyword.For) s e q = cc
stay-body l s e q = record { part = Nothing; may = tt; spelled = λ xs. refl; written = refl }

stay-operands : (left : ℕ) (s : Spot) (b : Bool) → nat_lt 0 left ≡ b → (q : Parts (if b then operand_goals s.at (left - 1) else [])) → PartsMay (if b then operand_goals s.at (left - 1) else []) q
    → Back (goal.Operands left) [] (if b then operand_goals s.at (left - 1) else []) q s s
stay-operands left s true k q m =
    let h : 0 < left = grind (arith, nat_tests) in
    let n : (left - 1) + 1 ≡ left = omega arith in
    subst (λ (x : ℕ). Back (goal.Operands x) [] (operand_goals s.at (left - 1)) q s s) n (back-operand s (left - 1) q m)
stay-operands left s false k q m =
    let h : left ≤ 0 = grind (arith, nat_tests) in
    record { part = []; may = (omega arith, λ i d small. absurd (omega arith)); spelled = λ xs. refl; written = refl }

stay-numbers : (left end : ℕ) (s : Spot) (b : Bool) → nat_lt 0 left ≡ b → (q : Parts (if b then number_goals (left - 1) end else [])) → PartsMay (if b then number_goals (left - 1) end else []) q
    → Back (goal.Numbers left end) [] (if b then number_goals (left - 1) end else []) q s s
stay-numbers left end s true k q m =
    let h : 0 < left = grind (arith, nat_tests) in
    let n : (left - 1) + 1 ≡ left = omega arith in
    subst (λ (x : ℕ). Back (goal.Numbers x end) [] (number_goals (left - 1) end) q s s) n (back-number s (left - 1) end q m)
stay-numbers left end s false k q m =
    let h : left ≤ 0 = grind (arith, nat_tests) in
    record { part = []; may = (omega arith, λ i d small. absurd (omega arith)); spelled = λ xs. refl; written = refl }

stay-muls : (o : Option What) (s : Spot) → is_some o ≡ false → (q : Parts (muls_goals o s.at)) → Back goal.Muls [] (muls_goals o s.at) q s s
stay-muls None s e q = record { part = NoMul; may = tt; spelled = λ xs. refl; written = refl }
stay-muls (Some w) s e q = cc

stay-adds : (o : Option What) (s : Spot) → is_some o ≡ false → (q : Parts (adds_goals o s.at)) → Back goal.Adds [] (adds_goals o s.at) q s s
stay-adds None s e q = record { part = NoAdd; may = tt; spelled = λ xs. refl; written = refl }
stay-adds (Some w) s e q = cc

pub back-stay : (g : Goal) (l : Look) (s : Spot) → verdict_of g l 0 ≡ verdict.Stay → (q : Parts (next_goals g l s.at (length s.nodes))) → PartsMay (next_goals g l s.at (length s.nodes)) q
    → Back g [] (next_goals g l s.at (length s.nodes)) q s (met g l false s)
back-stay (goal.Fixed f) l s e q m = absurd (verdict_if-stay _ e)
back-stay (goal.Number least end w) l s e q m = absurd (number-stay l least end e)
back-stay goal.Version l s e q m = absurd (number-stay l 1 3 e)
back-stay (goal.Ranks v) l s e q m = absurd (number-stay l 1 17 e)
back-stay (goal.Numbers left end) l s e q m = stay-numbers left end s (nat_lt 0 left) refl q m
back-stay (goal.Blocks ranks) l s e q m = stay-blocks ranks s (is_all l) _ (stay_unless-stay _ e) q m
back-stay (goal.Each next ranks) l s e q m = stay-each next ranks s l (nat_lt next ranks) refl e q
back-stay (goal.Tapes ranks) l s e q m = stay-tapes ranks l s (stay_unless-stay _ e) q
back-stay goal.Outcomes l s e q m = absurd (verdict_if-stay _ e)
back-stay goal.Name l s e q m = absurd (verdict_if-stay _ e)
back-stay goal.Body l s e q m = stay-body l s (stay_unless-stay _ e) q
back-stay goal.Braced l s e q m = absurd (braced-stay l 0 e)
back-stay (goal.Operands left) l s e q m = stay-operands left s (nat_lt 0 left) refl q m
back-stay goal.Gate l s e q m = absurd (verdict_if-stay _ e)
back-stay goal.Prim l s e q m = absurd (prim-stay l 0 e)
back-stay goal.Muls l s e q m = stay-muls (mul_op l) s (stay_unless-stay _ e) q
back-stay goal.Adds l s e q m = stay-adds (add_op l) s (stay_unless-stay _ e) q
back-stay (goal.Leaf w token) l s e q m = record { part = tt; may = tt; spelled = λ xs. refl; written = refl }
back-stay (goal.Close node) l s e q m = record { part = tt; may = tt; spelled = λ xs. refl; written = refl }

-- ---- to those that stand for it
none-left : (xs ys : List Sign) → xs ≡ ys → Forth [] xs ys
none-left xs ys e = record { parts = tt; may = tt; ends = tt; spelled = e }

forth-none : (b : Bool) (gs : List Goal) (xs ys : List Sign) → b ≡ false → xs ≡ ys → Forth (if b then gs else []) xs ys
forth-none true gs xs ys k e = cc
forth-none false gs xs ys k e = none-left xs ys e

goes-blocks : (ranks : ℕ) (p : Blocks) (xs : List Sign) (b : Bool) (gs : List Goal) → BlocksMay ranks p → is_all (look_at (blocks_signs p ++ xs)) ≡ b → b ≡ false → Forth (if b then gs else goal.Each 0 ranks ∷ []) xs (blocks_signs p ++ xs)
goes-blocks ranks p xs true gs m k e = cc
goes-blocks ranks p xs false gs m k e = forth-blocks ranks p xs m k

goes-each : (next ranks base : ℕ) (l : Look) (p : List Body) (xs : List Sign) (b : Bool) → nat_lt next ranks ≡ b → (if b then verdict_if (is_rank l) else verdict.Stay) ≡ verdict.Stay → length p ≡ ranks - next
    → Forth (if b then each_goals next ranks base else []) xs (each_signs next p ++ xs)
goes-each next ranks base l p xs true k e n = absurd (verdict_if-stay _ e)
goes-each next ranks base l [] xs false k e n = none-left xs xs refl
goes-each next ranks base l (b ∷ bs) xs false k e n = let h : ranks ≤ next = grind (arith, nat_tests) in absurd (omega (arith, n))

own-tape : (own : Bool) → is_tape (look_of (tape_key own)) ≡ true
own-tape true = refl
own-tape false = refl

goes-tapes : (ranks base : ℕ) (p : List TapeLine) (xs : List Sign) (gs : List Goal) → is_tape (look_at (tapes_signs p ++ xs)) ≡ false → Forth (if is_tape (look_at (tapes_signs p ++ xs)) then gs else []) xs (tapes_signs p ++ xs)
goes-tapes ranks base [] xs gs e = forth-none (is_tape (look_at xs)) gs xs xs e refl
goes-tapes ranks base (t ∷ ts) xs gs e = let k : is_tape (look_of (tape_key t.own)) ≡ true = own-tape t.own in cc

no-statement : (l : Look) (base : ℕ) (xs : List Sign) → is_statement l ≡ false → Forth (statement_goals l base) xs xs
no-statement (look.Verb v) base xs e = cc
no-statement (look.Keyword keyword.For) base xs e = cc
no-statement l base xs e = none-left xs xs refl

goes-body : (p : Body) (base : ℕ) (xs : List Sign) → is_statement (look_at (body_signs p ++ xs)) ≡ false → Forth (statement_goals (look_at (body_signs p ++ xs)) base) xs (body_signs p ++ xs)
goes-body Nothing base xs e = no-statement (look_at xs) base xs e
goes-body (Then (Do c) more) base xs e = cc
goes-body (Then (DoUnder c g) more) base xs e = cc
goes-body (Then (For name a b body) more) base xs e = cc

goes-operands : (left at : ℕ) (p : List Expr) (xs : List Sign) (b : Bool) → nat_lt 0 left ≡ b → length p ≡ left → All ExprMay p → NoHead is_op xs → Forth (if b then operand_goals at (left - 1) else []) xs (operands_signs p ++ xs)
goes-operands left at p xs true k n m h = let some : 0 < left = grind (arith, nat_tests) in forth-operand at (left - 1) p xs (omega (arith, n)) m h
goes-operands left at [] xs false k n m h = none-left xs xs refl
goes-operands left at (e ∷ es) xs false k n m h = let none : left ≤ 0 = grind (arith, nat_tests) in absurd (omega (arith, n))

goes-numbers : (left end : ℕ) (p : List ℕ) (xs : List Sign) (b : Bool) → nat_lt 0 left ≡ b → length p ≡ left → All (λ n. (1 ≤ n) × (n < end)) p
    → Forth (if b then number_goals (left - 1) end else []) xs (numbers_signs p ++ xs)
goes-numbers left end p xs true k n m = let some : 0 < left = grind (arith, nat_tests) in forth-number (left - 1) end p xs (omega (arith, n)) m
goes-numbers left end [] xs false k n m = none-left xs xs refl
goes-numbers left end (v ∷ vs) xs false k n m = let none : left ≤ 0 = grind (arith, nat_tests) in absurd (omega (arith, n))

no-mul : (o : Option What) (at : ℕ) (xs : List Sign) → is_some o ≡ false → Forth (muls_goals o at) xs xs
no-mul None at xs e = none-left xs xs refl
no-mul (Some w) at xs e = cc

goes-muls : (p : Muls) (at : ℕ) (xs : List Sign) → is_some (mul_op (look_at (muls_signs p ++ xs))) ≡ false → Forth (muls_goals (mul_op (look_at (muls_signs p ++ xs))) at) xs (muls_signs p ++ xs)
goes-muls NoMul at xs e = no-mul (mul_op (look_at xs)) at xs e
goes-muls (Mul Times p more) at xs e = cc
goes-muls (Mul Over p more) at xs e = cc
goes-muls (Mul Rest p more) at xs e = cc

no-add : (o : Option What) (at : ℕ) (xs : List Sign) → is_some o ≡ false → Forth (adds_goals o at) xs xs
no-add None at xs e = none-left xs xs refl
no-add (Some w) at xs e = cc

goes-adds : (p : Adds) (at : ℕ) (xs : List Sign) → is_some (add_op (look_at (adds_signs p ++ xs))) ≡ false → Forth (adds_goals (add_op (look_at (adds_signs p ++ xs))) at) xs (adds_signs p ++ xs)
goes-adds NoAdd at xs e = no-add (add_op (look_at xs)) at xs e
goes-adds (Add Plus t more) at xs e = cc
goes-adds (Add Minus t more) at xs e = cc

pub forth-stay : (g : Goal) (at base : ℕ) (p : Part g) (xs : List Sign) → PartMay g p → PartEnds g xs → let l = look_at (part_signs g p ++ xs) in verdict_of g l 0 ≡ verdict.Stay
    → Forth (next_goals g l at base) xs (part_signs g p ++ xs)
forth-stay (goal.Fixed f) at base p xs m h e = absurd (verdict_if-stay _ e)
forth-stay (goal.Number least end w) at base p xs m h e = absurd (number-stay (look_at (Number p ∷ xs)) least end e)
forth-stay goal.Version at base p xs m h e = absurd (number-stay (look_at (Number (version_number p.version) ∷ xs)) 1 3 e)
forth-stay (goal.Ranks v) at base p xs m h e = absurd (number-stay (look_at (Number p.ranks ∷ xs)) 1 17 e)
forth-stay (goal.Numbers left end) at base p xs m h e = goes-numbers left end p xs (nat_lt 0 left) refl m.0 m.1
forth-stay (goal.Blocks ranks) at base p xs m h e = goes-blocks ranks p xs (is_all (look_at (blocks_signs p ++ xs))) _ m refl (stay_unless-stay _ e)
forth-stay (goal.Each next ranks) at base p xs m h e = goes-each next ranks base (look_at (each_signs next p ++ xs)) p xs (nat_lt next ranks) refl e m.0
forth-stay (goal.Tapes ranks) at base p xs m h e = goes-tapes ranks base p xs _ (stay_unless-stay _ e)
forth-stay goal.Outcomes at base p xs m h e = absurd (verdict_if-stay _ e)
forth-stay goal.Name at base p xs m h e = cc
forth-stay goal.Body at base p xs m h e = goes-body p base xs (stay_unless-stay _ e)
forth-stay goal.Braced at base p xs m h e = absurd (braced-stay (look_at (Symbol mark.OpenBrace ∷ [])) 0 e)
forth-stay (goal.Operands left) at base p xs m h e = goes-operands left at p xs (nat_lt 0 left) refl m.0 m.1 h
forth-stay goal.Gate at base p xs m h e = absurd (verdict_if-stay _ e)
forth-stay goal.Prim at base p xs m h e = absurd (prim-stay (look_at (prim_signs p ++ xs)) 0 e)
forth-stay goal.Muls at base p xs m h e = goes-muls p at xs (stay_unless-stay _ e)
forth-stay goal.Adds at base p xs m h e = goes-adds p at xs (stay_unless-stay _ e)
forth-stay (goal.Leaf w token) at base p xs m h e = none-left xs xs refl
forth-stay (goal.Close node) at base p xs m h e = none-left xs xs refl

-- ---- a token that a goal takes, to those that follow it
abbrev is_paren : Sign → Bool
is_paren (Symbol mark.OpenParenthesis) = true
is_paren t = false

prim-alone : (p : Prim) (t : Sign) (xs ts : List Sign) → is_paren t ≡ false → prim_signs p ++ xs ≡ t ∷ ts → xs ≡ ts
prim-alone (Paren inner) t xs ts k e = absurd (let h : Symbol mark.OpenParenthesis ≡ t = cc in let f : is_paren t ≡ true = ap is_paren (sym h) in cc)
prim-alone (Num v) t xs ts k e = cc
prim-alone (Name bytes) t xs ts k e = cc
prim-alone Rank t xs ts k e = cc
prim-alone Size t xs ts k e = cc

goes-act : (v : Verb) (base : ℕ) (p : Body) (xs ts : List Sign) (b : Bool) → takes_gate v.action ≡ b → BodyMay p → NoHead is_inner xs → body_signs p ++ xs ≡ Act v ∷ ts
    → Forth (if b then goal.Operands (count_by is_some v.operands) ∷ goal.Gate ∷ goal.Close base ∷ goal.Body ∷ [] else goal.Operands (count_by is_some v.operands) ∷ goal.Close base ∷ goal.Body ∷ []) xs ts
goes-act v base p xs ts true k m h e = forth-under v base p xs ts k m h e
goes-act v base p xs ts false k m h e = forth-do v base p xs ts k m h e

takes-version : (p : Program) (t : Sign) (at base : ℕ) (xs ts : List Sign) → PartMay goal.Version p → NoHead is_tape_sign xs → number_verdict (look_of t) 1 3 ≡ verdict.Take → part_signs goal.Version p ++ xs ≡ t ∷ ts
    → Forth (next_goals goal.Version (look_of t) at base) xs ts
takes-version p (Number n) at base xs ts m h k e =
    let r = number-in 1 3 n k in
    let v : Version = version_seen (look.Number (capped n)) in
    let is : version_number v ≡ capped n = version-seen-is (capped n) (omega (arith, r.low, r.same)) (omega (arith, r.high, r.same)) in
    forth-version v p xs ts m h (e ∙ ap (λ (k : ℕ). Number k ∷ ts) (sym (is ∙ r.same)))
takes-version p t at base xs ts m h k e = cc

takes-ranks : (v : Version) (p : Program) (t : Sign) (at base : ℕ) (xs ts : List Sign) → PartMay (goal.Ranks v) p → NoHead is_tape_sign xs → number_verdict (look_of t) 1 17 ≡ verdict.Take
    → part_signs (goal.Ranks v) p ++ xs ≡ t ∷ ts → Forth (next_goals (goal.Ranks v) (look_of t) at base) xs ts
takes-ranks v p (Number n) at base xs ts m h k e =
    let r = number-in 1 17 n k in
    forth-ranks v (capped n) p xs ts m h (e ∙ ap (λ (k : ℕ). Number k ∷ ts) (sym r.same))
takes-ranks v p t at base xs ts m h k e = cc

takes-each : (next ranks base : ℕ) (p : List Body) (t : Sign) (xs ts : List Sign) (b : Bool) → nat_lt next ranks ≡ b → (if b then verdict_if (is_rank (look_of t)) else verdict.Stay) ≡ verdict.Take
    → length p ≡ ranks - next → All BodyMay p → each_signs next p ++ xs ≡ t ∷ ts → Forth (if b then each_goals next ranks base else []) xs ts
takes-each next ranks base p t xs ts true k v n m e = let l : next < ranks = grind (arith, nat_tests) in forth-each next ranks base p t xs ts l n m e
takes-each next ranks base p t xs ts false k v n m e = cc

pub forth-take : (g : Goal) (t : Sign) (at base : ℕ) (p : Part g) (xs ts : List Sign) → GoalOk g → PartMay g p → PartEnds g xs → verdict_of g (look_of t) 0 ≡ verdict.Take → part_signs g p ++ xs ≡ t ∷ ts
    → Forth (next_goals g (look_of t) at base) xs ts
forth-take (goal.Fixed f) t at base p xs ts o m h v e = none-left xs ts cc
forth-take (goal.Number least end w) t at base p xs ts o m h v e = none-left xs ts cc
forth-take goal.Version t at base p xs ts o m h v e = takes-version p t at base xs ts m h v e
forth-take (goal.Ranks w) t at base p xs ts o m h v e = takes-ranks w p t at base xs ts m h v e
forth-take (goal.Numbers left end) t at base p xs ts o m h v e = cc
forth-take (goal.Blocks ranks) (Key keyword.All) at base p xs ts o m h v e = forth-all ranks base p xs ts m o.0 e
forth-take (goal.Blocks ranks) (Key k) at base p xs ts o m h v e = cc
forth-take (goal.Blocks ranks) t at base p xs ts o m h v e = cc
forth-take (goal.Each next ranks) t at base p xs ts o m h v e = takes-each next ranks base p t xs ts (nat_lt next ranks) refl v m.0 m.1 e
forth-take (goal.Tapes ranks) (Key keyword.Own) at base p xs ts o m h v e = forth-tape true ranks base p (Key keyword.Own) xs ts m h refl e
forth-take (goal.Tapes ranks) (Key keyword.Protocol) at base p xs ts o m h v e = forth-tape false ranks base p (Key keyword.Protocol) xs ts m h refl e
forth-take (goal.Tapes ranks) (Key k) at base p xs ts o m h v e = cc
forth-take (goal.Tapes ranks) t at base p xs ts o m h v e = cc
forth-take goal.Outcomes t at base p xs ts o m h v e = none-left xs ts cc
forth-take goal.Name t at base p xs ts o m h v e = none-left xs ts cc
forth-take goal.Body (Act verb) at base p xs ts o m h v e = goes-act verb base p xs ts (takes_gate verb.action) refl m h e
forth-take goal.Body (Key keyword.For) at base p xs ts o m h v e = forth-for base p xs ts m h e
forth-take goal.Body (Key k) at base p xs ts o m h v e = cc
forth-take goal.Body t at base p xs ts o m h v e = cc
forth-take goal.Braced (Symbol mark.OpenBrace) at base p xs ts o m h v e = forth-braced p xs ts m e
forth-take goal.Braced (Symbol k) at base p xs ts o m h v e = cc
forth-take goal.Braced t at base p xs ts o m h v e = cc
forth-take (goal.Operands left) t at base p xs ts o m h v e = cc
forth-take goal.Gate (Act verb) at base p xs ts o m h v e = forth-gate verb base p xs ts m.1 h e
forth-take goal.Gate t at base p xs ts o m h v e = cc
forth-take goal.Prim (Number n) at base p xs ts o m h v e = none-left xs ts (prim-alone p (Number n) xs ts refl e)
forth-take goal.Prim (Ident bytes) at base p xs ts o m h v e = none-left xs ts (prim-alone p (Ident bytes) xs ts refl e)
forth-take goal.Prim (Key keyword.Rank) at base p xs ts o m h v e = none-left xs ts (prim-alone p (Key keyword.Rank) xs ts refl e)
forth-take goal.Prim (Key keyword.Size) at base p xs ts o m h v e = none-left xs ts (prim-alone p (Key keyword.Size) xs ts refl e)
forth-take goal.Prim (Symbol mark.OpenParenthesis) at base p xs ts o m h v e = forth-paren p xs ts m e
forth-take goal.Prim (Key k) at base p xs ts o m h v e = cc
forth-take goal.Prim (Symbol k) at base p xs ts o m h v e = cc
forth-take goal.Prim t at base p xs ts o m h v e = cc
forth-take goal.Muls (Symbol mark.Times) at base p xs ts o m h v e = forth-mul what.Times at p (Symbol mark.Times) xs ts m h refl e
forth-take goal.Muls (Symbol mark.Over) at base p xs ts o m h v e = forth-mul what.Over at p (Symbol mark.Over) xs ts m h refl e
forth-take goal.Muls (Symbol mark.Rest) at base p xs ts o m h v e = forth-mul what.Rest at p (Symbol mark.Rest) xs ts m h refl e
forth-take goal.Muls (Symbol k) at base p xs ts o m h v e = cc
forth-take goal.Muls t at base p xs ts o m h v e = cc
forth-take goal.Adds (Symbol mark.Plus) at base p xs ts o m h v e = forth-add what.Plus at p (Symbol mark.Plus) xs ts m h refl e
forth-take goal.Adds (Symbol mark.Minus) at base p xs ts o m h v e = forth-add what.Minus at p (Symbol mark.Minus) xs ts m h refl e
forth-take goal.Adds (Symbol k) at base p xs ts o m h v e = cc
forth-take goal.Adds t at base p xs ts o m h v e = cc
forth-take (goal.Leaf w token) t at base p xs ts o m h v e = cc
forth-take (goal.Close node) t at base p xs ts o m h v e = cc

-- ---- a token that stops a goal
if-take : (b : Bool) → b ≡ true → verdict_if b ≡ verdict.Take
if-take b e = rw e refl

fixed-take : (f : Fixed) → is_fixed f (look_of (fixed_sign f)) ≡ true
fixed-take fixed.Qmpi = refl
fixed-take fixed.Ranks = refl
fixed-take fixed.Qubits = refl
fixed-take fixed.Buffer = refl
fixed-take fixed.End = refl
fixed-take fixed.In = refl
fixed-take fixed.Dots = refl
fixed-take fixed.CloseBrace = refl
fixed-take fixed.CloseParenthesis = refl

stay_unless-stop : (b : Bool) (s : Stop) → stay_unless b ≡ verdict.Stop s → ⊥
stay_unless-stop true s e = cc
stay_unless-stop false s e = cc

both : {A : Type 0} (v : Verdict) (s : Stop) → v ≡ verdict.Take → v ≡ verdict.Stop s → A
both v s t e = absurd (let h : verdict.Take ≡ verdict.Stop s = sym t ∙ e in cc)

each-stop : (next ranks : ℕ) (p : List Body) (xs : List Sign) (s : Stop) (b : Bool) → nat_lt next ranks ≡ b → length p ≡ ranks - next
    → (if b then verdict_if (is_rank (look_at (each_signs next p ++ xs))) else verdict.Stay) ≡ verdict.Stop s → ⊥
each-stop next ranks [] xs s true k n e = let l : next < ranks = grind (arith, nat_tests) in absurd (omega (arith, n))
each-stop next ranks (b ∷ bs) xs s true k n e = cc
each-stop next ranks p xs s false k n e = cc

prim-stop : (p : Prim) (xs : List Sign) (s : Stop) → PrimMay p → verdict_of goal.Prim (look_at (prim_signs p ++ xs)) 0 ≡ verdict.Stop s → ⊥
prim-stop (Num v) xs s m e = let low : 0 ≤ v = omega arith in let few : 2147483648 ≤ 2147483648 = omega arith in both _ s (number-may 0 2147483648 v low (omega (arith, m)) few) e
prim-stop (Name bytes) xs s m e = cc
prim-stop Rank xs s m e = cc
prim-stop Size xs s m e = cc
prim-stop (Paren inner) xs s m e = cc

version-range : (v : Version) → (1 ≤ version_number v) × (version_number v < 3)
version-range version.One = (omega arith, omega arith)
version-range version.Two = (omega arith, omega arith)

-- no part of a goal, before tokens that may follow it, begins with a token that stops it
pub no-stop : (g : Goal) (p : Part g) (xs : List Sign) (s : Stop) → GoalOk g → PartMay g p → verdict_of g (look_at (part_signs g p ++ xs)) 0 ≡ verdict.Stop s → ⊥
no-stop (goal.Fixed f) p xs s o m e = both _ s (if-take _ (fixed-take f)) e
no-stop (goal.Number least end w) p xs s o m e = both _ s (number-may least end p m.0 m.1 o.1) e
no-stop goal.Version p xs s o m e =
    let r = version-range p.version in
    let few : 3 ≤ 2147483648 = omega arith in both _ s (number-may 1 3 (version_number p.version) r.0 r.1 few) e
no-stop (goal.Ranks v) p xs s o m e = let few : 17 ≤ 2147483648 = omega arith in both _ s (number-may 1 17 p.ranks m.1.some_ranks (omega (arith, m.1.few_ranks)) few) e
no-stop (goal.Numbers left end) p xs s o m e = cc
no-stop (goal.Blocks ranks) p xs s o m e = stay_unless-stop _ s e
no-stop (goal.Each next ranks) p xs s o m e = each-stop next ranks p xs s (nat_lt next ranks) refl m.0 e
no-stop (goal.Tapes ranks) p xs s o m e = stay_unless-stop _ s e
no-stop goal.Outcomes p xs s o m e = both _ s (if-take _ (bits-are p)) e
no-stop goal.Name p xs s o m e = cc
no-stop goal.Body p xs s o m e = stay_unless-stop _ s e
no-stop goal.Braced p xs s o m e = cc
no-stop (goal.Operands left) p xs s o m e = cc
no-stop goal.Gate p xs s o m e = both _ s (if-take _ m.0) e
no-stop goal.Prim p xs s o m e = prim-stop p xs s m e
no-stop goal.Muls p xs s o m e = stay_unless-stop _ s e
no-stop goal.Adds p xs s o m e = stay_unless-stop _ s e
no-stop (goal.Leaf w token) p xs s o m e = cc
no-stop (goal.Close node) p xs s o m e = cc
