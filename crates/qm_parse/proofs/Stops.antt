-- Tokens at which no program goes on, and why
use Rattle.std.proofs.Common.{◌≡◌, ℕ, ◌-◌, ◌<◌, ◌≤◌, ◌⊎◌, inl, inr, Bool, true, false, ◌&&◌, nat_le, nat_lt, List, [], ◌∷◌, Some, None, refl, ap, subst, arith, if◌then◌else◌}
use Rattle.std.specs.Prelude.{replicate}
use Rattle.std.proofs.lemmas.Bool.Decides.{nat_tests}
use Rattle.std.proofs.lemmas.List.{length-replicate}
use Rattle.std.proofs.lemmas.List.Elements.{All-replicate}
use Rattle.qm_instr.specs.declared.OneGate.TheVariants as one
use Rattle.qm_parse.specs.declared.goals.Fixed.{Fixed}
use Rattle.qm_parse.specs.declared.goals.Fixed.TheVariants as fixed
use Rattle.qm_parse.specs.declared.goals.Goal.{Goal}
use Rattle.qm_parse.specs.declared.goals.Goal.TheVariants as goal
use Rattle.qm_parse.specs.declared.goals.Stop.{Stop}
use Rattle.qm_parse.specs.declared.goals.Stop.TheVariants as stop
use Rattle.qm_parse.specs.declared.goals.Verdict.TheVariants as verdict
use Rattle.qm_parse.specs.declared.looks.Look.{Look}
use Rattle.qm_parse.specs.declared.looks.Look.TheVariants as look
use Rattle.qm_parse.specs.declared.words.Action.TheVariants as action
use Rattle.qm_parse.specs.declared.words.Keyword.TheVariants as keyword
use Rattle.qm_parse.specs.declared.words.Mark.{Mark}
use Rattle.qm_parse.specs.declared.words.Mark.TheVariants as mark
use Rattle.qm_parse.specs.declared.words.Operand.TheVariants as operand
use Rattle.qm_parse.specs.declared.words.Verb.{Verb}
use Rattle.qm_parse.specs.declared.words.Version.{Version}
use Rattle.qm_parse.specs.declared.words.Version.TheVariants as version
use Rattle.qm_parse.specs.Words.{size_count}
use Rattle.qm_parse.specs.Signs.{Sign, Number, Key, Act, Ident, Symbol}
use Rattle.qm_parse.specs.Trees.{Sum, Product, NoAdd, NoMul, Num, Nothing, Expr, ForAll, Program, ExprMay, BodyMay, SizesMay, ProgramMay}
use Rattle.qm_parse.specs.Faults.{open_behind, open_after, IsShallow}
use Rattle.qm_parse.specs.Looks.{capped, look_of}
use Rattle.qm_parse.specs.Verdicts.{is_fixed, verdict_if, stay_unless, number_verdict, open_verdict, is_rank, verdict_of}
use Rattle.qm_parse.proofs.WordLemmas.{capped-small, capped-large}
use Rattle.qm_parse.proofs.Parts.{Part, Parts, PartMay, PartsMay}
use Rattle.qm_parse.proofs.Turns.{number-may}
use Rattle.qm_parse.proofs.Stays.{GoalOk, no_tapes}
use Rattle.qm_parse.proofs.Known.{GoalsOk}

-- ---- some part of each goal
abbrev zero_expr : Expr
zero_expr = Sum (Product (Num 0) NoMul) NoAdd

zero_may : ExprMay zero_expr
zero_may = let h : 0 ≤ 2147483647 = omega arith in ((h, tt), tt)

pub record Some_part (g : Goal) : Type 0 where
  pub part : Part g
  pub may : PartMay g part

abbrev gate_verb : Verb
gate_verb = record { action = action.One one.X; operands = Some operand.Slot ∷ None ∷ None ∷ None ∷ [] }

-- one rank with one slot and a buffer of one
abbrev one_program : Version → Program
one_program v = record { version = v; ranks = 1; qubits = 1 ∷ []; buffers = 1 ∷ []; blocks = ForAll Nothing; tapes = [] }

one_size : (v : Version) (most : ℕ) → 1 ≤ most → SizesMay (size_count v 1) most (1 ∷ [])
one_size version.One most h = let a : 1 ≤ 1 = omega arith in record { count = refl; each = All-replicate (λ n. (1 ≤ n) × (n ≤ most)) 1 1 (a, h) }
one_size version.Two most h = let a : 1 ≤ 1 = omega arith in record { count = refl; each = All-replicate (λ n. (1 ≤ n) × (n ≤ most)) 1 1 (a, h) }

one_may : (v : Version) → ProgramMay (one_program v)
one_may v = let a : 1 ≤ 16 = omega arith in let b : 1 ≤ 8 = omega arith in record {
  some_ranks = omega arith;
  few_ranks = omega arith;
  qubits = one_size v 16 a;
  buffers = one_size v 8 b;
  blocks = tt;
  tapes = no_tapes 1;
}

pub some-part : (g : Goal) → GoalOk g → Some_part g
some-part (goal.Fixed f) o = record { part = tt; may = tt }
some-part (goal.Number least end w) o = let h : least ≤ least = omega arith in record { part = least; may = (h, o.0) }
some-part goal.Version o = record { part = one_program version.One; may = one_may version.One }
some-part (goal.Ranks v) o = record { part = one_program v; may = (refl, one_may v) }
some-part (goal.Numbers left end) o = let a : 1 ≤ 1 = omega arith in record { part = replicate left 1; may = (length-replicate left 1, All-replicate (λ n. (1 ≤ n) × (n < end)) left 1 (a, o.0)) }
some-part (goal.Blocks ranks) o = record { part = ForAll Nothing; may = tt }
some-part (goal.Each next ranks) o = record { part = replicate (ranks - next) Nothing; may = (length-replicate (ranks - next) Nothing, All-replicate BodyMay (ranks - next) Nothing tt) }
some-part (goal.Tapes ranks) o = record { part = []; may = no_tapes ranks }
some-part goal.Outcomes o = record { part = []; may = tt }
some-part goal.Name o = record { part = 105 ∷ []; may = tt }
some-part goal.Body o = record { part = Nothing; may = tt }
some-part goal.Braced o = record { part = Nothing; may = tt }
some-part (goal.Operands left) o = record { part = replicate left zero_expr; may = (length-replicate left zero_expr, All-replicate ExprMay left zero_expr zero_may) }
some-part goal.Gate o = record { part = record { verb = gate_verb; operands = zero_expr ∷ [] }; may = (refl, record { count = refl; operands = All-replicate ExprMay 1 zero_expr zero_may }) }
some-part goal.Prim o = let h : 0 ≤ 2147483647 = omega arith in record { part = Num 0; may = h }
some-part goal.Muls o = record { part = NoMul; may = tt }
some-part goal.Adds o = record { part = NoAdd; may = tt }
some-part (goal.Leaf w token) o = record { part = tt; may = tt }
some-part (goal.Close node) o = record { part = tt; may = tt }

pub record Some_parts (gs : List Goal) : Type 0 where
  pub parts : Parts gs
  pub may : PartsMay gs parts

pub some-parts : (gs : List Goal) → GoalsOk gs → Some_parts gs
some-parts [] o = record { parts = tt; may = tt }
some-parts (g ∷ gs) o = let p = some-part g o.0 in let q = some-parts gs o.1 in record { parts = (p.part, q.parts); may = (p.may, q.may) }

-- ---- a number that is too large
range-large : (b c : Bool) → (if b then verdict.Stop stop.NumberTooLarge else verdict_if c) ≡ verdict.Stop stop.NumberTooLarge → b ≡ true
range-large true c e = refl
range-large false true e = cc
range-large false false e = cc

if-large : {A : Type 0} (b : Bool) → verdict_if b ≡ verdict.Stop stop.NumberTooLarge → A
if-large true e = cc
if-large false e = cc

stay-large : {A : Type 0} (b : Bool) → stay_unless b ≡ verdict.Stop stop.NumberTooLarge → A
stay-large true e = cc
stay-large false e = cc

open-large : {A : Type 0} (b : Bool) → (if b then verdict.Take else verdict.Stop stop.TooDeep) ≡ verdict.Stop stop.NumberTooLarge → A
open-large true e = cc
open-large false e = cc

each-large : {A : Type 0} (b c : Bool) → (if b then verdict_if c else verdict.Stay) ≡ verdict.Stop stop.NumberTooLarge → A
each-large true c e = if-large c e
each-large false c e = cc

pub record Large (g : Goal) (t : Sign) : Type 0 where
  pub value : ℕ
  pub number : t ≡ Number value
  pub large : 2147483647 < value
  pub small : ℕ
  pub taken : verdict_of g (look_of (Number small)) 0 ≡ verdict.Take

is-large : (v least end : ℕ) → number_verdict (look.Number (capped v)) least end ≡ verdict.Stop stop.NumberTooLarge → 2147483647 < v
is-large v least end e = by_size (nat_le v 2147483647) refl
  where
    by_size : (b : Bool) → nat_le v 2147483647 ≡ b → 2147483647 < v
    by_size true k =
        let small : v ≤ 2147483647 = grind (arith, nat_tests) in
        let h : nat_lt 2147483647 v ≡ true = range-large (nat_lt 2147483647 v) (nat_le least v && nat_lt v end) (subst (λ (n : ℕ). number_verdict (look.Number n) least end ≡ verdict.Stop stop.NumberTooLarge) (capped-small v small) e) in
        grind (arith, nat_tests)
    by_size false k = grind (arith, nat_tests)

large-number : (least end : ℕ) (w : Bool) (t : Sign) → GoalOk (goal.Number least end w) → number_verdict (look_of t) least end ≡ verdict.Stop stop.NumberTooLarge → Large (goal.Number least end w) t
large-number least end w (Number v) o e = let low : least ≤ least = omega arith in
    record { value = v; number = refl; large = is-large v least end e; small = least; taken = number-may least end least low o.0 o.1 }
large-number least end w t o e = cc

large-version : (t : Sign) → number_verdict (look_of t) 1 3 ≡ verdict.Stop stop.NumberTooLarge → Large goal.Version t
large-version (Number v) e = let a : 1 ≤ 1 = omega arith in let b : 1 < 3 = omega arith in let c : 3 ≤ 2147483648 = omega arith in
    record { value = v; number = refl; large = is-large v 1 3 e; small = 1; taken = number-may 1 3 1 a b c }
large-version t e = cc

large-ranks : (w : Version) (t : Sign) → number_verdict (look_of t) 1 17 ≡ verdict.Stop stop.NumberTooLarge → Large (goal.Ranks w) t
large-ranks w (Number v) e = let a : 1 ≤ 1 = omega arith in let b : 1 < 17 = omega arith in let c : 17 ≤ 2147483648 = omega arith in
    record { value = v; number = refl; large = is-large v 1 17 e; small = 1; taken = number-may 1 17 1 a b c }
large-ranks w t e = cc

large-prim : (t : Sign) (depth : ℕ) → verdict_of goal.Prim (look_of t) depth ≡ verdict.Stop stop.NumberTooLarge → Large goal.Prim t
large-prim (Number v) depth e = let a : 0 ≤ 0 = omega arith in let b : 0 < 2147483648 = omega arith in let c : 2147483648 ≤ 2147483648 = omega arith in
    record { value = v; number = refl; large = is-large v 0 2147483648 e; small = 0; taken = number-may 0 2147483648 0 a b c }
large-prim (Symbol mark.OpenParenthesis) depth e = open-large (nat_lt depth 32) e
large-prim (Symbol m) depth e = cc
large-prim (Key keyword.Rank) depth e = cc
large-prim (Key k) depth e = cc
large-prim t depth e = cc

large-braced : (t : Sign) (depth : ℕ) → verdict_of goal.Braced (look_of t) depth ≡ verdict.Stop stop.NumberTooLarge → Large goal.Braced t
large-braced (Symbol mark.OpenBrace) depth e = open-large (nat_lt depth 32) e
large-braced (Symbol m) depth e = cc
large-braced t depth e = cc

pub stop-large : (g : Goal) (t : Sign) (depth : ℕ) → GoalOk g → verdict_of g (look_of t) depth ≡ verdict.Stop stop.NumberTooLarge → Large g t
stop-large (goal.Fixed f) t depth o e = if-large (is_fixed f (look_of t)) e
stop-large (goal.Number least end w) t depth o e = large-number least end w t o e
stop-large goal.Version t depth o e = large-version t e
stop-large (goal.Ranks v) t depth o e = large-ranks v t e
stop-large (goal.Numbers left end) t depth o e = cc
stop-large (goal.Blocks ranks) t depth o e = stay-large _ e
stop-large (goal.Each next ranks) t depth o e = each-large (nat_lt next ranks) (is_rank (look_of t)) e
stop-large (goal.Tapes ranks) t depth o e = stay-large _ e
stop-large goal.Outcomes t depth o e = if-large _ e
stop-large goal.Name t depth o e = if-large _ e
stop-large goal.Body t depth o e = stay-large _ e
stop-large goal.Braced t depth o e = large-braced t depth e
stop-large (goal.Operands left) t depth o e = cc
stop-large goal.Gate t depth o e = if-large _ e
stop-large goal.Prim t depth o e = large-prim t depth e
stop-large goal.Muls t depth o e = stay-large _ e
stop-large goal.Adds t depth o e = stay-large _ e
stop-large (goal.Leaf w token) t depth o e = cc
stop-large (goal.Close node) t depth o e = cc

-- ---- a brace or a parenthesis too many
if-deep : {A : Type 0} (b : Bool) → verdict_if b ≡ verdict.Stop stop.TooDeep → A
if-deep true e = cc
if-deep false e = cc

stay-deep : {A : Type 0} (b : Bool) → stay_unless b ≡ verdict.Stop stop.TooDeep → A
stay-deep true e = cc
stay-deep false e = cc

each-deep : {A : Type 0} (b c : Bool) → (if b then verdict_if c else verdict.Stay) ≡ verdict.Stop stop.TooDeep → A
each-deep true c e = if-deep c e
each-deep false c e = cc

number-deep : {A : Type 0} (l : Look) (least end : ℕ) → number_verdict l least end ≡ verdict.Stop stop.TooDeep → A
number-deep {A = A} (look.Number v) least end e = by_test (nat_lt 2147483647 v) e
  where
    by_test : (b : Bool) → (if b then verdict.Stop stop.NumberTooLarge else verdict_if (nat_le least v && nat_lt v end)) ≡ verdict.Stop stop.TooDeep → A
    by_test true f = cc
    by_test false f = if-deep _ f
number-deep l least end e = cc

is-deep : (depth : ℕ) → open_verdict depth ≡ verdict.Stop stop.TooDeep → 32 ≤ depth
is-deep depth e = by_test (nat_lt depth 32) refl e
  where
    by_test : (b : Bool) → nat_lt depth 32 ≡ b → (if b then verdict.Take else verdict.Stop stop.TooDeep) ≡ verdict.Stop stop.TooDeep → 32 ≤ depth
    by_test true k f = cc
    by_test false k f = grind (arith, nat_tests)

pub record Deep (g : Goal) (t : Sign) (depth : ℕ) : Type 0 where
  pub opens : (t ≡ Symbol mark.OpenBrace) ⊎ (t ≡ Symbol mark.OpenParenthesis)
  pub deep : 32 ≤ depth
  pub taken : verdict_of g (look_of t) 0 ≡ verdict.Take

deep-prim : (t : Sign) (depth : ℕ) → verdict_of goal.Prim (look_of t) depth ≡ verdict.Stop stop.TooDeep → Deep goal.Prim t depth
deep-prim (Number v) depth e = number-deep (look.Number (capped v)) 0 2147483648 e
deep-prim (Symbol mark.OpenParenthesis) depth e = record { opens = inr refl; deep = is-deep depth e; taken = refl }
deep-prim (Symbol m) depth e = cc
deep-prim (Key keyword.Rank) depth e = cc
deep-prim (Key k) depth e = cc
deep-prim t depth e = cc

deep-braced : (t : Sign) (depth : ℕ) → verdict_of goal.Braced (look_of t) depth ≡ verdict.Stop stop.TooDeep → Deep goal.Braced t depth
deep-braced (Symbol mark.OpenBrace) depth e = record { opens = inl refl; deep = is-deep depth e; taken = refl }
deep-braced (Symbol m) depth e = cc
deep-braced t depth e = cc

pub stop-deep : (g : Goal) (t : Sign) (depth : ℕ) → verdict_of g (look_of t) depth ≡ verdict.Stop stop.TooDeep → Deep g t depth
stop-deep (goal.Fixed f) t depth e = if-deep (is_fixed f (look_of t)) e
stop-deep (goal.Number least end w) t depth e = number-deep (look_of t) least end e
stop-deep goal.Version t depth e = number-deep (look_of t) 1 3 e
stop-deep (goal.Ranks v) t depth e = number-deep (look_of t) 1 17 e
stop-deep (goal.Numbers left end) t depth e = cc
stop-deep (goal.Blocks ranks) t depth e = stay-deep _ e
stop-deep (goal.Each next ranks) t depth e = each-deep (nat_lt next ranks) (is_rank (look_of t)) e
stop-deep (goal.Tapes ranks) t depth e = stay-deep _ e
stop-deep goal.Outcomes t depth e = if-deep _ e
stop-deep goal.Name t depth e = if-deep _ e
stop-deep goal.Body t depth e = stay-deep _ e
stop-deep goal.Braced t depth e = deep-braced t depth e
stop-deep (goal.Operands left) t depth e = cc
stop-deep goal.Gate t depth e = if-deep _ e
stop-deep goal.Prim t depth e = deep-prim t depth e
stop-deep goal.Muls t depth e = stay-deep _ e
stop-deep goal.Adds t depth e = stay-deep _ e
stop-deep (goal.Leaf w token) t depth e = cc
stop-deep (goal.Close node) t depth e = cc

-- ---- a token that may not stand there
open-unexpected : {A : Type 0} (b : Bool) → (if b then verdict.Take else verdict.Stop stop.TooDeep) ≡ verdict.Stop stop.Unexpected → A
open-unexpected true e = cc
open-unexpected false e = cc

pub zero-unexpected : (g : Goal) (l : Look) (depth : ℕ) → verdict_of g l depth ≡ verdict.Stop stop.Unexpected → verdict_of g l 0 ≡ verdict.Stop stop.Unexpected
zero-unexpected goal.Braced (look.Mark mark.OpenBrace) depth e = open-unexpected (nat_lt depth 32) e
zero-unexpected goal.Braced (look.Mark m) depth e = e
zero-unexpected goal.Braced l depth e = e
zero-unexpected goal.Prim (look.Mark mark.OpenParenthesis) depth e = open-unexpected (nat_lt depth 32) e
zero-unexpected goal.Prim (look.Mark m) depth e = e
zero-unexpected goal.Prim (look.Keyword keyword.Rank) depth e = e
zero-unexpected goal.Prim (look.Keyword k) depth e = e
zero-unexpected goal.Prim l depth e = e
zero-unexpected g l depth e = e

pub zero-end : (g : Goal) (depth : ℕ) (s : Stop) → verdict_of g look.End depth ≡ verdict.Stop s → verdict_of g look.End 0 ≡ verdict.Stop s
zero-end goal.Prim depth s e = e
zero-end g depth s e = e

-- a goal that stops a large number as unexpected stops each
number-large : (v least end : ℕ) → 2147483647 < v → number_verdict (look.Number (capped v)) least end ≡ verdict.Stop stop.Unexpected → ⊥
number-large v least end h e =
    let f : verdict.Stop stop.NumberTooLarge ≡ verdict.Stop stop.Unexpected = subst (λ (n : ℕ). number_verdict (look.Number n) least end ≡ verdict.Stop stop.Unexpected) (capped-large v h) e in cc

fixed-number : (f : Fixed) (n : ℕ) → is_fixed f (look.Number n) ≡ false
fixed-number fixed.Qmpi n = refl
fixed-number f n = refl

pub number-unexpected : (g : Goal) (v n : ℕ) → 2147483647 < v → verdict_of g (look.Number (capped v)) 0 ≡ verdict.Stop stop.Unexpected → verdict_of g (look.Number n) 0 ≡ verdict.Stop stop.Unexpected
number-unexpected (goal.Fixed f) v n h e = ap verdict_if (fixed-number f n)
number-unexpected (goal.Number least end w) v n h e = absurd (number-large v least end h e)
number-unexpected goal.Version v n h e = absurd (number-large v 1 3 h e)
number-unexpected (goal.Ranks w) v n h e = absurd (number-large v 1 17 h e)
number-unexpected goal.Prim v n h e = absurd (number-large v 0 2147483648 h e)
number-unexpected g v n h e = e

-- ---- no more than 32 are open
open-behind-le : (m : Mark) (n : ℕ) → n ≤ 32 → IsShallow n (Symbol m ∷ []) → open_behind m n ≤ 32
open-behind-le mark.OpenBrace n h s = let k = s.0 in omega (arith, k)
open-behind-le mark.OpenParenthesis n h s = let k = s.0 in omega (arith, k)
open-behind-le mark.CloseBrace n h s = omega arith
open-behind-le mark.CloseParenthesis n h s = omega arith
open-behind-le m n h s = h

pub open-after-le : (n : ℕ) (xs : List Sign) → n ≤ 32 → IsShallow n xs → open_after n xs ≤ 32
open-after-le n [] h s = h
open-after-le n (Symbol m ∷ xs) h s = open-after-le (open_behind m n) xs (open-behind-le m n h (s.0, tt)) s.1
open-after-le n (Number v ∷ xs) h s = open-after-le n xs h s
open-after-le n (Key k ∷ xs) h s = open-after-le n xs h s
open-after-le n (Act v ∷ xs) h s = open-after-le n xs h s
open-after-le n (Ident bytes ∷ xs) h s = open-after-le n xs h s
