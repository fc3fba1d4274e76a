-- Made trees are trees that may be, and open few braces
use Rattle.std.proofs.Common.{◌≡◌, ℕ, zero, suc, ◌+◌, ◌<◌, ◌≤◌, nat_lt, Bool, true, false, List, [], ◌∷◌, ◌++◌, length, map, Option, Some, None, refl, ap, subst, ◌∙◌, arith}
use Rattle.std.specs.Prelude.{if◌then◌else◌}
use Rattle.std.specs.List.{AllByRecursion}
use Rattle.std.proofs.lemmas.Bool.{ltb-true}
use Rattle.std.proofs.lemmas.List.{length-map}
use Rattle.std.proofs.lemmas.List.Elements.{All-from_recursion, All-replicate}
use Rattle.qm_parse.specs.declared.words.Action.{Action}
use Rattle.qm_parse.specs.declared.words.Action.TheVariants as action
use Rattle.qm_parse.specs.declared.words.Mark.{Mark}
use Rattle.qm_parse.specs.declared.words.Mark.TheVariants as mark
use Rattle.qm_parse.specs.declared.words.Verb.{Verb}
use Rattle.qm_parse.specs.Words.{operands_of}
use Rattle.qm_parse.specs.Signs.{Sign, Number, Key, Act, Ident, Symbol}
use Rattle.qm_parse.specs.Trees.{Body, Nothing, TapeLine, ExprMay, CallMay, BodyMay, StmtMay, ProgramMay}
use Rattle.qm_parse.specs.Spelling.{each_signs, tapes_signs, program_signs}
use Rattle.qm_parse.specs.Faults.{open_behind, MayOpen, IsShallow}
use Rattle.qm_gen.specs.declared.GenKind.{GenKind}
use Rattle.qm_gen.specs.declared.GenKind.TheVariants.{Ring, Ghz, Parity}
use Rattle.qm_seed.specs.Seeds.{Words}
use Rattle.qm_gen.specs.Outcomes.{words_past, outcomes}
use Rattle.qm_gen.specs.Sizes.{ranks_of, IsSize}
use Rattle.qm_gen.specs.Made.{Tape, tapes, tapes_of, numbers}
use Rattle.qm_gen.proofs.Deeds.{Deed, Alloc, Gate, Measure, WhenX, MoveTo, MoveFrom, CopyTo, CopyFrom, ReachTo, ReachFrom, stmt_of, num, call, peer_verb, deeds_then, loop_of, Part, part_body, part_of, parts, made_tree, drawn_tapes, tape_lines_in}
use Rattle.qm_gen.proofs.Expanded.{SmallPeer, SmallPeers}
use Rattle.qm_gen.proofs.RanksExpanded.{SmallParts}
use Rattle.qm_gen.proofs.MadeSigns.{head_signs, by_ghz_size, ranks-most}

-- ---- statements
-- numbers of programs
abbrev SmallNumbers : List ℕ → Type 0
SmallNumbers [] = Unit {0}
SmallNumbers (n ∷ ns) = (n ≤ 2147483647) × SmallNumbers ns

numbers-may : (ns : List ℕ) → SmallNumbers ns → AllByRecursion ExprMay (map num ns)
numbers-may [] h = tt
numbers-may (n ∷ ns) h = (((h.0, tt), tt), numbers-may ns h.1)

call-may : (v : Verb) (ns : List ℕ) → length ns ≡ length (operands_of v) → SmallNumbers ns → CallMay (call v ns)
call-may v ns count small = record { count = length-map ns num ∙ count; operands = All-from_recursion ExprMay (map num ns) (numbers-may ns small) }

none-small : 0 ≤ 2147483647
none-small = omega arith

peer-may : (a : Action) (other : ℕ) → other < 65536 → CallMay (call (peer_verb a) (0 ∷ other ∷ 1 ∷ []))
peer-may a other small =
    let one : 1 ≤ 2147483647 = omega arith in
    let few : other ≤ 2147483647 = omega arith in
    call-may (peer_verb a) (0 ∷ other ∷ 1 ∷ []) refl (none-small, (few, (one, tt)))

stmt-may : (x : Deed) → SmallPeer x → StmtMay (stmt_of x)
stmt-may Alloc small = (refl, call-may _ (0 ∷ []) refl (none-small, tt))
stmt-may (Gate g) small = (refl, call-may _ (0 ∷ []) refl (none-small, tt))
stmt-may Measure small = (refl, call-may _ (0 ∷ 0 ∷ []) refl (none-small, (none-small, tt)))
stmt-may WhenX small = (refl, call-may _ (0 ∷ []) refl (none-small, tt), refl, call-may _ (0 ∷ []) refl (none-small, tt))
stmt-may (MoveTo r) small = (refl, peer-may action.MoveTo r small)
stmt-may (MoveFrom r) small = (refl, peer-may action.MoveFrom r small)
stmt-may (CopyTo r) small = (refl, peer-may action.CopyTo r small)
stmt-may (CopyFrom r) small = (refl, peer-may action.CopyFrom r small)
stmt-may (ReachTo r) small = (refl, peer-may action.ReachTo r small)
stmt-may (ReachFrom r) small = (refl, peer-may action.ReachFrom r small)

-- ---- bodies
deeds-may : (xs : List Deed) (more : Body) → SmallPeers xs → BodyMay more → BodyMay (deeds_then xs more)
deeds-may [] more small may = may
deeds-may (x ∷ xs) more small may = (stmt-may x small.0, deeds-may xs more small.1 may)

loop-may : (size : ℕ) (xs : List Deed) → size ≤ 2147483647 → SmallPeers xs → BodyMay (loop_of size xs)
loop-may size [] few small = tt
loop-may size (x ∷ xs) few small = ((((none-small, tt), tt), ((few, tt), tt), deeds-may (x ∷ xs) Nothing small tt), tt)

bodies-may : (size : ℕ) (ps : List Part) → size ≤ 2147483647 → SmallParts ps → AllByRecursion BodyMay (map (part_body size) ps)
bodies-may size [] few small = tt
bodies-may size (p ∷ ps) few small = (deeds-may p.once (loop_of size p.again) small.0.once (loop-may size p.again few small.0.again), bodies-may size ps few small.1)

-- ---- tapes
abbrev LowTapes : ℕ → List Tape → Type 0
LowTapes ranks [] = Unit {0}
LowTapes ranks (t ∷ ts) = (t.rank < ranks) × LowTapes ranks ts

low-append : (ranks : ℕ) (ts us : List Tape) → LowTapes ranks ts → LowTapes ranks us → LowTapes ranks (ts ++ us)
low-append ranks [] us a b = b
low-append ranks (t ∷ ts) us a b = (a.0, low-append ranks ts us a.1 b)

low-numbers : (kind : GenKind) (size : ℕ) (own : Bool) (ranks from n : ℕ) → from + n ≤ ranks → LowTapes ranks (tapes_of kind size own (numbers from n))
low-numbers kind size own ranks from zero l = tt
low-numbers kind size own ranks from (suc n) l = let low : from < ranks = omega arith in (low, low-numbers kind size own ranks (from + 1) n (omega arith))

low-tapes : (kind : GenKind) (size : ℕ) → LowTapes (ranks_of kind size) (tapes kind size)
low-tapes kind size =
    let ranks = ranks_of kind size in
    low-append ranks (tapes_of kind size true (numbers 0 ranks)) (tapes_of kind size false (numbers 0 ranks)) (low-numbers kind size true ranks 0 ranks (omega arith)) (low-numbers kind size false ranks 0 ranks (omega arith))

tape-may : (ranks rank : ℕ) (own : Bool) (ms : List Bool) (more : List TapeLine) → rank < ranks → AllByRecursion (λ (t : TapeLine). t.rank < ranks) more → AllByRecursion (λ (t : TapeLine). t.rank < ranks) (tape_lines_in own rank ms ++ more)
tape-may ranks rank own [] more low h = h
tape-may ranks rank own (m ∷ ms) more low h = (low, h)

tapes-may : (ranks : ℕ) (ts : List Tape) (w : Words) → LowTapes ranks ts → AllByRecursion (λ (t : TapeLine). t.rank < ranks) (drawn_tapes ts w)
tapes-may ranks [] w low = tt
tapes-may ranks (t ∷ ts) w low = tape-may ranks t.rank t.own (outcomes t.len w) (drawn_tapes ts (words_past t.len w)) low.0 (tapes-may ranks ts (words_past t.len w) low.1)

-- ---- the tree
numbers-length : (from n : ℕ) → length (numbers from n) ≡ n
numbers-length from zero = refl
numbers-length from (suc n) = ap suc (numbers-length (from + 1) n)

pub parts-length : (kind : GenKind) (size : ℕ) → length (parts kind size) ≡ ranks_of kind size
parts-length kind size = length-map (numbers 0 (ranks_of kind size)) (part_of kind size) ∙ numbers-length 0 (ranks_of kind size)

pub ranks-least : (kind : GenKind) (size : ℕ) → IsSize kind size → 1 ≤ ranks_of kind size
ranks-least Ring size h = omega arith
ranks-least Ghz size h = let e = h.enough in omega arith
ranks-least Parity size h = omega arith

pub size-small : (kind : GenKind) (size : ℕ) → IsSize kind size → size ≤ 10000
size-small Ring size h = h.few
size-small Ghz size h = let e = h.few in omega arith
size-small Parity size h = let e = h.few in omega arith

pub made-may : (kind : GenKind) (size : ℕ) (w : Words) → IsSize kind size → SmallParts (parts kind size) → ProgramMay (made_tree kind size w)
made-may kind size w h small =
    let least = ranks-least kind size h in
    let most = ranks-most kind size h in
    let few = size-small kind size h in
    let bodies : List Body = map (part_body size) (parts kind size) in
    let one : 1 ≤ 1 = omega arith in
    let few_slots : 1 ≤ 16 = omega arith in
    let few_halves : 1 ≤ 8 = omega arith in
    record {
      some_ranks = least;
      few_ranks = omega arith;
      qubits = record { count = refl; each = All-replicate (λ n. (1 ≤ n) × (n ≤ 16)) 1 1 (one, few_slots) };
      buffers = record { count = refl; each = All-replicate (λ n. (1 ≤ n) × (n ≤ 8)) 1 1 (one, few_halves) };
      blocks = (length-map (parts kind size) (part_body size) ∙ parts-length kind size, All-from_recursion BodyMay bodies (bodies-may size (parts kind size) (omega arith) small));
      tapes = All-from_recursion (λ (t : TapeLine). t.rank < ranks_of kind size) (drawn_tapes (tapes kind size) w) (tapes-may (ranks_of kind size) (tapes kind size) w (low-tapes kind size));
    }

-- ---- open braces
may_open : Mark → ℕ → Bool
may_open mark.OpenBrace n = nat_lt n 32
may_open mark.OpenParenthesis n = nat_lt n 32
may_open _ n = true

-- how many are open behind signs; none where a 33rd is opened
depth : ℕ → List Sign → Option ℕ
depth n [] = Some n
depth n (Symbol m ∷ ts) = if may_open m n then depth (open_behind m n) ts else None
depth n (t ∷ ts) = depth n ts

may-open : (m : Mark) (n : ℕ) → may_open m n ≡ true → MayOpen m n
unfolding may_open
may-open mark.OpenBrace n h = ltb-true n 32 h
may-open mark.OpenParenthesis n h = ltb-true n 32 h
may-open mark.CloseBrace n h = tt
may-open mark.CloseParenthesis n h = tt
may-open mark.Plus n h = tt
may-open mark.Minus n h = tt
may-open mark.Times n h = tt
may-open mark.Over n h = tt
may-open mark.Rest n h = tt
may-open mark.Dots n h = tt

symbol-opens : (m : Mark) (n k : ℕ) (o : Option ℕ) → (if may_open m n then o else None) ≡ Some k → (may_open m n ≡ true) × (o ≡ Some k)
symbol-opens m n k o h = by_test (may_open m n) refl h
  where
    by_test : (b : Bool) → may_open m n ≡ b → (if b then o else None) ≡ Some k → (may_open m n ≡ true) × (o ≡ Some k)
    by_test true e d = (e, d)
    by_test false e d = cc

shallow-by : (n k : ℕ) (ss rest : List Sign) → depth n ss ≡ Some k → IsShallow k rest → IsShallow n (ss ++ rest)
unfolding depth
shallow-by n k [] rest h s = let same : k ≡ n = cc in subst (λ j. IsShallow j rest) same s
shallow-by n k (Symbol m ∷ ts) rest h s =
    let parts = symbol-opens m n k (depth (open_behind m n) ts) h in
    (may-open m n parts.0, shallow-by (open_behind m n) k ts rest parts.1 s)
shallow-by n k (Number v ∷ ts) rest h s = shallow-by n k ts rest h s
shallow-by n k (Key v ∷ ts) rest h s = shallow-by n k ts rest h s
shallow-by n k (Act v ∷ ts) rest h s = shallow-by n k ts rest h s
shallow-by n k (Ident v ∷ ts) rest h s = shallow-by n k ts rest h s

tapes-shallow : (ts : List TapeLine) → IsShallow 0 (tapes_signs ts)
tapes-shallow [] = tt
tapes-shallow (t ∷ ts) = tapes-shallow ts

ClosesAll : GenKind → ℕ → Type 0
ClosesAll kind size = depth 0 (head_signs (ranks_of kind size) ++ each_signs 0 (map (part_body size) (parts kind size))) ≡ Some 0

closes-all : (kind : GenKind) (size : ℕ) → IsSize kind size → ClosesAll kind size
unfolding ClosesAll depth may_open
closes-all Ring size h = refl
closes-all Parity size h = refl
closes-all Ghz size h = by_ghz_size (ClosesAll Ghz) refl refl refl refl refl refl refl refl refl size h.enough h.few

pub made-shallow : (kind : GenKind) (size : ℕ) (w : Words) → IsSize kind size → IsShallow 0 (program_signs (made_tree kind size w))
unfolding ClosesAll
made-shallow kind size w h =
    shallow-by 0 0 (head_signs (ranks_of kind size) ++ each_signs 0 (map (part_body size) (parts kind size))) (tapes_signs (drawn_tapes (tapes kind size) w)) (closes-all kind size h) (tapes-shallow (drawn_tapes (tapes kind size) w))
