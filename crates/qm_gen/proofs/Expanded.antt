-- The expansion of made trees
use Rattle.std.proofs.Common.{◌≡◌, ℕ, zero, suc, ◌+◌, ◌<◌, ◌≤◌, true, List, [], ◌∷◌, ◌++◌, length, map, Option, Some, None, ℤ, pos, Ok, Err, refl, sym, ap, subst, ◌∙◌, arith, append-nil}
use Rattle.std.specs.Prelude.{codes, slice_index}
use Rattle.std.proofs.lemmas.Bool.{lt-ltb, le-leb}
use Rattle.qm_instr.specs.declared.Instr.{Instr}
use Rattle.qm_parse.specs.declared.words.Action.{Action}
use Rattle.qm_parse.specs.declared.words.Action.TheVariants as action
use Rattle.qm_parse.specs.Trees.{Body, Nothing, Then, Do, For}
use Rattle.qm_parse.specs.Spelling.{stmt_signs}
use Rattle.qm_expand.specs.Steps.{Outcome, ◌>>=◌}
use Rattle.qm_expand.specs.Values.{Scope, Binding, Values, expr_value, call_values}
use Rattle.qm_expand.specs.Table.{made}
use Rattle.qm_expand.specs.Drafts.{Draft, has_operands, with_each}
use Rattle.qm_expand.specs.Expansion.{Lines, with_made_by, each_turn, turn_count, inside, body_expanded, stmt_expanded}
use Rattle.qm_gen.proofs.Deeds.{Deed, Alloc, Gate, Measure, WhenX, MoveTo, MoveFrom, CopyTo, CopyFrom, ReachTo, ReachFrom, peer_of, instr_of, stmt_of, num, call, peer_verb, deeds_then, loop_of, Part, part_body}
use Rattle.qm_gen.proofs.Growth.{Adds, adds-nothing, adds-then, adds-one, adds-turns, repeated}

-- what a body of a rank with one slot knows
abbrev pub scope : ℕ → ℕ → List Binding → Scope
scope rank ranks names = record { rank = rank; ranks = ranks; qubits = 1; names = names }

-- ---- deeds
-- the rank that a deed names is a rank that an operand may have
abbrev pub IsSmall : Option ℕ → Type 0
IsSmall None = Unit {0}
IsSmall (Some r) = r < 65536

abbrev pub SmallPeer : Deed → Type 0
SmallPeer x = IsSmall (peer_of x)

peer_values : (line rank ranks other : ℕ) (names : List Binding) (a : Action) → other < 65536 → call_values line (scope rank ranks names) (call (peer_verb a) (0 ∷ other ∷ 1 ∷ [])) ≡ Ok (record { small = 0 ∷ []; wide = other ∷ 1 ∷ [] })
peer_values line rank ranks other names a small = rw (le-leb other 2147483647 (omega arith), lt-ltb other 65536 small) refl

-- what a call makes of these operands
peer-done : (lines : Lines) (rank ranks at other : ℕ) (names : List Binding) (a : Action) (d : Draft) → other < 65536
    → stmt_expanded lines (scope rank ranks names) at (Do (call (peer_verb a) (0 ∷ other ∷ 1 ∷ []))) d
    ≡ with_made_by (lines at) (scope rank ranks names) d (made a (slice_index (0 ∷ [])) (slice_index (other ∷ 1 ∷ [])))
peer-done lines rank ranks at other names a d small =
    ap (λ (o : Outcome Values). o >>= λ v. with_made_by (lines at) (scope rank ranks names) d (made a (slice_index v.small) (slice_index v.wide))) (peer_values (lines at) rank ranks other names a small)

deed-done : (lines : Lines) (rank ranks at : ℕ) (names : List Binding) (x : Deed) (d : Draft) → SmallPeer x → stmt_expanded lines (scope rank ranks names) at (stmt_of x) d ≡ with_each (lines at) rank (instr_of x ∷ []) d
deed-done lines rank ranks at names Alloc d small = refl
deed-done lines rank ranks at names (Gate g) d small = refl
deed-done lines rank ranks at names Measure d small = refl
deed-done lines rank ranks at names WhenX d small = refl
deed-done lines rank ranks at names (MoveTo r) d small = peer-done lines rank ranks at r names action.MoveTo d small
deed-done lines rank ranks at names (MoveFrom r) d small = peer-done lines rank ranks at r names action.MoveFrom d small
deed-done lines rank ranks at names (CopyTo r) d small = peer-done lines rank ranks at r names action.CopyTo d small
deed-done lines rank ranks at names (CopyFrom r) d small = peer-done lines rank ranks at r names action.CopyFrom d small
deed-done lines rank ranks at names (ReachTo r) d small = peer-done lines rank ranks at r names action.ReachTo d small
deed-done lines rank ranks at names (ReachFrom r) d small = peer-done lines rank ranks at r names action.ReachFrom d small

deed-operands : (x : Deed) → has_operands 1 (instr_of x) ≡ true
deed-operands Alloc = refl
deed-operands (Gate g) = refl
deed-operands Measure = refl
deed-operands WhenX = refl
deed-operands (MoveTo r) = refl
deed-operands (MoveFrom r) = refl
deed-operands (CopyTo r) = refl
deed-operands (CopyFrom r) = refl
deed-operands (ReachTo r) = refl
deed-operands (ReachFrom r) = refl

adds-deed : (lines : Lines) (rank ranks at : ℕ) (names : List Binding) (x : Deed) → SmallPeer x → Adds rank (instr_of x ∷ []) 0 (stmt_expanded lines (scope rank ranks names) at (stmt_of x))
adds-deed lines rank ranks at names x small d room = deed-done lines rank ranks at names x d small ∙ adds-one (lines at) rank (instr_of x) (deed-operands x) d room

abbrev pub SmallPeers : List Deed → Type 0
SmallPeers [] = Unit {0}
SmallPeers (x ∷ xs) = SmallPeer x × SmallPeers xs

-- deeds, and then the rest of a body
adds-deeds : (lines : Lines) (rank ranks : ℕ) (names : List Binding) (xs : List Deed) (more : Body) (js : List Instr) (t : ℕ) → SmallPeers xs
    → ((at : ℕ) → Adds rank js t (body_expanded lines (scope rank ranks names) at more))
    → (at : ℕ) → Adds rank (map instr_of xs ++ js) t (body_expanded lines (scope rank ranks names) at (deeds_then xs more))
adds-deeds lines rank ranks names [] more js t small rest at = rest at
adds-deeds lines rank ranks names (x ∷ xs) more js t small rest at =
    let next : ℕ = at + length (stmt_signs (stmt_of x)) in
    let none : 0 + t ≡ t = omega arith in
    subst (λ k. Adds rank (instr_of x ∷ (map instr_of xs ++ js)) k (body_expanded lines (scope rank ranks names) at (deeds_then (x ∷ xs) more))) none
    (adds-then rank 0 t (instr_of x ∷ []) (map instr_of xs ++ js) (stmt_expanded lines (scope rank ranks names) at (stmt_of x)) (body_expanded lines (scope rank ranks names) next (deeds_then xs more))
    (adds-deed lines rank ranks at names x small.0) (adds-deeds lines rank ranks names xs more js t small.1 rest next))

-- ---- loops
abbrev pub turns_of : ℕ → List Deed → ℕ
turns_of size [] = 0
turns_of size (x ∷ xs) = size

count-is : (n : ℕ) → turn_count (pos 0) (pos n) ≡ n
count-is n = omega arith

bind-ok : {A : Type 0} (o : Outcome A) → (o >>= λ x. Ok x) ≡ o
bind-ok (Ok x) = refl
bind-ok (Err e) = refl

pub repeated-none : {A : Type 0} (n : ℕ) → repeated {A = A} n [] ≡ []
repeated-none zero = refl
repeated-none (suc n) = repeated-none n

-- one turn of a body of deeds
adds-round : (lines : Lines) (rank ranks at : ℕ) (names : List Binding) (xs : List Deed) → SmallPeers xs → Adds rank (map instr_of xs) 0 (body_expanded lines (scope rank ranks names) at (deeds_then xs Nothing))
adds-round lines rank ranks at names xs small =
    subst (λ (is : List Instr). Adds rank is 0 (body_expanded lines (scope rank ranks names) at (deeds_then xs Nothing))) (append-nil (map instr_of xs))
    (adds-deeds lines rank ranks names xs Nothing [] 0 small (λ place. adds-nothing rank) at)

num-value : (line n : ℕ) (s : Scope) → n ≤ 2147483647 → expr_value line s (num n) ≡ Ok (pos n)
num-value line n s small = rw (le-leb n 2147483647 small) refl

-- the bounds of a loop
bounds : (lines : Lines) (rank ranks at size : ℕ) (names : List Binding) (body : Body) (d : Draft) → size ≤ 2147483647
    → body_expanded lines (scope rank ranks names) at (Then (For (codes "i") (num 0) (num size) body) Nothing) d
    ≡ each_turn (lines at) (λ i e. body_expanded lines (inside (scope rank ranks names) (codes "i") i) (at + 5 + 1 + 1) body e) size (pos 0) d
bounds lines rank ranks at size names body d small =
    let turn : ℤ → Draft → Outcome Draft = λ i e. body_expanded lines (inside (scope rank ranks names) (codes "i") i) (at + 5 + 1 + 1) body e in
    let whole : Outcome ℤ → Outcome Draft = λ o. (o >>= λ end. each_turn (lines at) turn (turn_count (pos 0) end) (pos 0) d) >>= λ e. Ok e in
    ap whole (num-value (lines at) size (scope rank ranks names) small)
    ∙ bind-ok (each_turn (lines at) turn (turn_count (pos 0) (pos size)) (pos 0) d)
    ∙ ap (λ k. each_turn (lines at) turn k (pos 0) d) (count-is size)

adds-loop : (lines : Lines) (rank ranks size : ℕ) (xs : List Deed) → size ≤ 2147483647 → SmallPeers xs → (at : ℕ) → Adds rank (repeated size (map instr_of xs)) (turns_of size xs) (body_expanded lines (scope rank ranks []) at (loop_of size xs))
adds-loop lines rank ranks size [] few small at d room =
    subst (λ (is : List Instr). Adds rank is 0 (λ e. Ok e)) (sym (repeated-none size)) (adds-nothing rank) d room
adds-loop lines rank ranks size (x ∷ xs) few small at d room =
    bounds lines rank ranks at size [] (deeds_then (x ∷ xs) Nothing) d few
    ∙ adds-turns (lines at) rank (map instr_of (x ∷ xs)) (λ i e. body_expanded lines (inside (scope rank ranks []) (codes "i") i) (at + 5 + 1 + 1) (deeds_then (x ∷ xs) Nothing) e)
    (λ i. adds-round lines rank ranks (at + 5 + 1 + 1) (record { name = codes "i"; value = i } ∷ []) (x ∷ xs) small) size (pos 0) d room

-- ---- the program of a rank
abbrev pub program_of : ℕ → Part → List Instr
program_of size p = map instr_of p.once ++ repeated size (map instr_of p.again)

pub record SmallPart (p : Part) : Type 0 where
  pub once : SmallPeers p.once
  pub again : SmallPeers p.again

pub adds-part : (lines : Lines) (rank ranks size : ℕ) (p : Part) → size ≤ 2147483647 → SmallPart p → (at : ℕ) → Adds rank (program_of size p) (turns_of size p.again) (body_expanded lines (scope rank ranks []) at (part_body size p))
adds-part lines rank ranks size p few small at =
    adds-deeds lines rank ranks [] p.once (loop_of size p.again) (repeated size (map instr_of p.again)) (turns_of size p.again) small.once (adds-loop lines rank ranks size p.again few small.again) at
