-- What holds of programs, and stays so with each instruction that is added, holds behind the blocks of a text
use Rattle.std.proofs.Common.{◌≡◌, ℕ, zero, suc, ◌+◌, Bool, true, false, nat_lt, ℤ, pos, ◌+ℤ◌, List, [], ◌∷◌, length, Ok, Err, refl, if◌then◌else◌}
use Rattle.std.specs.Prelude.{slice_index}
use Rattle.qm_instr.specs.declared.Instr.{Instr}
use Rattle.qm_instr.specs.Programs.{Programs, rank_of, with_instruction, instruction_total}
use Rattle.qm_parse.specs.Trees.{Call, Body, Nothing, Then, Stmt, Do, DoUnder, For, Blocks, ForAll, ForEach}
use Rattle.qm_parse.specs.Spelling.{expr_signs, stmt_signs, body_signs}
use Rattle.qm_expand.specs.Steps.{Outcome, ◌>>=◌, OutOfRange, TooMany}
use Rattle.qm_expand.specs.Values.{Scope, expr_value, call_values}
use Rattle.qm_expand.specs.Table.{made, gate_made}
use Rattle.qm_expand.specs.Drafts.{Draft, has_operands, counted, with_made, with_each, with_turn}
use Rattle.qm_expand.specs.Expansion.{Lines, instructions_made, with_made_by, under, done, done_under, each_turn, turn_count, inside, body_expanded, stmt_expanded, rank_scope, rank_expanded, same_expanded, each_expanded, blocks_expanded}

-- the programs of a draft have this property, where there is no fault
abbrev pub Holds : (Programs → Type 0) → Outcome Draft → Type 0
Holds P (Ok e) = P e.programs
Holds P (Err f) = Unit {0}

holds-then : (P : Programs → Type 0) (o : Outcome Draft) (f : Draft → Outcome Draft) → Holds P o → ((e : Draft) → P e.programs → Holds P (f e)) → Holds P (o >>= f)
holds-then P (Ok e) f h next = next e h
holds-then P (Err e) f h next = tt

holds-value : {A : Type 0} (P : Programs → Type 0) (o : Outcome A) (f : A → Outcome Draft) → ((x : A) → Holds P (f x)) → Holds P (o >>= f)
holds-value P (Ok x) f next = next x
holds-value P (Err e) f next = tt

holds-if : (P : Programs → Type 0) (b : Bool) (o p : Outcome Draft) → (b ≡ true → Holds P o) → Holds P p → Holds P (if b then o else p)
holds-if P true o p h k = h refl
holds-if P false o p h k = k

module _ (P : Programs → Type 0)
    (more : (p : Programs) (rank : ℕ) (i : Instr) → P p → has_operands (rank_of p rank).qubits i ≡ true → nat_lt (instruction_total p) 100000 ≡ true → P (with_instruction p rank i)) where
  holds-made : (line rank : ℕ) (i : Instr) (d : Draft) → P d.programs → Holds P (with_made line rank i d)
  holds-made line rank i d h =
      holds-if P (has_operands (rank_of d.programs rank).qubits i) (counted line rank i d) (Err (OutOfRange line))
      (λ operands.
      holds-if P (nat_lt (instruction_total d.programs) 100000) (Ok (record d { programs = with_instruction d.programs rank i })) (Err (TooMany line))
      (λ room. more d.programs rank i h operands room) tt) tt

  holds-each : (line rank : ℕ) (is : List Instr) (d : Draft) → P d.programs → Holds P (with_each line rank is d)
  holds-each line rank [] d h = h
  holds-each line rank (i ∷ is) d h = holds-then P (with_made line rank i d) (with_each line rank is) (holds-made line rank i d h) (holds-each line rank is)

  holds-turn : (line : ℕ) (d : Draft) → P d.programs → Holds P (with_turn line d)
  holds-turn line d h = holds-if P (nat_lt d.turns 1000000) (Ok (record d { turns = d.turns + 1 })) (Err (TooMany line)) (λ room. h) tt

  holds-done : (line : ℕ) (s : Scope) (c : Call) (d : Draft) → P d.programs → Holds P (done line s c d)
  holds-done line s c d h =
      holds-value P (call_values line s c) (λ v. with_made_by line s d (made c.verb.action (slice_index v.small) (slice_index v.wide)))
      (λ v.
      holds-value P (instructions_made line s (made c.verb.action (slice_index v.small) (slice_index v.wide))) (λ is. with_each line s.rank is d) (λ is. holds-each line s.rank is d h))

  holds-under : (line : ℕ) (s : Scope) (c g : Call) (d : Draft) → P d.programs → Holds P (done_under line s c g d)
  holds-under line s c g d h =
      holds-value P (call_values line s c) (λ v. call_values line s g >>= λ u. with_each line s.rank (under (slice_index v.small 0) (gate_made g.verb.action (slice_index u.small))) d)
      (λ v.
      holds-value P (call_values line s g) (λ u. with_each line s.rank (under (slice_index v.small 0) (gate_made g.verb.action (slice_index u.small))) d)
      (λ u. holds-each line s.rank (under (slice_index v.small 0) (gate_made g.verb.action (slice_index u.small))) d h))

  holds-turns : (line : ℕ) (body : ℤ → Draft → Outcome Draft) → ((i : ℤ) (d : Draft) → P d.programs → Holds P (body i d)) → (n : ℕ) (i : ℤ) (d : Draft) → P d.programs → Holds P (each_turn line body n i d)
  holds-turns line body each zero i d h = h
  holds-turns line body each (suc n) i d h =
      holds-then P (with_turn line d) (λ e. body i e >>= λ f. each_turn line body n (i +ℤ pos 1) f) (holds-turn line d h)
      (λ e k. holds-then P (body i e) (λ f. each_turn line body n (i +ℤ pos 1) f) (each i e k) (λ f l. holds-turns line body each n (i +ℤ pos 1) f l))

  mutual
    holds-body : (lines : Lines) (s : Scope) (at : ℕ) (b : Body) (d : Draft) → P d.programs → Holds P (body_expanded lines s at b d)
    holds-body lines s at Nothing d h = h
    holds-body lines s at (Then first next) d h =
        holds-then P (stmt_expanded lines s at first d) (λ e. body_expanded lines s (at + length (stmt_signs first)) next e) (holds-stmt lines s at first d h) (λ e k. holds-body lines s (at + length (stmt_signs first)) next e k)

    holds-stmt : (lines : Lines) (s : Scope) (at : ℕ) (t : Stmt) (d : Draft) → P d.programs → Holds P (stmt_expanded lines s at t d)
    holds-stmt lines s at (Do c) d h = holds-done (lines at) s c d h
    holds-stmt lines s at (DoUnder c g) d h = holds-under (lines at) s c g d h
    holds-stmt lines s at (For name a b body) d h =
        let turn : ℤ → Draft → Outcome Draft = λ i e. body_expanded lines (inside s name i) (at + 5 + length (expr_signs a) + length (expr_signs b)) body e in
        holds-value P (expr_value (lines at) s a) (λ first. expr_value (lines at) s b >>= λ end. each_turn (lines at) turn (turn_count first end) first d)
        (λ first.
        holds-value P (expr_value (lines at) s b) (λ end. each_turn (lines at) turn (turn_count first end) first d)
        (λ end.
        holds-turns (lines at) turn (λ i e k. holds-body lines (inside s name i) (at + 5 + length (expr_signs a) + length (expr_signs b)) body e k) (turn_count first end) first d h))

  holds-same : (lines : Lines) (at : ℕ) (b : Body) (n rank : ℕ) (d : Draft) → P d.programs → Holds P (same_expanded lines at b n rank d)
  holds-same lines at b zero rank d h = h
  holds-same lines at b (suc n) rank d h =
      holds-then P (rank_expanded lines rank at b d) (λ e. same_expanded lines at b n (rank + 1) e) (holds-body lines (rank_scope d.programs rank) at b d h) (λ e k. holds-same lines at b n (rank + 1) e k)

  holds-bodies : (lines : Lines) (at : ℕ) (bs : List Body) (rank : ℕ) (d : Draft) → P d.programs → Holds P (each_expanded lines at bs rank d)
  holds-bodies lines at [] rank d h = h
  holds-bodies lines at (b ∷ bs) rank d h =
      holds-then P (rank_expanded lines rank (at + 2) b d) (λ e. each_expanded lines (at + 3 + length (body_signs b)) bs (rank + 1) e) (holds-body lines (rank_scope d.programs rank) (at + 2) b d h)
      (λ e k. holds-bodies lines (at + 3 + length (body_signs b)) bs (rank + 1) e k)

  pub holds-blocks : (lines : Lines) (at ranks : ℕ) (b : Blocks) (d : Draft) → P d.programs → Holds P (blocks_expanded lines at ranks b d)
  holds-blocks lines at ranks (ForAll body) d h = holds-same lines (at + 1) body ranks 0 d h
  holds-blocks lines at ranks (ForEach bodies) d h = holds-bodies lines at bodies 0 d h
