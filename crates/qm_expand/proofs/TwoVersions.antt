-- What a text makes in version 1 it makes in version 2 with the same sizes, wherever its tokens stand
use Rattle.std.proofs.Common.{◌≡◌, ◌∙◌, ℕ, zero, suc, ◌+◌, Bool, true, false, nat_le, nat_lt, ℤ, pos, negsuc, ◌+ℤ◌, List, [], ◌∷◌, length, Option, Some, None, Ok, Err, refl, sym, ap, subst, if◌then◌else◌}
use Rattle.std.specs.Prelude.{slice_index, unsigned_abs}
use Rattle.qm_instr.specs.declared.Instr.{Instr}
use Rattle.qm_instr.specs.Programs.{Programs, rank_of, with_instruction, instruction_total}
use Rattle.qm_parse.specs.declared.words.Operand.{Operand}
use Rattle.qm_parse.specs.Words.{operands_of}
use Rattle.qm_parse.specs.Nodes.{add_what, mul_what}
use Rattle.qm_parse.specs.Trees.{Expr, Sum, Adds, NoAdd, Add, Term, Product, Muls, NoMul, Mul, Prim, Num, Name, Rank, Size, Paren, Call, Body, Nothing, Then, Stmt, Do, DoUnder, For, Blocks, ForAll, ForEach, TapeLine}
use Rattle.qm_parse.specs.Spelling.{expr_signs, stmt_signs, body_signs}
use Rattle.qm_expand.specs.declared.made.Operation.{Operation}
use Rattle.qm_expand.specs.declared.made.Operation.TheVariants as operation
use Rattle.qm_expand.specs.Steps.{Outcome, ◌>>=◌, UnknownName, OutOfRange, TooMany}
use Rattle.qm_expand.specs.Values.{Scope, Values, with_value, ranged, known, computed, result_of, bound, limit, within, expr_value, adds_value, term_value, muls_value, prim_value, operands_values, call_values}
use Rattle.qm_expand.specs.Table.{made, gate_made}
use Rattle.qm_expand.specs.Drafts.{Draft, draft, has_operands, counted, with_made, with_each, with_turn, with_outcomes}
use Rattle.qm_expand.specs.Expansion.{Lines, can_be_called, part_of, instructions_made, with_made_by, under, done, done_under, each_turn, turn_count, inside, body_expanded, stmt_expanded, rank_scope, rank_expanded, same_expanded, each_expanded, blocks_expanded, with_tapes}

-- ---- values
-- the second is the same, where the first has no fault
abbrev pub Follows : {A : Type 0} → Outcome A → Outcome A → Type 0
Follows (Ok x) u = u ≡ Ok x
Follows (Err e) u = Unit {0}

follows-then : {A B : Type 0} (o u : Outcome A) (f g : A → Outcome B) → Follows o u → ((x : A) → Follows (f x) (g x)) → Follows (o >>= f) (u >>= g)
follows-then (Ok x) u f g h k = subst (λ z. Follows (f x) (z >>= g)) (sym h) (k x)
follows-then (Err e) u f g h k = tt

follows-if : {A : Type 0} (b : Bool) (o u p q : Outcome A) → Follows o u → Follows p q → Follows (if b then o else p) (if b then u else q)
follows-if true o u p q h k = h
follows-if false o u p q h k = k

ranged-follows : (l k : ℕ) (z : ℤ) → Follows (ranged l z) (ranged k z)
ranged-follows l k z = follows-if (nat_le (unsigned_abs z) 2147483647) (Ok z) (Ok z) (Err (OutOfRange l)) (Err (OutOfRange k)) refl tt

computed-follows : (l k : ℕ) (o : Option ℤ) → Follows (known (Outcome ℤ) (Err (OutOfRange l)) (ranged l) o) (known (Outcome ℤ) (Err (OutOfRange k)) (ranged k) o)
computed-follows l k None = tt
computed-follows l k (Some z) = ranged-follows l k z

named-follows : (l k : ℕ) (o : Option ℤ) → Follows (known (Outcome ℤ) (Err (UnknownName l)) (ranged l) o) (known (Outcome ℤ) (Err (UnknownName k)) (ranged k) o)
named-follows l k None = tt
named-follows l k (Some z) = ranged-follows l k z

module _ (l k : ℕ) (s : Scope) where
  mutual
    expr-follows : (e : Expr) → Follows (expr_value l s e) (expr_value k s e)
    expr-follows (Sum t more) =
        follows-then (term_value l s t) (term_value k s t) (λ left. adds_value l s left more) (λ left. adds_value k s left more) (term-follows t) (λ left. adds-follows left more)

    adds-follows : (left : ℤ) (a : Adds) → Follows (adds_value l s left a) (adds_value k s left a)
    adds-follows left NoAdd = refl
    adds-follows left (Add op t more) =
        follows-then (term_value l s t) (term_value k s t)
        (λ right. computed l (add_what op) left right >>= λ z. adds_value l s z more) (λ right. computed k (add_what op) left right >>= λ z. adds_value k s z more) (term-follows t)
        (λ right.
        follows-then (computed l (add_what op) left right) (computed k (add_what op) left right) (λ z. adds_value l s z more) (λ z. adds_value k s z more)
        (computed-follows l k (result_of (add_what op) left right)) (λ z. adds-follows z more))

    term-follows : (t : Term) → Follows (term_value l s t) (term_value k s t)
    term-follows (Product p more) =
        follows-then (prim_value l s p) (prim_value k s p) (λ left. muls_value l s left more) (λ left. muls_value k s left more) (prim-follows p) (λ left. muls-follows left more)

    muls-follows : (left : ℤ) (m : Muls) → Follows (muls_value l s left m) (muls_value k s left m)
    muls-follows left NoMul = refl
    muls-follows left (Mul op p more) =
        follows-then (prim_value l s p) (prim_value k s p)
        (λ right. computed l (mul_what op) left right >>= λ z. muls_value l s z more) (λ right. computed k (mul_what op) left right >>= λ z. muls_value k s z more) (prim-follows p)
        (λ right.
        follows-then (computed l (mul_what op) left right) (computed k (mul_what op) left right) (λ z. muls_value l s z more) (λ z. muls_value k s z more)
        (computed-follows l k (result_of (mul_what op) left right)) (λ z. muls-follows z more))

    prim-follows : (p : Prim) → Follows (prim_value l s p) (prim_value k s p)
    prim-follows (Num v) = ranged-follows l k (pos v)
    prim-follows (Name bytes) = named-follows l k (bound s.names bytes)
    prim-follows Rank = ranged-follows l k (pos s.rank)
    prim-follows Size = ranged-follows l k (pos s.ranks)
    prim-follows (Paren e) = expr-follows e

  within-follows : (most : ℕ) (z : ℤ) → Follows (within l most z) (within k most z)
  within-follows most (pos n) = follows-if (nat_lt n most) (Ok n) (Ok n) (Err (OutOfRange l)) (Err (OutOfRange k)) refl tt
  within-follows most (negsuc n) = tt

  operands-follow : (ks : List Operand) (es : List Expr) (v : Values) → Follows (operands_values l s ks es v) (operands_values k s ks es v)
  operands-follow [] es v = refl
  operands-follow (o ∷ os) [] v = refl
  operands-follow (o ∷ os) (e ∷ es) v =
      follows-then (expr_value l s e) (expr_value k s e)
      (λ z. within l (limit s o) z >>= λ n. operands_values l s os es (with_value o n v)) (λ z. within k (limit s o) z >>= λ n. operands_values k s os es (with_value o n v)) (expr-follows e)
      (λ z.
      follows-then (within l (limit s o) z) (within k (limit s o) z) (λ n. operands_values l s os es (with_value o n v)) (λ n. operands_values k s os es (with_value o n v))
      (within-follows (limit s o) z) (λ n. operands-follow os es (with_value o n v)))

  call-follows : (c : Call) → Follows (call_values l s c) (call_values k s c)
  call-follows c = operands-follow (operands_of c.verb) c.operands (record { small = []; wide = [] })

  instructions-follow : (m : Operation) → Follows (instructions_made l s m) (instructions_made k s m)
  instructions-follow (operation.Core i) = refl
  instructions-follow (operation.Shared c) =
      follows-if (can_be_called s.ranks c) (Ok (part_of c s.rank s.ranks)) (Ok (part_of c s.rank s.ranks)) (Err (OutOfRange l)) (Err (OutOfRange k)) refl tt
  instructions-follow operation.Nothing = refl

-- ---- drafts
-- the same programs with the version 2
abbrev pub as_two : Programs → Programs
as_two p = record p { version = 2 }

abbrev two : Draft → Draft
two d = record d { programs = as_two d.programs }

abbrev Goes : Outcome Draft → Outcome Draft → Type 0
Goes (Ok d) u = u ≡ Ok (two d)
Goes (Err e) u = Unit {0}

goes-then : (o u : Outcome Draft) (f g : Draft → Outcome Draft) → Goes o u → ((d : Draft) → Goes (f d) (g (two d))) → Goes (o >>= f) (u >>= g)
goes-then (Ok d) u f g h k = subst (λ z. Goes (f d) (z >>= g)) (sym h) (k d)
goes-then (Err e) u f g h k = tt

goes-value : {A : Type 0} (o u : Outcome A) (f g : A → Outcome Draft) → Follows o u → ((x : A) → Goes (f x) (g x)) → Goes (o >>= f) (u >>= g)
goes-value (Ok x) u f g h k = subst (λ z. Goes (f x) (z >>= g)) (sym h) (k x)
goes-value (Err e) u f g h k = tt

goes-if : (b : Bool) (o u p q : Outcome Draft) → Goes o u → Goes p q → Goes (if b then o else p) (if b then u else q)
goes-if true o u p q h k = h
goes-if false o u p q h k = k

goes-made : (l k rank : ℕ) (i : Instr) (d : Draft) → Goes (with_made l rank i d) (with_made k rank i (two d))
goes-made l k rank i d =
    let e : Draft = record d { programs = with_instruction d.programs rank i } in
    goes-if (has_operands (rank_of d.programs rank).qubits i) (counted l rank i d) (counted k rank i (two d)) (Err (OutOfRange l)) (Err (OutOfRange k))
    (goes-if (nat_lt (instruction_total d.programs) 100000) (Ok e) (Ok (two e)) (Err (TooMany l)) (Err (TooMany k)) refl tt) tt

goes-each : (l k rank : ℕ) (is : List Instr) (d : Draft) → Goes (with_each l rank is d) (with_each k rank is (two d))
goes-each l k rank [] d = refl
goes-each l k rank (i ∷ is) d =
    goes-then (with_made l rank i d) (with_made k rank i (two d)) (with_each l rank is) (with_each k rank is) (goes-made l k rank i d) (goes-each l k rank is)

goes-turn : (l k : ℕ) (d : Draft) → Goes (with_turn l d) (with_turn k (two d))
goes-turn l k d =
    let e : Draft = record d { turns = d.turns + 1 } in
    goes-if (nat_lt d.turns 1000000) (Ok e) (Ok (two e)) (Err (TooMany l)) (Err (TooMany k)) refl tt

goes-by : (l k : ℕ) (s : Scope) (d : Draft) (m : Operation) → Goes (with_made_by l s d m) (with_made_by k s (two d) m)
goes-by l k s d m =
    goes-value (instructions_made l s m) (instructions_made k s m) (λ is. with_each l s.rank is d) (λ is. with_each k s.rank is (two d)) (instructions-follow l k s m) (λ is. goes-each l k s.rank is d)

goes-done : (l k : ℕ) (s : Scope) (c : Call) (d : Draft) → Goes (done l s c d) (done k s c (two d))
goes-done l k s c d =
    goes-value (call_values l s c) (call_values k s c)
    (λ v. with_made_by l s d (made c.verb.action (slice_index v.small) (slice_index v.wide))) (λ v. with_made_by k s (two d) (made c.verb.action (slice_index v.small) (slice_index v.wide)))
    (call-follows l k s c) (λ v. goes-by l k s d (made c.verb.action (slice_index v.small) (slice_index v.wide)))

goes-under : (l k : ℕ) (s : Scope) (c g : Call) (d : Draft) → Goes (done_under l s c g d) (done_under k s c g (two d))
goes-under l k s c g d =
    goes-value (call_values l s c) (call_values k s c)
    (λ v. call_values l s g >>= λ u. with_each l s.rank (under (slice_index v.small 0) (gate_made g.verb.action (slice_index u.small))) d)
    (λ v. call_values k s g >>= λ u. with_each k s.rank (under (slice_index v.small 0) (gate_made g.verb.action (slice_index u.small))) (two d))
    (call-follows l k s c)
    (λ v.
    goes-value (call_values l s g) (call_values k s g)
    (λ u. with_each l s.rank (under (slice_index v.small 0) (gate_made g.verb.action (slice_index u.small))) d)
    (λ u. with_each k s.rank (under (slice_index v.small 0) (gate_made g.verb.action (slice_index u.small))) (two d))
    (call-follows l k s g)
    (λ u. goes-each l k s.rank (under (slice_index v.small 0) (gate_made g.verb.action (slice_index u.small))) d))

goes-turns : (l k : ℕ) (f g : ℤ → Draft → Outcome Draft) → ((i : ℤ) (d : Draft) → Goes (f i d) (g i (two d))) → (n : ℕ) (i : ℤ) (d : Draft) → Goes (each_turn l f n i d) (each_turn k g n i (two d))
goes-turns l k f g each zero i d = refl
goes-turns l k f g each (suc n) i d =
    goes-then (with_turn l d) (with_turn k (two d)) (λ e. f i e >>= λ x. each_turn l f n (i +ℤ pos 1) x) (λ e. g i e >>= λ x. each_turn k g n (i +ℤ pos 1) x) (goes-turn l k d)
    (λ e. goes-then (f i e) (g i (two e)) (λ x. each_turn l f n (i +ℤ pos 1) x) (λ x. each_turn k g n (i +ℤ pos 1) x) (each i e) (λ x. goes-turns l k f g each n (i +ℤ pos 1) x))

module _ (lines others : Lines) where
  mutual
    goes-body : (s : Scope) (at to : ℕ) (b : Body) (d : Draft) → Goes (body_expanded lines s at b d) (body_expanded others s to b (two d))
    goes-body s at to Nothing d = refl
    goes-body s at to (Then first more) d =
        goes-then (stmt_expanded lines s at first d) (stmt_expanded others s to first (two d))
        (λ e. body_expanded lines s (at + length (stmt_signs first)) more e) (λ e. body_expanded others s (to + length (stmt_signs first)) more e)
        (goes-stmt s at to first d) (λ e. goes-body s (at + length (stmt_signs first)) (to + length (stmt_signs first)) more e)

    goes-stmt : (s : Scope) (at to : ℕ) (t : Stmt) (d : Draft) → Goes (stmt_expanded lines s at t d) (stmt_expanded others s to t (two d))
    goes-stmt s at to (Do c) d = goes-done (lines at) (others to) s c d
    goes-stmt s at to (DoUnder c g) d = goes-under (lines at) (others to) s c g d
    goes-stmt s at to (For name a b body) d =
        let f : ℤ → Draft → Outcome Draft = λ i e. body_expanded lines (inside s name i) (at + 5 + length (expr_signs a) + length (expr_signs b)) body e in
        let g : ℤ → Draft → Outcome Draft = λ i e. body_expanded others (inside s name i) (to + 5 + length (expr_signs a) + length (expr_signs b)) body e in
        goes-value (expr_value (lines at) s a) (expr_value (others to) s a)
        (λ first. expr_value (lines at) s b >>= λ end. each_turn (lines at) f (turn_count first end) first d)
        (λ first. expr_value (others to) s b >>= λ end. each_turn (others to) g (turn_count first end) first (two d))
        (expr-follows (lines at) (others to) s a)
        (λ first.
        goes-value (expr_value (lines at) s b) (expr_value (others to) s b)
        (λ end. each_turn (lines at) f (turn_count first end) first d) (λ end. each_turn (others to) g (turn_count first end) first (two d))
        (expr-follows (lines at) (others to) s b)
        (λ end.
        goes-turns (lines at) (others to) f g
        (λ i e. goes-body (inside s name i) (at + 5 + length (expr_signs a) + length (expr_signs b)) (to + 5 + length (expr_signs a) + length (expr_signs b)) body e)
        (turn_count first end) first d))

  goes-same : (at to : ℕ) (b : Body) (n rank : ℕ) (d : Draft) → Goes (same_expanded lines at b n rank d) (same_expanded others to b n rank (two d))
  goes-same at to b zero rank d = refl
  goes-same at to b (suc n) rank d =
      goes-then (rank_expanded lines rank at b d) (rank_expanded others rank to b (two d))
      (λ e. same_expanded lines at b n (rank + 1) e) (λ e. same_expanded others to b n (rank + 1) e)
      (goes-body (rank_scope d.programs rank) at to b d) (λ e. goes-same at to b n (rank + 1) e)

  goes-bodies : (at to : ℕ) (bs : List Body) (rank : ℕ) (d : Draft) → Goes (each_expanded lines at bs rank d) (each_expanded others to bs rank (two d))
  goes-bodies at to [] rank d = refl
  goes-bodies at to (b ∷ bs) rank d =
      goes-then (rank_expanded lines rank (at + 2) b d) (rank_expanded others rank (to + 2) b (two d))
      (λ e. each_expanded lines (at + 3 + length (body_signs b)) bs (rank + 1) e) (λ e. each_expanded others (to + 3 + length (body_signs b)) bs (rank + 1) e)
      (goes-body (rank_scope d.programs rank) (at + 2) (to + 2) b d) (λ e. goes-bodies (at + 3 + length (body_signs b)) (to + 3 + length (body_signs b)) bs (rank + 1) e)

  goes-blocks : (at to ranks : ℕ) (b : Blocks) (d : Draft) → Goes (blocks_expanded lines at ranks b d) (blocks_expanded others to ranks b (two d))
  goes-blocks at to ranks (ForAll body) d = goes-same (at + 1) (to + 1) body ranks 0 d
  goes-blocks at to ranks (ForEach bodies) d = goes-bodies at to bodies 0 d

  tapes-two : (ts : List TapeLine) (p : Programs) → with_tapes ts (as_two p) ≡ as_two (with_tapes ts p)
  tapes-two [] p = refl
  tapes-two (t ∷ ts) p = tapes-two ts (with_outcomes t.own t.rank t.outcomes p)

  -- what the blocks and the tape lines make
  pub same-made : (at to ranks : ℕ) (b : Blocks) (ts : List TapeLine) (p q : Programs)
      → (blocks_expanded lines at ranks b (draft p 0) >>= λ d. Ok (with_tapes ts d.programs)) ≡ Ok q
      → (blocks_expanded others to ranks b (draft (as_two p) 0) >>= λ d. Ok (with_tapes ts d.programs)) ≡ Ok (as_two q)
  same-made at to ranks b ts p q e = by_made (blocks_expanded lines at ranks b (draft p 0)) (blocks_expanded others to ranks b (draft (as_two p) 0)) (goes-blocks at to ranks b (draft p 0)) e
    where
      by_made : (o u : Outcome Draft) → Goes o u → (o >>= λ d. Ok (with_tapes ts d.programs)) ≡ Ok q → (u >>= λ d. Ok (with_tapes ts d.programs)) ≡ Ok (as_two q)
      by_made (Err f) u h k = cc
      by_made (Ok d) u h k =
          let same : with_tapes ts d.programs ≡ q = cc in
          ap (λ o. o >>= λ d. Ok (with_tapes ts d.programs)) h
          ∙ ap (λ (x : Programs). Ok x) (tapes-two ts d.programs ∙ ap as_two same)
