-- The walk over the nodes of instructions, loops and bodies
use Rattle.std.proofs.Common.{◌≡◌, ◌∙◌, ℕ, zero, suc, ◌+◌, ◌-◌, ◌≤◌, min, ℤ, pos, ◌+ℤ◌, true, false, List, [], ◌++◌, length, take, drop, Ok, Err, refl, sym, ap, arith, append_assoc, length-append}
use Rattle.std.specs.Prelude.{slice_index}
use Rattle.std.proofs.Math.Seq.{drop-append_seam, take-append_seam}
use Rattle.std.proofs.lemmas.List.{append-nil}
use Rattle.qm_parse.specs.declared.tree.Node.{Node}
use Rattle.qm_parse.specs.declared.tree.What.{What}
use Rattle.qm_parse.specs.declared.tree.What.TheVariants as what
use Rattle.qm_parse.specs.declared.words.Action.{Action}
use Rattle.qm_parse.specs.declared.words.Action.TheVariants as action
use Rattle.qm_parse.specs.Words.{takes_gate}
use Rattle.qm_parse.specs.Trees.{Call, Body, Nothing, Then, Stmt, Do, DoUnder, For, CallMay, BodyMay, StmtMay}
use Rattle.qm_parse.specs.Spelling.{expr_signs, operands_signs, call_signs, body_signs, stmt_signs}
use Rattle.qm_parse.specs.Nodes.{around, operand_nodes, operands_nodes, call_nodes, body_nodes, stmt_nodes}
use Rattle.qm_expand.specs.Steps.{Outcome, ◌>>=◌}
use Rattle.qm_expand.specs.Values.{Scope, no_values, expr_value, call_values}
use Rattle.qm_expand.specs.Table.{made, gate_made}
use Rattle.qm_expand.specs.Drafts.{Draft, with_each, with_turn}
use Rattle.qm_expand.specs.declared.made.Operation.TheVariants as operation
use Rattle.qm_expand.specs.Expansion.{with_made_by, under, done, done_under, each_turn, turn_count, inside, body_expanded, stmt_expanded}
use Rattle.qm_expand.specs.Walk.{Words, Valued, Gathered, value_at, gathered_all, gated_by, gated, finished, called_by, called, stepped, own_len, walk}
use Rattle.qm_expand.proofs.StepLemmas.{bind-assoc, bind-same}
use Rattle.qm_expand.proofs.SignLemmas.{Says, says-at, says-split}
use Rattle.qm_expand.proofs.ExprWalk.{operand-valued, gathered-values}

-- ---- instructions
when-made : (a : Action) (s w : ℕ → ℕ) → takes_gate a ≡ true → made a s w ≡ operation.Nothing
when-made action.When s w e = refl
when-made a s w e = cc

module _ (words : Words) (s : Scope) where
  finished-made : (line : ℕ) (own : List Node) (d : Draft) (g : Gathered) (a : Action) (x y : ℕ → ℕ) → takes_gate a ≡ false
      → finished words line s own d g (made a x y) ≡ with_made_by line s d (made a x y)
  finished-made line own d g action.When x y e = cc
  finished-made line own d g a x y e = refl

  -- a node with this token around others
  abbrev node : What → ℕ → ℕ → List Node → Node
  node w at base inner = record { what = w; token = at; value = 0; stop = base + 1 + length inner }

  gathered-call : (line at base : ℕ) (c : Call) (rest : List Node) → CallMay c → Says words at (operands_signs c.operands)
      → gathered_all words line s (operands_nodes at base c.operands ++ rest) c.verb.operands
      ≡ (call_values line s c >>= λ v. Ok (record { values = v; used = length (operands_nodes at base c.operands) }))
  gathered-call line at base c rest m h =
      gathered-values words line s c.verb.operands c.operands at base (operands_nodes at base c.operands ++ rest) rest (record { values = no_values; used = 0 }) m.count refl h
      ∙ ap (λ n. call_values line s c >>= λ v. Ok (record { values = v; used = n }))
      (let e : 0 + length (operands_nodes at base c.operands) ≡ length (operands_nodes at base c.operands) = omega arith in e)

  gathered-alone : (line at base : ℕ) (c : Call) → CallMay c → Says words at (operands_signs c.operands)
      → gathered_all words line s (operands_nodes at base c.operands) c.verb.operands
      ≡ (call_values line s c >>= λ v. Ok (record { values = v; used = length (operands_nodes at base c.operands) }))
  gathered-alone line at base c m h =
      ap (λ xs. gathered_all words line s xs c.verb.operands) (sym (append-nil (operands_nodes at base c.operands))) ∙ gathered-call line at base c [] m h

  called-do : (at base : ℕ) (c : Call) (stop : ℕ) (d : Draft) → takes_gate c.verb.action ≡ false → CallMay c → Says words at (call_signs c)
      → called words s (record { what = what.Instr; token = at; value = 0; stop = stop }) (operands_nodes (at + 1) (base + 1) c.operands) d ≡ done (words.lines at) s c d
  called-do at base c stop d t m h =
      let own = operands_nodes (at + 1) (base + 1) c.operands in
      let line = words.lines at in
      let end : Gathered → Outcome Draft = λ g. finished words line s own d g (made c.verb.action (slice_index g.values.small) (slice_index g.values.wide)) in
      ap (called_by words line s own d) h.0
      ∙ ap (λ o. o >>= end) (gathered-alone line (at + 1) (base + 1) c m h.1)
      ∙ bind-assoc (call_values line s c) (λ v. Ok (record { values = v; used = length own })) end
      ∙ bind-same (call_values line s c) (λ v. end (record { values = v; used = length own }))
      (λ v. with_made_by line s d (made c.verb.action (slice_index v.small) (slice_index v.wide)))
      (λ v. finished-made line own d (record { values = v; used = length own }) c.verb.action (slice_index v.small) (slice_index v.wide) t)

  gated-call : (line bit at base : ℕ) (g : Call) (d : Draft) → CallMay g → Says words at (call_signs g)
      → gated words line s bit (call_nodes at base g) d
      ≡ (call_values line s g >>= λ u. with_each line s.rank (under bit (gate_made g.verb.action (slice_index u.small))) d)
  gated-call line bit at base g d m h =
      let own = operands_nodes (at + 1) (base + 1) g.operands in
      let end : Gathered → Outcome Draft = λ u. with_each line s.rank (under bit (gate_made g.verb.action (slice_index u.values.small))) d in
      ap (gated_by words line s bit own d) h.0
      ∙ ap (λ o. o >>= end) (gathered-alone line (at + 1) (base + 1) g m h.1)
      ∙ bind-assoc (call_values line s g) (λ u. Ok (record { values = u; used = length own })) end

  called-under : (at base : ℕ) (c g : Call) (stop : ℕ) (d : Draft) → takes_gate c.verb.action ≡ true → CallMay c → CallMay g → Says words at (call_signs c ++ call_signs g)
      → let own = operands_nodes (at + 1) (base + 1) c.operands in
      called words s (record { what = what.Instr; token = at; value = 0; stop = stop }) (own ++ call_nodes (at + length (call_signs c)) (base + 1 + length own) g) d
      ≡ done_under (words.lines at) s c g d
  called-under at base c g stop d t m n h =
      let own = operands_nodes (at + 1) (base + 1) c.operands in
      let gate = call_nodes (at + length (call_signs c)) (base + 1 + length own) g in
      let line = words.lines at in
      let w = says-split words (call_signs c) (call_signs g) at h in
      let end : Gathered → Outcome Draft = λ g. finished words line s (own ++ gate) d g (made c.verb.action (slice_index g.values.small) (slice_index g.values.wide)) in
      ap (called_by words line s (own ++ gate) d) w.0.0
      ∙ ap (λ o. o >>= end) (gathered-call line (at + 1) (base + 1) c gate m w.0.1)
      ∙ bind-assoc (call_values line s c) (λ v. Ok (record { values = v; used = length own })) end
      ∙ bind-same (call_values line s c) (λ v. end (record { values = v; used = length own }))
      (λ v. call_values line s g >>= λ u. with_each line s.rank (under (slice_index v.small 0) (gate_made g.verb.action (slice_index u.small))) d)
      (λ v.
      ap (finished words line s (own ++ gate) d (record { values = v; used = length own })) (when-made c.verb.action (slice_index v.small) (slice_index v.wide) t)
      ∙ ap (λ xs. gated words line s (slice_index v.small 0) xs d) (drop-append_seam own gate)
      ∙ gated-call line (slice_index v.small 0) (at + length (call_signs c)) (base + 1 + length own) g d n w.1)

-- ---- loops
each_turn-same : (line : ℕ) (f g : ℤ → Draft → Outcome Draft) → ((i : ℤ) (d : Draft) → f i d ≡ g i d) → (n : ℕ) (i : ℤ) (d : Draft) → each_turn line f n i d ≡ each_turn line g n i d
each_turn-same line f g h zero i d = refl
each_turn-same line f g h (suc n) i d =
    bind-same (with_turn line d) (λ e. f i e >>= λ k. each_turn line f n (i +ℤ pos 1) k) (λ e. g i e >>= λ k. each_turn line g n (i +ℤ pos 1) k)
    (λ e. ap (λ o. o >>= λ k. each_turn line f n (i +ℤ pos 1) k) (h i e) ∙ bind-same (g i e) (λ k. each_turn line f n (i +ℤ pos 1) k) (λ k. each_turn line g n (i +ℤ pos 1) k) (λ k. each_turn-same line f g h n (i +ℤ pos 1) k))

-- both bounds, and what follows
bounds-step : (a b : Outcome ℤ) (l m : ℕ) (end : ℕ → Outcome Valued) (turns : Valued → Valued → Outcome Draft) (more : ℤ → ℤ → Outcome Draft)
    → end l ≡ (b >>= λ y. Ok (record { value = y; used = m })) → ((x y : ℤ) → turns (record { value = x; used = l }) (record { value = y; used = m }) ≡ more x y)
    → ((a >>= λ x. Ok (record { value = x; used = l })) >>= λ (v : Valued). end v.used >>= λ w. turns v w) ≡ (a >>= λ x. b >>= λ y. more x y)
bounds-step (Err f) b l m end turns more e h = refl
bounds-step (Ok x) b l m end turns more e h =
    ap (λ o. o >>= λ w. turns (record { value = x; used = l }) w) e
    ∙ bind-assoc b (λ y. Ok (record { value = y; used = m })) (λ w. turns (record { value = x; used = l }) w)
    ∙ bind-same b (λ y. turns (record { value = x; used = l }) (record { value = y; used = m })) (λ y. more x y) (h x)

-- ---- bodies
-- every statement is a node around others
abbrev stmt_what : Stmt → What
stmt_what (Do c) = what.Instr
stmt_what (DoUnder c g) = what.Instr
stmt_what (For name a b body) = what.For

abbrev stmt_inner : (at base : ℕ) → Stmt → List Node
stmt_inner at base (Do c) = operands_nodes (at + 1) (base + 1) c.operands
stmt_inner at base (DoUnder c g) =
    let own = operands_nodes (at + 1) (base + 1) c.operands in own ++ call_nodes (at + length (call_signs c)) (base + 1 + length own) g
stmt_inner at base (For name a b body) =
    let first = operand_nodes (at + 3) (base + 1) a in
    let end = operand_nodes (at + 4 + length (expr_signs a)) (base + 1 + length first) b in
    first ++ end ++ body_nodes (at + 5 + length (expr_signs a) + length (expr_signs b)) (base + 1 + length first + length end) body

stmt-around : (at base : ℕ) (s : Stmt) → stmt_nodes at base s ≡ around (stmt_what s) at base (stmt_inner at base s)
stmt-around at base (Do c) = refl
stmt-around at base (DoUnder c g) = refl
stmt-around at base (For name a b body) = refl

module _ (words : Words) where
  walk-around : (m : ℕ) (s : Scope) (w : What) (at base : ℕ) (inner more : List Node) (d : Draft)
      → walk words (suc m) s base (around w at base inner ++ more) d
      ≡ (stepped words (walk words m) s (base + 1) (node words s w at base inner) inner d >>= λ e. walk words m s (base + 1 + length inner) more e)
  walk-around m s w at base inner more d =
      let x = node words s w at base inner in
      let len : own_len x (base + 1) (length (inner ++ more)) ≡ length inner = min-len (length-append inner more) in
      ap (λ n. stepped words (walk words m) s (base + 1) x (take n (inner ++ more)) d >>= λ e. walk words m s (base + 1 + n) (drop n (inner ++ more)) e) len
      ∙ ap (λ xs. stepped words (walk words m) s (base + 1) x xs d >>= λ e. walk words m s (base + 1 + length inner) (drop (length inner) (inner ++ more)) e) (take-append_seam inner more)
      ∙ ap (λ xs. stepped words (walk words m) s (base + 1) x inner d >>= λ e. walk words m s (base + 1 + length inner) xs e) (drop-append_seam inner more)
    where
      min-len : {k : ℕ} → k ≡ length inner + length more → min (base + 1 + length inner - (base + 1)) k ≡ length inner
      min-len e = omega (arith, e)

  mutual
    pub body-walked : (n : ℕ) (s : Scope) (b : Body) (at base : ℕ) (d : Draft) → Says words at (body_signs b) → BodyMay b → length (body_nodes at base b) ≤ n
        → walk words n s base (body_nodes at base b) d ≡ body_expanded words.lines s at b d
    body-walked n s Nothing at base d h m l = refl
    body-walked zero s (Then first more) at base d h m l =
        absurd (omega (arith, l, length-append (stmt_nodes at base first) (body_nodes (at + length (stmt_signs first)) (base + length (stmt_nodes at base first)) more), ap length (stmt-around at base first)))
    body-walked (suc n) s (Then first more) at base d h m l =
        let w = says-split words (stmt_signs first) (body_signs more) at h in
        let nodes = stmt_nodes at base first in
        let inner = stmt_inner at base first in
        let rest = body_nodes (at + length (stmt_signs first)) (base + length nodes) more in
        let count : length nodes ≡ suc (length inner) = ap length (stmt-around at base first) in
        let all = length-append nodes rest in
        let x = node words s (stmt_what first) at base inner in
        ap (λ xs. walk words (suc n) s base (xs ++ rest) d) (stmt-around at base first)
        ∙ walk-around n s (stmt_what first) at base inner rest d
        ∙ ap (λ o. o >>= λ e. walk words n s (base + 1 + length inner) rest e) (stmt-stepped n s first at base d w.0 m.0 (omega (arith, l, count, all)))
        ∙ bind-same (stmt_expanded words.lines s at first d) (λ e. walk words n s (base + 1 + length inner) rest e) (λ e. body_expanded words.lines s (at + length (stmt_signs first)) more e)
        (λ e.
        ap (λ k. walk words n s k rest e) (let k : base + 1 + length inner ≡ base + length nodes = omega (arith, count) in k)
        ∙ body-walked n s more (at + length (stmt_signs first)) (base + length nodes) e w.1 m.1 (omega (arith, l, count, all)))

    stmt-stepped : (n : ℕ) (s : Scope) (t : Stmt) (at base : ℕ) (d : Draft) → Says words at (stmt_signs t) → StmtMay t → length (stmt_inner at base t) ≤ n
        → stepped words (walk words n) s (base + 1) (node words s (stmt_what t) at base (stmt_inner at base t)) (stmt_inner at base t) d ≡ stmt_expanded words.lines s at t d
    stmt-stepped n s (Do c) at base d h m l = called-do words s at base c (base + 1 + length (operands_nodes (at + 1) (base + 1) c.operands)) d m.0 m.1 h
    stmt-stepped n s (DoUnder c g) at base d h m l = called-under words s at base c g (base + 1 + length (stmt_inner at base (DoUnder c g))) d m.0 m.1 m.3 h
    stmt-stepped n s (For name a b body) at base d h m l =
        let line = words.lines at in
        let first = operand_nodes (at + 3) (base + 1) a in
        let end = operand_nodes (at + 4 + length (expr_signs a)) (base + 1 + length first) b in
        let inner = body_nodes (at + 5 + length (expr_signs a) + length (expr_signs b)) (base + 1 + length first + length end) body in
        let own = first ++ end ++ inner in
        let x = says-split words (expr_signs a) _ (at + 1 + 1 + 1) h.1.1.1 in
        let y = says-split words (expr_signs b) _ (at + 1 + 1 + 1 + length (expr_signs a) + 1) x.1.1 in
        let z = says-split words (body_signs body) _ (at + 1 + 1 + 1 + length (expr_signs a) + 1 + length (expr_signs b) + 1) y.1.1 in
        let rest : drop (length first) own ≡ end ++ inner = ap (drop (length first)) (append_assoc first end inner) ∙ drop-append_seam first (end ++ inner) in
        let fits : length inner ≤ n = omega (arith, l, length-append (first ++ end) inner) in
        let turns : Valued → Valued → Outcome Draft = λ v w.
        each_turn line (λ i e. walk words n (inside s (words.bytes (at + 1)) i) (base + 1 + v.used + w.used) (drop w.used (drop v.used own)) e) (turn_count v.value w.value) v.value d in
        ap (λ o. o >>= λ (v : Valued). value_at words line s (drop v.used own) >>= λ w. turns v w)
        (ap (value_at words line s) (append_assoc first end inner) ∙ operand-valued words line s a (at + 3) (base + 1) (end ++ inner) (says-at words (expr_signs a) (at + 1 + 1 + 1) (at + 3) (omega arith) x.0))
        ∙ bounds-step (expr_value line s a) (expr_value line s b) (length first) (length end) (λ k. value_at words line s (drop k own)) turns
        (λ i j. each_turn line (λ k e. body_expanded words.lines (inside s name k) (at + 5 + length (expr_signs a) + length (expr_signs b)) body e) (turn_count i j) i d)
        (ap (value_at words line s) rest
        ∙ operand-valued words line s b (at + 4 + length (expr_signs a)) (base + 1 + length first) inner
        (says-at words (expr_signs b) (at + 1 + 1 + 1 + length (expr_signs a) + 1) (at + 4 + length (expr_signs a)) (omega arith) y.0))
        (λ i j.
        each_turn-same line
        (λ k e. walk words n (inside s (words.bytes (at + 1)) k) (base + 1 + length first + length end) (drop (length end) (drop (length first) own)) e)
        (λ k e. body_expanded words.lines (inside s name k) (at + 5 + length (expr_signs a) + length (expr_signs b)) body e)
        (λ k e.
        ap (λ (u : List ℕ). walk words n (inside s u k) (base + 1 + length first + length end) (drop (length end) (drop (length first) own)) e) h.1.0
        ∙ ap (λ xs. walk words n (inside s name k) (base + 1 + length first + length end) xs e) (ap (drop (length end)) rest ∙ drop-append_seam end inner)
        ∙ body-walked n (inside s name k) body (at + 5 + length (expr_signs a) + length (expr_signs b)) (base + 1 + length first + length end) e
        (says-at words (body_signs body) (at + 1 + 1 + 1 + length (expr_signs a) + 1 + length (expr_signs b) + 1) (at + 5 + length (expr_signs a) + length (expr_signs b)) (omega arith) z.0)
        m.2 fits)
        (turn_count i j) i d)
