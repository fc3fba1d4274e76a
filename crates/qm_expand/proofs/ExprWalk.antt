-- The walk over the nodes of expressions and operands
use Rattle.std.proofs.Common.{◌≡◌, ◌∙◌, ℕ, ◌+◌, ℤ, pos, List, [], ◌∷◌, ◌++◌, length, drop, Option, Some, None, Ok, Err, refl, sym, ap, arith, append_assoc, length-append}
use Rattle.std.specs.List.{filter_map}
use Rattle.std.proofs.Math.Seq.{drop-append_seam}
use Rattle.std.proofs.lemmas.List.{drop-drop}
use Rattle.qm_parse.specs.declared.tree.Node.{Node}
use Rattle.qm_parse.specs.declared.tree.What.{What}
use Rattle.qm_parse.specs.declared.tree.What.TheVariants as what
use Rattle.qm_parse.specs.declared.words.Operand.{Operand}
use Rattle.qm_parse.specs.Trees.{AddOp, Plus, Minus, MulOp, Times, Over, Rest, Expr, Sum, Adds, NoAdd, Add, Term, Product, Muls, NoMul, Mul, Prim, Num, Name, Rank, Size, Paren}
use Rattle.qm_parse.specs.Spelling.{expr_signs, adds_signs, term_signs, muls_signs, prim_signs, operands_signs}
use Rattle.qm_parse.specs.Nodes.{leaf, add_what, mul_what, expr_nodes, adds_nodes, term_nodes, muls_nodes, prim_nodes, operand_nodes, operands_nodes}
use Rattle.qm_expand.specs.Steps.{Outcome, ◌>>=◌}
use Rattle.qm_expand.specs.Values.{Scope, Values, with_value, ranged, named, computed, limit, within, expr_value, adds_value, term_value, muls_value, prim_value, operands_values}
use Rattle.qm_expand.specs.Walk.{Words, Valued, value_from, value_at, Gathered, gathered}
use Rattle.qm_expand.proofs.StepLemmas.{bind-assoc, bind-same}
use Rattle.qm_expand.proofs.SignLemmas.{Says, says-split}

module _ (words : Words) (line : ℕ) (s : Scope) where
  -- ---- values
  -- nodes that push this value
  abbrev Evals : Outcome ℤ → List Node → Type 0
  Evals o xs =
      (used : ℕ) (stack : List ℤ) (rest : List Node)
      → value_from words line s used stack (xs ++ rest) ≡ (o >>= λ z. value_from words line s (used + length xs) (z ∷ stack) rest)

  -- nodes that make another value of the newest one
  abbrev Continues : (ℤ → Outcome ℤ) → List Node → Type 0
  Continues f xs =
      (used : ℕ) (left : ℤ) (stack : List ℤ) (rest : List Node)
      → value_from words line s used (left ∷ stack) (xs ++ rest) ≡ (f left >>= λ z. value_from words line s (used + length xs) (z ∷ stack) rest)

  -- a node that makes one value of two
  abbrev Computes : What → Node → Type 0
  Computes w x =
      (used : ℕ) (right left : ℤ) (stack : List ℤ) (rest : List Node)
      → value_from words line s used (right ∷ left ∷ stack) (x ∷ rest) ≡ (computed line w left right >>= λ z. value_from words line s (used + 1) (z ∷ stack) rest)

  evals-then : (o : Outcome ℤ) (f : ℤ → Outcome ℤ) (xs ys : List Node) → Evals o xs → Continues f ys → Evals (o >>= f) (xs ++ ys)
  evals-then o f xs ys p q used stack rest =
      ap (value_from words line s used stack) (append_assoc xs ys rest)
      ∙ p used stack (ys ++ rest)
      ∙ bind-same o (λ z. value_from words line s (used + length xs) (z ∷ stack) (ys ++ rest)) (λ z. f z >>= λ y. value_from words line s (used + length (xs ++ ys)) (y ∷ stack) rest)
      (λ z.
      q (used + length xs) z stack rest
      ∙ ap (λ n. f z >>= λ y. value_from words line s n (y ∷ stack) rest) (let e : used + length xs + length ys ≡ used + length (xs ++ ys) = omega (arith, length-append xs ys) in e))
      ∙ sym (bind-assoc o f (λ y. value_from words line s (used + length (xs ++ ys)) (y ∷ stack) rest))

  continues-not : Continues Ok []
  continues-not used left stack rest = ap (λ n. value_from words line s n (left ∷ stack) rest) (let e : used ≡ used + 0 = omega arith in e)

  -- an operator with its right side, and what follows
  continues-then : (w : What) (x : Node) (o : Outcome ℤ) (f : ℤ → Outcome ℤ) (xs ys : List Node) → Evals o xs → Computes w x → Continues f ys
      → Continues (λ left. o >>= λ right. computed line w left right >>= f) (xs ++ x ∷ ys)
  continues-then w x o f xs ys p c q used left stack rest =
      let all = length (xs ++ x ∷ ys) in
      ap (value_from words line s used (left ∷ stack)) (append_assoc xs (x ∷ ys) rest)
      ∙ p used (left ∷ stack) (x ∷ (ys ++ rest))
      ∙ bind-same o (λ right. value_from words line s (used + length xs) (right ∷ left ∷ stack) (x ∷ (ys ++ rest)))
      (λ right. (computed line w left right >>= f) >>= λ y. value_from words line s (used + all) (y ∷ stack) rest)
      (λ right.
      c (used + length xs) right left stack (ys ++ rest)
      ∙ bind-same (computed line w left right) (λ z. value_from words line s (used + length xs + 1) (z ∷ stack) (ys ++ rest)) (λ z. f z >>= λ y. value_from words line s (used + all) (y ∷ stack) rest)
      (λ z.
      q (used + length xs + 1) z stack rest
      ∙ ap (λ n. f z >>= λ y. value_from words line s n (y ∷ stack) rest)
      (let e : used + length xs + 1 + length ys ≡ used + all = omega (arith, length-append xs (x ∷ ys)) in e))
      ∙ sym (bind-assoc (computed line w left right) f (λ y. value_from words line s (used + all) (y ∷ stack) rest)))
      ∙ sym (bind-assoc o (λ right. computed line w left right >>= f) (λ y. value_from words line s (used + all) (y ∷ stack) rest))

  add-computes : (op : AddOp) (at number : ℕ) → Computes (add_what op) (leaf (add_what op) at 0 number)
  add-computes Plus at number used right left stack rest = bind-assoc (computed line what.Plus left right) (λ z. Ok (z ∷ stack)) (λ next. value_from words line s (used + 1) next rest)
  add-computes Minus at number used right left stack rest = bind-assoc (computed line what.Minus left right) (λ z. Ok (z ∷ stack)) (λ next. value_from words line s (used + 1) next rest)

  mul-computes : (op : MulOp) (at number : ℕ) → Computes (mul_what op) (leaf (mul_what op) at 0 number)
  mul-computes Times at number used right left stack rest = bind-assoc (computed line what.Times left right) (λ z. Ok (z ∷ stack)) (λ next. value_from words line s (used + 1) next rest)
  mul-computes Over at number used right left stack rest = bind-assoc (computed line what.Over left right) (λ z. Ok (z ∷ stack)) (λ next. value_from words line s (used + 1) next rest)
  mul-computes Rest at number used right left stack rest = bind-assoc (computed line what.Rest left right) (λ z. Ok (z ∷ stack)) (λ next. value_from words line s (used + 1) next rest)

  mutual
    expr-evals : (e : Expr) (at base : ℕ) → Says words at (expr_signs e) → Evals (expr_value line s e) (expr_nodes at base e)
    expr-evals (Sum t more) at base h =
        let w = says-split words (term_signs t) (adds_signs more) at h in
        let left = term_nodes at base t in
        evals-then (term_value line s t) (λ z. adds_value line s z more) left (adds_nodes (at + length (term_signs t)) (base + length left) more)
        (term-evals t at base w.0) (adds-continue more (at + length (term_signs t)) (base + length left) w.1)

    adds-continue : (a : Adds) (at base : ℕ) → Says words at (adds_signs a) → Continues (λ z. adds_value line s z a) (adds_nodes at base a)
    adds-continue NoAdd at base h = continues-not
    adds-continue (Add op t more) at base h =
        let w = says-split words (term_signs t) (adds_signs more) (at + 1) h.1 in
        let right = term_nodes (at + 1) base t in
        continues-then (add_what op) (leaf (add_what op) at 0 (base + length right)) (term_value line s t) (λ z. adds_value line s z more) right
        (adds_nodes (at + 1 + length (term_signs t)) (base + length right + 1) more) (term-evals t (at + 1) base w.0) (add-computes op at (base + length right))
        (adds-continue more (at + 1 + length (term_signs t)) (base + length right + 1) w.1)

    term-evals : (t : Term) (at base : ℕ) → Says words at (term_signs t) → Evals (term_value line s t) (term_nodes at base t)
    term-evals (Product p more) at base h =
        let w = says-split words (prim_signs p) (muls_signs more) at h in
        let left = prim_nodes at base p in
        evals-then (prim_value line s p) (λ z. muls_value line s z more) left (muls_nodes (at + length (prim_signs p)) (base + length left) more)
        (prim-evals p at base w.0) (muls-continue more (at + length (prim_signs p)) (base + length left) w.1)

    muls-continue : (m : Muls) (at base : ℕ) → Says words at (muls_signs m) → Continues (λ z. muls_value line s z m) (muls_nodes at base m)
    muls-continue NoMul at base h = continues-not
    muls-continue (Mul op p more) at base h =
        let w = says-split words (prim_signs p) (muls_signs more) (at + 1) h.1 in
        let right = prim_nodes (at + 1) base p in
        continues-then (mul_what op) (leaf (mul_what op) at 0 (base + length right)) (prim_value line s p) (λ z. muls_value line s z more) right
        (muls_nodes (at + 1 + length (prim_signs p)) (base + length right + 1) more) (prim-evals p (at + 1) base w.0) (mul-computes op at (base + length right))
        (muls-continue more (at + 1 + length (prim_signs p)) (base + length right + 1) w.1)

    prim-evals : (p : Prim) (at base : ℕ) → Says words at (prim_signs p) → Evals (prim_value line s p) (prim_nodes at base p)
    prim-evals (Num v) at base h = λ used stack rest. bind-assoc (ranged line (pos v)) (λ z. Ok (z ∷ stack)) (λ next. value_from words line s (used + 1) next rest)
    prim-evals (Name name) at base h = λ used stack rest.
        bind-assoc (named line s (words.bytes at)) (λ z. Ok (z ∷ stack)) (λ next. value_from words line s (used + 1) next rest)
        ∙ ap (λ (w : List ℕ). named line s w >>= λ z. value_from words line s (used + 1) (z ∷ stack) rest) h.0
    prim-evals Rank at base h = λ used stack rest. bind-assoc (ranged line (pos s.rank)) (λ z. Ok (z ∷ stack)) (λ next. value_from words line s (used + 1) next rest)
    prim-evals Size at base h = λ used stack rest. bind-assoc (ranged line (pos s.ranks)) (λ z. Ok (z ∷ stack)) (λ next. value_from words line s (used + 1) next rest)
    prim-evals (Paren e) at base h = let w = says-split words (expr_signs e) _ (at + 1) h.1 in expr-evals e (at + 1) base w.0

  -- ---- operands
  pub operand-valued : (e : Expr) (at base : ℕ) (rest : List Node) → Says words at (expr_signs e)
      → value_at words line s (operand_nodes at base e ++ rest) ≡ (expr_value line s e >>= λ z. Ok (record { value = z; used = length (operand_nodes at base e) }))
  operand-valued e at base rest h =
      let inner = expr_nodes at base e in
      let x = leaf what.Arg at 0 (base + length inner) in
      ap (value_at words line s) (append_assoc inner (x ∷ []) rest)
      ∙ expr-evals e at base h 0 [] (x ∷ rest)
      ∙ ap (λ n. expr_value line s e >>= λ z. Ok (record { value = z; used = n })) (let n : 0 + length inner + 1 ≡ length (inner ++ x ∷ []) = omega (arith, length-append inner (x ∷ [])) in n)

  gather-step : (o : Outcome ℤ) (fits : ℤ → Outcome ℕ) (used : ℕ) (make : ℕ → ℕ → Gathered) (next : Gathered → Outcome Gathered) (more : ℕ → Outcome Values) (end : Values → Outcome Gathered)
      → ((n : ℕ) → next (make n used) ≡ (more n >>= end))
      → ((o >>= λ z. Ok (record { value = z; used = used })) >>= (λ (v : Valued). fits v.value >>= λ n. Ok (make n v.used)) >>= next) ≡ (o >>= (λ z. fits z >>= more) >>= end)
  gather-step (Err f) fits used make next more end h = refl
  gather-step (Ok z) fits used make next more end h = by_fit (fits z)
    where
      by_fit : (w : Outcome ℕ) → ((w >>= λ n. Ok (make n used)) >>= next) ≡ (w >>= more >>= end)
      by_fit (Err f) = refl
      by_fit (Ok n) = h n

  pub gathered-values : (ks : List (Option Operand)) (es : List Expr) (at base : ℕ) (nodes rest : List Node) (g : Gathered) → length es ≡ length (filter_map (λ o. o) ks)
      → drop g.used nodes ≡ operands_nodes at base es ++ rest → Says words at (operands_signs es)
      → gathered words line s nodes ks g ≡ (operands_values line s (filter_map (λ o. o) ks) es g.values >>= λ v. Ok (record { values = v; used = g.used + length (operands_nodes at base es) }))
  gathered-values [] [] at base nodes rest g l there h = ap (λ n. Ok (record { values = g.values; used = n })) (let e : g.used ≡ g.used + 0 = omega arith in e)
  gathered-values [] (e ∷ es) at base nodes rest g l there h = absurd (omega (arith, l))
  gathered-values (None ∷ ks) es at base nodes rest g l there h = gathered-values ks es at base nodes rest g l there h
  gathered-values (Some k ∷ ks) [] at base nodes rest g l there h = absurd (omega (arith, l))
  gathered-values (Some k ∷ ks) (e ∷ es) at base nodes rest g l there h =
      let w = says-split words (expr_signs e) (operands_signs es) at h in
      let first = operand_nodes at base e in
      let more = operands_nodes (at + length (expr_signs e)) (base + length first) es in
      let split : drop g.used nodes ≡ first ++ (more ++ rest) = there ∙ append_assoc first more rest in
      let end : Values → Outcome Gathered = λ v. Ok (record { values = v; used = g.used + length (first ++ more) }) in
      ap (λ (xs : List Node). value_at words line s xs >>= (λ v. within line (limit s k) v.value >>= λ n. Ok (record { values = with_value k n g.values; used = g.used + v.used })) >>= λ h. gathered words line s nodes ks h) split
      ∙ ap (λ (o : Outcome Valued). o >>= (λ v. within line (limit s k) v.value >>= λ n. Ok (record { values = with_value k n g.values; used = g.used + v.used })) >>= λ h. gathered words line s nodes ks h)
      (operand-valued e at base (more ++ rest) w.0)
      ∙ gather-step (expr_value line s e) (within line (limit s k)) (length first) (λ n used. record { values = with_value k n g.values; used = g.used + used }) (λ h. gathered words line s nodes ks h)
      (λ n. operands_values line s (filter_map (λ o. o) ks) es (with_value k n g.values)) end
      (λ n.
      gathered-values ks es (at + length (expr_signs e)) (base + length first) nodes rest (record { values = with_value k n g.values; used = g.used + length first }) (omega (arith, l))
      (sym (drop-drop (length first) g.used nodes) ∙ ap (drop (length first)) split ∙ drop-append_seam first (more ++ rest)) w.1
      ∙ ap (λ m. operands_values line s (filter_map (λ o. o) ks) es (with_value k n g.values) >>= λ v. Ok (record { values = v; used = m }))
      (let m : g.used + length first + length more ≡ g.used + length (first ++ more) = omega (arith, length-append first more) in m))
