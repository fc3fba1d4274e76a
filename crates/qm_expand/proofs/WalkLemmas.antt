-- One step of a walk
use Rattle.std.proofs.Common.{◌≡◌, ◌∙◌, ℕ, zero, suc, ◌+◌, ◌-◌, ◌<◌, ◌≤◌, ℤ, pos, ◌+ℤ◌, List, [], ◌∷◌, ◌++◌, Ok, length, take, drop, refl, sym, ap, arith, length-append, length-take, length-drop}
use Rattle.std.proofs.Math.Seq.{take-append_seam}
use Rattle.std.proofs.lemmas.Int.{ints}
use Rattle.std.proofs.lemmas.List.{map-append}
use Rattle.qm_parse.specs.declared.tree.Node.{Node}
use Rattle.qm_expand.specs.declared.values.Scope as code_scope
use Rattle.qm_expand.specs.declared.values.Binding as code_binding
use Rattle.qm_expand.specs.declared.words.Source.{Source}
use Rattle.qm_expand.specs.Views.{words_of, scope_of, names_in}
use Rattle.qm_expand.specs.Steps.{Outcome, ◌>>=◌}
use Rattle.qm_expand.specs.Values.{Scope}
use Rattle.qm_expand.specs.Drafts.{Draft, with_turn}
use Rattle.qm_expand.specs.Expansion.{each_turn, turn_count, inside}
use Rattle.qm_expand.specs.Walk.{Words, Walking, Valued, own_len, walk, stepped, looped, turned, value_at}
use Rattle.qm_expand.proofs.StepLemmas.{bind-assoc}

-- a walk whose bound is m, as its first step and the rest
pub record Stepped (words : Words) (m : ℕ) (s : Scope) (number : ℕ) (rest : List Node) (node : Node) (own next : List Node) (len : ℕ) (d : Draft) : Type 0 where
  pub k : ℕ
  pub own_fits : length own ≤ k
  pub next_fits : length next ≤ k
  pub same : walk words m s number rest d
      ≡ (stepped words (walk words k) s (number + 1) node own d >>= λ e. walk words k s (number + 1 + len) next e)

module _ (words : Words) (s : Scope) (number : ℕ) (rest : List Node) (node : Node) (behind own next : List Node) (len : ℕ)
    (is : rest ≡ node ∷ behind) (own_is : own ≡ take len behind) (next_is : next ≡ drop len behind) (len_is : len ≡ own_len node (number + 1) (length behind)) where
  pub walk-step : (m : ℕ) (d : Draft) → length rest ≤ m → Stepped words m s number rest node own next len d
  walk-step m d fits = by_bound m (let l = ap length is in omega arith)
    where
      by_bound : (m : ℕ) → suc (length behind) ≤ m → Stepped words m s number rest node own next len d
      by_bound zero h = absurd (omega arith)
      by_bound (suc k) h = record {
        k = k;
        own_fits = (let l = ap length own_is ∙ length-take len behind in omega arith);
        next_fits = (let l = ap length next_is ∙ length-drop len behind in omega arith);
        same =
            ap (λ xs. walk words (suc k) s number xs d) is
            ∙ ap (λ l. stepped words (walk words k) s (number + 1) node (take l behind) d >>= λ e. walk words k s (number + 1 + l) (drop l behind) e) (sym len_is)
            ∙ ap (λ xs. stepped words (walk words k) s (number + 1) node xs d >>= λ e. walk words k s (number + 1 + len) (drop len behind) e) (sym own_is)
            ∙ ap (λ xs. stepped words (walk words k) s (number + 1) node own d >>= λ e. walk words k s (number + 1 + len) xs e) (sym next_is);
      }

pub walk-nil : (words : Words) (m : ℕ) (s : Scope) (number : ℕ) (d : Draft) → walk words m s number [] d ≡ Ok d
walk-nil words zero s number d = refl
walk-nil words (suc m) s number d = refl

-- ---- loops
pub looped-turns : (words : Words) (body : Walking) (s : Scope) (number : ℕ) (node : Node) (own : List Node) (d : Draft) (a b : Valued)
    → value_at words (words.lines node.token) s own ≡ Ok a → value_at words (words.lines node.token) s (drop a.used own) ≡ Ok b
    → looped words body s number node own d
    ≡ each_turn (words.lines node.token) (λ i e. body (inside s (words.bytes (node.token + 1)) i) (number + a.used + b.used) (drop b.used (drop a.used own)) e) (turn_count a.value b.value) a.value d
looped-turns words body s number node own d a b first end =
    ap (λ o. o >>= λ x. value_at words (words.lines node.token) s (drop x.used own)
    >>= λ y. each_turn (words.lines node.token) (λ i e. body (inside s (words.bytes (node.token + 1)) i) (number + x.used + y.used) (drop y.used (drop x.used own)) e) (turn_count x.value y.value) x.value d) first
    ∙ ap (λ o. o >>= λ y. each_turn (words.lines node.token) (λ i e. body (inside s (words.bytes (node.token + 1)) i) (number + a.used + y.used) (drop y.used (drop a.used own)) e) (turn_count a.value y.value) a.value d) end

module _ (line : ℕ) (body : ℤ → Draft → Outcome Draft) (count k : ℕ) (a : ℤ) (d : Draft) where
  pub each_turn-more : k < count → each_turn line body (count - k) (a +ℤ pos k) d
      ≡ (with_turn line d >>= λ e. body (a +ℤ pos k) e >>= λ f. each_turn line body (count - (k + 1)) (a +ℤ pos (k + 1)) f)
  each_turn-more low =
      let left : count - k ≡ suc (count - (k + 1)) = omega arith in
      let next : (a +ℤ pos k) +ℤ pos 1 ≡ a +ℤ pos (k + 1) = omega (arith, ints) in
      ap (λ n. each_turn line body n (a +ℤ pos k) d) left
      ∙ ap (λ z. with_turn line d >>= λ e. body (a +ℤ pos k) e >>= λ f. each_turn line body (count - (k + 1)) z f) next

  pub each_turn-none : count ≤ k → each_turn line body (count - k) (a +ℤ pos k) d ≡ Ok d
  each_turn-none high = let none : count - k ≡ 0 = omega arith in ap (λ n. each_turn line body n (a +ℤ pos k) d) none

pub scope_inside : (source : Source) (scope : code_scope.Scope) (names items : List code_binding.Binding) (name : code_binding.Binding)
    → items ≡ names ++ name ∷ []
    → scope_of scope (names_in source items) ≡ inside (scope_of scope (names_in source names)) ((words_of source).bytes name.token) name.value
scope_inside source scope names items name e =
    ap (λ xs. scope_of scope xs) (ap (names_in source) e ∙ map-append _ names (name ∷ []))

-- a loop, from the slices that are walked
pub looped-at : (words : Words) (body : Walking) (s : Scope) (number : ℕ) (node : Node) (own rest inner : List Node) (d : Draft) (a b : Valued) (line : ℕ)
    → line ≡ words.lines node.token → rest ≡ drop a.used own → inner ≡ drop b.used rest
    → value_at words line s own ≡ Ok a → value_at words line s rest ≡ Ok b
    → looped words body s number node own d
    ≡ each_turn line (λ i e. body (inside s (words.bytes (node.token + 1)) i) (number + a.used + b.used) inner e) (turn_count a.value b.value) a.value d
looped-at words body s number node own rest inner d a b line on rest_is inner_is first end =
    looped-turns words body s number node own d a b
    (ap (λ l. value_at words l s own) (sym on) ∙ first)
    (ap (λ l. value_at words l s (drop a.used own)) (sym on) ∙ ap (value_at words line s) (sym rest_is) ∙ end)
    ∙ ap (λ l. each_turn l (λ i e. body (inside s (words.bytes (node.token + 1)) i) (number + a.used + b.used) (drop b.used (drop a.used own)) e) (turn_count a.value b.value) a.value d) (sym on)
    ∙ ap (λ xs. each_turn line (λ i e. body (inside s (words.bytes (node.token + 1)) i) (number + a.used + b.used) xs e) (turn_count a.value b.value) a.value d)
    (sym (inner_is ∙ ap (drop b.used) rest_is))

-- the nodes of the body are among the loop's
pub inner-fits : (n used end : ℕ) (own rest inner : List Node) → rest ≡ drop used own → inner ≡ drop end rest → length own ≤ n → length inner ≤ n
inner-fits n used end own rest inner rest_is inner_is few =
    let r = ap length rest_is ∙ length-drop used own in
    let i = ap length inner_is ∙ length-drop end rest in
    omega arith

-- turn k of a loop, in which its name has a value, and the turns behind it
pub turns-next : (body : Walking) (s : Scope) (words : Words) (line start count k : ℕ) (inner : List Node) (a : ℤ) (word : ℕ) (name : code_binding.Binding) (d : Draft)
    → k < count → name ≡ record { token = word; value = a +ℤ pos k }
    → each_turn line (λ i e. body (inside s (words.bytes word) i) start inner e) (count - k) (a +ℤ pos k) d
    ≡ (turned body line (inside s (words.bytes name.token) name.value) start inner d
    >>= λ f. each_turn line (λ i e. body (inside s (words.bytes word) i) start inner e) (count - (k + 1)) (a +ℤ pos (k + 1)) f)
turns-next body s words line start count k inner a word name d low is =
    let left : Draft → Outcome Draft = λ f. each_turn line (λ i e. body (inside s (words.bytes word) i) start inner e) (count - (k + 1)) (a +ℤ pos (k + 1)) f in
    each_turn-more line (λ i e. body (inside s (words.bytes word) i) start inner e) count k a d low
    ∙ sym (bind-assoc (with_turn line d) (body (inside s (words.bytes word) (a +ℤ pos k)) start inner) left)
    ∙ ap (λ (x : code_binding.Binding). turned body line (inside s (words.bytes x.token) x.value) start inner d >>= left) (sym is)

-- what is left of a list once its newest is gone
pub popped : {A : Type 0} (xs ys zs : List A) (x : A) (n : ℕ) → ys ≡ xs ++ x ∷ [] → n ≡ length ys → zs ≡ take (n - 1) ys → zs ≡ xs
popped xs ys zs x n is len rest =
    let count = ap length is ∙ length-append xs (x ∷ []) in
    let short : n - 1 ≡ length xs = omega arith in
    rest ∙ ap (λ k. take k ys) short ∙ ap (take (length xs)) is ∙ take-append_seam xs (x ∷ [])

pub same_Ok : {A : Type 0} (x y : A) → ◌≡◌ {A = Outcome A} (Ok x) (Ok y) → x ≡ y
same_Ok x y e = grind arith
