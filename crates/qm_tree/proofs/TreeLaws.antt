-- The laws of broadcast along a tree, from the letters of its messages
use Rattle.std.proofs.Common.{◌≡◌, ◌≢◌, ◌∙◌, ◌⊎◌, inl, inr, ℕ, zero, suc, ◌+◌, ◌<◌, ◌≤◌, Bool, true, false, cond, nat_eq, List, [], ◌∷◌, ◌++◌, map, refl, sym, ap, subst, arith}
use mathlib.Core.Path.{fun_ext}
use Rattle.std.specs.Prelude.{All, Contains}
use Rattle.std.specs.List.Sorted.{IsPermutation}
use Rattle.std.proofs.lemmas.Bool.Decides.{eqb_tells}
use Rattle.std.proofs.lemmas.List.Elements.{All-nil, All-cons, All-head, All-tail, All-append, All-contains, Contains-append_cases}
use Rattle.std.proofs.lemmas.List.Sorted.{All-permutation, IsPermutation-map}
use Rattle.qm_denot.specs.declared.Wire.{Wire}
use Rattle.qm_denot.specs.declared.Letter.TheVariants.{Cx, Take}
use Rattle.qm_denot.specs.Wires.{is_wire}
use Rattle.qm_denot.specs.WireLists.{Distinct}
use Rattle.qm_denot.specs.Circuits.{Amplitudes, IsBlankIn, amp, with_letters}
use Rattle.qm_denot.specs.Collectives.{AreBlankIn, copied_onto}
use Rattle.qm_denot.proofs.EqualUpTo.{amp-append_at}
use Rattle.qm_collect.specs.Letters.{Wiring}
use Rattle.qm_collect.specs.Table.{others}
use Rattle.qm_tree.specs.declared.TreeOp.TheVariants.{Cast, Uncast}
use Rattle.qm_tree.specs.Trees.{parent, call_of}
use Rattle.qm_tree.specs.Letters.{IsDownFrom, IsUpTo, IsHandedOn, copies, copy_of, tree_letters}
use Rattle.qm_tree.specs.Laws.{IsHeld, TreecastLaw, UntreecastLaw}
use Rattle.qm_tree.proofs.Counts.{times, times-permuted, times-here, times-more, lacks-none, distinct-few, blank-each, same-copied}
use Rattle.qm_tree.proofs.Copying.{IsSource, one-down, one-up}
use Rattle.qm_tree.proofs.Messages.{letters-down, letters-back}

-- ---- ranks
-- a rank other than the root
abbrev IsOther : (n root : ℕ) → ℕ → Type 0
IsOther n root d = (d < n) × (d ≢ root)

others-are : (n root m : ℕ) → m ≤ n → All (IsOther n root) (others root m)
others-are n root zero low = All-nil (IsOther n root)
others-are n root (suc m) low = one-more (others-are n root m (omega (arith, low))) (eqb_tells m root)
  where
    one-more : All (IsOther n root) (others root m) → ((nat_eq m root ≡ true) × (m ≡ root)) ⊎ ((nat_eq m root ≡ false) × (m ≢ root))
        → All (IsOther n root) (others root (suc m))
    one-more rest (inl h) = subst (λ b. All (IsOther n root) (cond b (others root m) (others root m ++ m ∷ []))) (sym h.0) rest
    one-more rest (inr h) =
        let last = All-cons (IsOther n root) m [] (omega (arith, low), h.1) (All-nil (IsOther n root)) in
        subst (λ b. All (IsOther n root) (cond b (others root m) (others root m ++ m ∷ []))) (sym h.0)
        (All-append (IsOther n root) (others root m) (m ∷ []) rest last)

order-others : (n root : ℕ) (order : List ℕ) → IsPermutation (others root n) order → All (IsOther n root) order
order-others n root order p = All-permutation (IsOther n root) (others root n) order p (others-are n root n (omega arith))

-- an element of a list is the first, or among the others
front-or-rest : (x : ℕ) (xs : List ℕ) (y : ℕ) → Contains (x ∷ xs) y → (x ≡ y) ⊎ Contains xs y
front-or-rest x xs y h = elim (Contains-append_cases (x ∷ []) xs y h) [
  | inl one ↦ inl (All-contains (λ z. x ≡ z) (x ∷ []) y (All-cons (λ z. x ≡ z) x [] refl (All-nil (λ z. x ≡ z))) one)
  | inr rest ↦ inr rest
]

-- the copy of a rank of the list is among the list's copies
times-contained : (g : ℕ → Wire) (ds : List ℕ) (r : ℕ) → Contains ds r → 0 < times (g r) (map g ds)
times-contained g [] r h = absurd (omega (arith, h.1))
times-contained g (d ∷ ds) r h =
    elim (front-or-rest d ds r h) [
      | inl e ↦ subst (λ k. 0 < times (g k) (map g (d ∷ ds))) e (times-here (g d) (map g ds))
      | inr rest ↦
          let some = times-contained g ds r rest in
          let more = times-more (g d) (g r) (map g ds) in
          omega (arith, some, more)
    ]

-- a wire from the front of one list to the front of another
moved : (c v : Wire) (cs ds : List Wire) → times v cs + times v (c ∷ ds) ≡ times v (c ∷ cs) + times v ds
moved c v cs ds = either (is_wire c v)
  where
    either : (b : Bool) → times v cs + cond b (suc (times v ds)) (times v ds) ≡ cond b (suc (times v cs)) (times v cs) + times v ds
    either true = omega arith
    either false = omega arith

-- different wires, none of which is the qubit, and all blank
record AreCopies (f : Amplitudes) (s : Wire) (cs : List Wire) : Type 0 where
  few : (v : Wire) → times v cs ≤ 1
  clear : times s cs ≡ 0
  blank : (v : Wire) → 0 < times v cs → IsBlankIn f v

module _ (n root tag : ℕ) (known : root < n) (w : Wiring) (f : Amplitudes) where
  -- ---- copies come down
  module _ (q : ℕ → ℕ) (handed : IsHandedOn w n root q) where
    abbrev s : Wire
    s = w.slot root (q root)

    down : (es : List Wire) → AreCopies f s es → (ds done : List ℕ) (cs : List Wire) → All (IsOther n root) ds
        → ((r : ℕ) → Contains done r → IsSource s cs (w.slot r (q r))) → IsDownFrom n root done ds
        → ((v : Wire) → times v es ≡ times v cs + times v (map (copy_of w n root) ds))
        → with_letters (tree_letters w n (λ r. call_of Cast (q r) root tag) ds) (copied_onto cs s f) ≡ copied_onto es s f
    down es are [] done cs each source behind total =
        same-copied cs es (λ v. let t = total v in omega (arith, t)) s f
    down es are (d ∷ ds) done cs each source behind total =
        let here : IsOther n root d = All-head (IsOther n root) d ds each in
        let p = parent d root n in
        let c = copy_of w n root d in
        let ls = tree_letters w n (λ r. call_of Cast (q r) root tag) ds in
        let cs_all = total c in
        let one = are.few c in
        let first = times-here c (map (copy_of w n root) ds) in
        let none : times c cs ≡ 0 = omega (arith, cs_all, one, first) in
        let some : 0 < times c es = omega (arith, cs_all, first) in
        let other : c ≢ s = λ e. (let z = are.clear in let k : 0 < times s es = subst (λ v. 0 < times v es) e some in omega (arith, z, k)) in
        let next : (r : ℕ) → Contains (d ∷ done) r → IsSource s (c ∷ cs) (w.slot r (q r)) = λ r h. more d ds done cs here source r (front-or-rest d done r h) in
        ap (λ us. with_letters (us ++ ls) (copied_onto cs s f)) (letters-down w n root tag q known d here.0 here.1)
        ∙ ap (with_letters ls) (one-down f s cs c none other (are.blank c some) (w.slot p (q p)) (source p behind.0))
        ∙ down es are ds (d ∷ done) (c ∷ cs) (All-tail (IsOther n root) d ds each) next behind.1 (λ v. total v ∙ moved c v cs (map (copy_of w n root) ds))
      where
        more : (d : ℕ) (ds done : List ℕ) (cs : List Wire) → IsOther n root d → ((r : ℕ) → Contains done r → IsSource s cs (w.slot r (q r)))
            → (r : ℕ) → (d ≡ r) ⊎ Contains done r → IsSource s (copy_of w n root d ∷ cs) (w.slot r (q r))
        more d ds done cs here source r (inl e) =
            let is : copy_of w n root d ≡ w.slot r (q r) = sym (handed d here.1) ∙ ap (λ k. w.slot k (q k)) e in
            inr (subst (λ v. 0 < times v (copy_of w n root d ∷ cs)) is (times-here (copy_of w n root d) cs))
        more d ds done cs here source r (inr rest) = elim (source r rest) [
          | inl e ↦ inl e
          | inr some ↦ inr (let k = times-more (copy_of w n root d) (w.slot r (q r)) cs in omega (arith, some, k))
        ]

  -- ---- copies go back
  module _ (v : Wiring) (q p : ℕ → ℕ) (held : IsHeld w v n root q p) where
    abbrev root_wire : Wire
    root_wire = w.slot root (q root)

    up : (ds : List ℕ) → All (IsOther n root) ds → IsUpTo n root ds → AreCopies f root_wire (map (copy_of w n root) ds)
        → with_letters (tree_letters v n (λ r. call_of Uncast (p r) root tag) ds) (copied_onto (map (copy_of w n root) ds) root_wire f) ≡ f
    up [] each before are = refl
    up (d ∷ ds) each before are =
        let here : IsOther n root d = All-head (IsOther n root) d ds each in
        let rest : All (IsOther n root) ds = All-tail (IsOther n root) d ds each in
        let k = parent d root n in
        let c = copy_of w n root d in
        let cs = map (copy_of w n root) ds in
        let u = v.slot k (p k) in
        let ls = tree_letters v n (λ r. call_of Uncast (p r) root tag) ds in
        let one = are.few c in
        let first = times-here c cs in
        let total = moved c c [] cs in
        let single = times-here c [] in
        let none : times c cs ≡ 0 = omega (arith, one, total, single) in
        let other : c ≢ root_wire = λ e. (let z = are.clear in let y : 0 < times root_wire (c ∷ cs) = subst (λ x. 0 < times x (c ∷ cs)) e first in omega (arith, z, y)) in
        let fewer : AreCopies f root_wire cs = record {
          few = λ x. (let a = are.few x in let m = times-more c x cs in omega (arith, a, m));
          clear = let z = are.clear in let m = times-more c root_wire cs in omega (arith, z, m);
          blank = λ x some. are.blank x (let m = times-more c x cs in omega (arith, some, m));
        } in
        ap (λ us. with_letters (us ++ ls) (copied_onto (c ∷ cs) root_wire f))
        (letters-back v n root tag p known d here.0 here.1 ∙ ap (λ x. Cx u x ∷ Take x false ∷ []) (held.held d here.1))
        ∙ ap (with_letters ls) (one-up f root_wire cs c none other (are.blank c first) u (source ds rest k (front-or-rest root ds k before.0)))
        ∙ up ds rest before.1 fewer
      where
        source : (ds : List ℕ) → All (IsOther n root) ds → (r : ℕ) → (root ≡ r) ⊎ Contains ds r → IsSource root_wire (map (copy_of w n root) ds) (v.slot r (p r))
        source ds each r (inl e) = inl (ap (λ k. v.slot k (p k)) (sym e) ∙ held.source)
        source ds each r (inr h) =
            let other = All-contains (IsOther n root) ds r each h in
            inr (subst (λ x. 0 < times x (map (copy_of w n root) ds)) (sym (held.held r other.1)) (times-contained (copy_of w n root) ds r h))

-- ---- the laws
copies-are : (f : Amplitudes) (s : Wire) (cs : List Wire) → Distinct (s ∷ cs) → AreBlankIn f cs → AreCopies f s cs
copies-are f s cs d blank = record { few = distinct-few cs d.1; clear = lacks-none s cs d.0; blank = blank-each f cs blank }

pub treecast : TreecastLaw
treecast c w n root tag q order known comes handed distinct blank x =
    let s = w.slot root (q root) in
    let es = copies w n root in
    let again = times-permuted es (map (copy_of w n root) order) (IsPermutation-map (copy_of w n root) (others root n) order comes.each) in
    amp-append_at c (tree_letters w n (λ r. call_of Cast (q r) root tag) order) x
    ∙ ap (λ (f : Amplitudes). f x)
    (down n root tag known w (amp c) q handed es (copies-are (amp c) s es distinct blank) order (root ∷ []) [] (order-others n root order comes.each)
    (λ r h. elim (front-or-rest root [] r h) [
      | inl e ↦ inl (ap (λ k. w.slot k (q k)) (sym e))
      | inr none ↦ absurd (omega (arith, none.1))
    ])
    comes.behind (λ v. let t = again v in omega (arith, t)))

pub untreecast : UntreecastLaw
untreecast c w v n root tag end q p order back known comes goes handed distinct blank held x =
    let s = w.slot root (q root) in
    let es = copies w n root in
    let cs = map (copy_of w n root) back in
    let again = times-permuted es cs (IsPermutation-map (copy_of w n root) (others root n) back goes.each) in
    let are = copies-are (amp c) s es distinct blank in
    let ls = tree_letters v n (λ r. call_of Uncast (p r) root end) back in
    amp-append_at (c ++ tree_letters w n (λ r. call_of Cast (q r) root tag) order) ls x
    ∙ ap (λ (f : Amplitudes). with_letters ls f x)
    (fun_ext (treecast c w n root tag q order known comes handed distinct blank) ∙ same-copied es cs (λ u. sym (again u)) s (amp c))
    ∙ ap (λ (f : Amplitudes). f x)
    (up n root end known w (amp c) v q p held back (order-others n root back goes.each) goes.before (record {
      few = λ u. (let a = are.few u in let t = again u in omega (arith, a, t));
      clear = (let a = are.clear in let t = again s in omega (arith, a, t));
      blank = λ u some. are.blank u (let t = again u in omega (arith, some, t));
    }))
