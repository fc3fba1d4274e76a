-- The letters of a rank's message with its parent, from the lists of both
use Rattle.std.proofs.Common.{◌≡◌, ◌≢◌, ◌∙◌, ◌⊎◌, inl, inr, ℕ, ◌+◌, ◌-◌, ◌*◌, ◌%◌, ◌<◌, ◌≤◌, Bool, true, false, cond, nat_lt, List, [], ◌∷◌, ◌++◌, map, refl, sym, ap, subst, arith}
use Rattle.std.specs.List.{flat_map}
use Rattle.std.specs.Prelude.{Contains}
use Rattle.std.proofs.lemmas.List.Concat.{flat_map-append}
use Rattle.std.proofs.lemmas.List.Elements.{All-nil, All-cons, All-contains, Contains-append_left, Contains-append_right, Contains-append_cases}
use Rattle.std.proofs.lemmas.List.Folds.{flat_map-map}
use Rattle.std.proofs.lemmas.Bool.{cases_lt}
use Rattle.std.proofs.lemmas.Bool.Decides.{eqb_tells, nat_tests}
use Rattle.std.proofs.Math.Nat.{mod-eq_of_lt, add-mod_left}
use Rattle.qm_denot.specs.declared.Letter.{Letter}
use Rattle.qm_denot.specs.declared.Letter.TheVariants.{Cx, Take}
use Rattle.qm_instr.specs.declared.Instr.{Instr}
use Rattle.qm_instr.specs.declared.Instr.TheVariants as instr
use Rattle.qm_instr.specs.declared.Kind.TheVariants as kind
use Rattle.qm_instr.specs.declared.Lane.{Lane}
use Rattle.qm_instr.specs.Lanes.{lane, is_lane}
use Rattle.qm_instr.proofs.LaneOrder.{same_lane}
use Rattle.qm_collect.specs.Letters.{Wiring, letters_between, letters_at}
use Rattle.qm_collect.proofs.Meetings.{met}
use Rattle.qm_tree.specs.declared.TreeCall.{TreeCall}
use Rattle.qm_tree.specs.declared.TreeOp.{TreeOp}
use Rattle.qm_tree.specs.declared.TreeOp.TheVariants.{Cast, Uncast}
use Rattle.qm_tree.specs.Trees.{place, rank_at, place_above, places_below, parent, parents, children, call_of, with_parent, with_child, instructions_at}
use Rattle.qm_tree.specs.Letters.{letters_up}

-- ---- places and ranks
-- a rest of a number that is less than twice the divisor
rest-low : (a n : ℕ) → a < n → a % n ≡ a
rest-low a n h = mod-eq_of_lt h

rest-high : (a n : ℕ) → n ≤ a → a < n + n → a % n ≡ a - n
rest-high a n h k =
    let whole : a ≡ n + (a - n) = omega arith in
    ap (λ m. m % n) whole ∙ add-mod_left n (a - n) ∙ mod-eq_of_lt (let low : a - n < n = omega arith in low)

module _ (n root : ℕ) (known : root < n) where
  -- a rank's place, and the rank at a place, without remainders
  place-is : (r : ℕ) → r < n → ((root ≤ r) × (place r root n ≡ r - root)) ⊎ ((r < root) × (place r root n ≡ r + n - root))
  place-is r h = elim (cases_lt r root) [
    | inl low ↦ inr (low, rest-low (r + n - root) n (omega arith))
    | inr high ↦ inl (high, rest-high (r + n - root) n (omega arith) (omega arith) ∙ omega arith)
  ]

  rank-is : (v : ℕ) → v < n → ((v + root < n) × (rank_at v root n ≡ v + root)) ⊎ ((n ≤ v + root) × (rank_at v root n ≡ v + root - n))
  rank-is v h = elim (cases_lt (v + root) n) [
    | inl low ↦ inl (low, rest-low (v + root) n low)
    | inr high ↦ inr (high, rest-high (v + root) n high (omega arith))
  ]

  pub place-below : (r : ℕ) → r < n → place r root n < n
  place-below r h = elim (place-is r h) [
    | inl p ↦ let e = p.1 in omega arith
    | inr p ↦ let e = p.1 in let low = p.0 in omega arith
  ]

  pub rank-below : (v : ℕ) → v < n → rank_at v root n < n
  rank-below v h = elim (rank-is v h) [
    | inl p ↦ let e = p.1 in let low = p.0 in omega arith
    | inr p ↦ let e = p.1 in omega arith
  ]

  place-rank : (v : ℕ) → v < n → place (rank_at v root n) root n ≡ v
  place-rank v h =
      elim (rank-is v h) [
        | inl p ↦ elim (place-is (rank_at v root n) (rank-below v h)) [
          | inl q ↦ let e = p.1 in let f = q.1 in omega arith
          | inr q ↦ let e = p.1 in let low = q.0 in absurd (omega arith)
        ]
        | inr p ↦ elim (place-is (rank_at v root n) (rank-below v h)) [
          | inl q ↦ let e = p.1 in let high = q.0 in absurd (omega arith)
          | inr q ↦ let e = p.1 in let f = q.1 in let high = p.0 in omega arith
        ]
      ]

  rank-place : (r : ℕ) → r < n → rank_at (place r root n) root n ≡ r
  rank-place r h =
      elim (place-is r h) [
        | inl p ↦ elim (rank-is (place r root n) (place-below r h)) [
          | inl q ↦ let e = p.1 in let f = q.1 in let high = p.0 in omega arith
          | inr q ↦ let e = p.1 in let far = q.0 in let high = p.0 in absurd (omega arith)
        ]
        | inr p ↦ elim (rank-is (place r root n) (place-below r h)) [
          | inl q ↦ let e = p.1 in let near = q.0 in absurd (omega arith)
          | inr q ↦ let e = p.1 in let f = q.1 in let low = p.0 in omega arith
        ]
      ]

  -- another place is that of another rank
  other-rank : (v r : ℕ) → v < n → r < n → v ≢ place r root n → rank_at v root n ≢ r
  other-rank v r h k other e = other (sym (place-rank v h) ∙ ap (λ x. place x root n) e)

  pub place-other : (r : ℕ) → r < n → r ≢ root → place r root n ≢ 0
  place-other r h other = elim (place-is r h) [
    | inl p ↦ let e = p.1 in let high = p.0 in λ z. other (omega arith)
    | inr p ↦ let e = p.1 in let low = p.0 in λ z. absurd (omega arith)
  ]

-- ---- the messages of a parent
nothing : {A C : Type 0} (f : A → List C) (xs : List A) → ((x : A) → f x ≡ []) → flat_map f xs ≡ []
nothing f [] h = refl
nothing f (x ∷ xs) h = ap (λ ys. ys ++ flat_map f xs) (h x) ∙ nothing f xs h

-- of the places below place v one is u, and nothing comes of another
module _ (f : ℕ → List Letter) (n v u : ℕ) (is : v ≡ place_above u) (some : u ≢ 0) (low : u < n) (none : (c : ℕ) → c < n → c ≢ u → f c ≡ []) where
  abbrev first : ℕ
  first = 2 * v + 1

  abbrev second : ℕ
  second = 2 * v + 2

  tested : (s t : Bool) → nat_lt first n ≡ s → nat_lt second n ≡ t
      → flat_map f (places_below v n) ≡ flat_map f (cond s (first ∷ cond t (second ∷ []) []) (cond t (second ∷ []) []))
  tested s t e g =
      ap (λ x. flat_map f (cond x (first ∷ cond (nat_lt second n) (second ∷ []) []) (cond (nat_lt second n) (second ∷ []) []))) e
      ∙ ap (λ x. flat_map f (cond s (first ∷ cond x (second ∷ []) []) (cond x (second ∷ []) []))) g

  lower : u ≡ first → (t : Bool) → nat_lt second n ≡ t → flat_map f (places_below v n) ≡ f u ++ []
  lower here true g =
      let e : nat_lt first n ≡ true = grind (arith, nat_tests) in
      let below : second < n = grind (arith, nat_tests) in
      tested true true e g
      ∙ ap (λ ls. f first ++ (ls ++ [])) (none second below (omega arith))
      ∙ ap (λ k. f k ++ []) (sym here)
  lower here false g =
      let e : nat_lt first n ≡ true = grind (arith, nat_tests) in
      tested true false e g ∙ ap (λ k. f k ++ []) (sym here)

  upper : u ≡ second → flat_map f (places_below v n) ≡ f u ++ []
  upper here =
      let e : nat_lt first n ≡ true = grind (arith, nat_tests) in
      let g : nat_lt second n ≡ true = grind (arith, nat_tests) in
      let below : first < n = omega arith in
      tested true true e g
      ∙ ap (λ ls. ls ++ (f second ++ [])) (none first below (omega arith))
      ∙ ap (λ k. f k ++ []) (sym here)

  one-below : flat_map f (places_below v n) ≡ f u ++ []
  one-below = elim (cases_lt u second) [
    | inl below ↦ lower (omega arith) (nat_lt second n) refl
    | inr above ↦ upper (omega arith)
  ]

-- ---- messages in lists
found-here : {A : Type 0} (x : A) (xs : List A) → Contains (x ∷ xs) x
found-here x xs = (0, omega arith, refl)

found-next : {A : Type 0} (y : A) (xs : List A) (x : A) → Contains xs x → Contains (y ∷ xs) x
found-next y xs x h = Contains-append_right (y ∷ []) xs x h

-- what is made of an element of a list
found-made : {A B : Type 0} (g : A → B) (xs : List A) (x : A) → Contains xs x → Contains (map g xs) (g x)
found-made g [] x h = absurd (omega (arith, h.1))
found-made g (y ∷ ys) x h =
    elim (Contains-append_cases (y ∷ []) ys x h) [
      | inl one ↦
          let same : y ≡ x = All-contains (λ z. y ≡ z) (y ∷ []) x (All-cons (λ z. y ≡ z) y [] refl (All-nil (λ z. y ≡ z))) one in
          subst (λ z. Contains (map g (y ∷ ys)) (g z)) same (found-here (g y) (map g ys))
      | inr rest ↦ found-next (g y) (map g ys) (g x) (found-made g ys x rest)
    ]

-- a place is one of those below the place above it
found-below : (n v u : ℕ) → v ≡ place_above u → u ≢ 0 → u < n → Contains (places_below v n) u
found-below n v u is some low = elim (cases_lt u (2 * v + 2)) [
  | inl below ↦ first (omega arith) (grind (arith, nat_tests))
  | inr above ↦ second (omega arith) (grind (arith, nat_tests)) (grind (arith, nat_tests))
]
  where
    first : u ≡ 2 * v + 1 → nat_lt (2 * v + 1) n ≡ true → Contains (places_below v n) u
    first here e =
        let rest = cond (nat_lt (2 * v + 2) n) ((2 * v + 2) ∷ []) [] in
        subst (λ b. Contains (cond b ((2 * v + 1) ∷ rest) rest) u) (sym e)
        (subst (λ x. Contains ((2 * v + 1) ∷ rest) x) (sym here) (found-here (2 * v + 1) rest))

    second : u ≡ 2 * v + 2 → nat_lt (2 * v + 1) n ≡ true → nat_lt (2 * v + 2) n ≡ true → Contains (places_below v n) u
    second here e g =
        let rest = cond (nat_lt (2 * v + 2) n) ((2 * v + 2) ∷ []) [] in
        subst (λ b. Contains (cond b ((2 * v + 1) ∷ rest) rest) u) (sym e)
        (found-next (2 * v + 1) rest u
        (subst (λ b. Contains (cond b ((2 * v + 2) ∷ []) []) u) (sym g)
        (subst (λ x. Contains ((2 * v + 2) ∷ []) x) (sym here) (found-here (2 * v + 2) []))))

-- lanes whose ends differ
other-to : (p r d tag : ℕ) → r ≢ d → is_lane (lane p r kind.Copy tag) (lane p d kind.Copy tag) ≡ false
other-to p r d tag other = by_test (is_lane (lane p r kind.Copy tag) (lane p d kind.Copy tag)) refl
  where
    by_test : (t : Bool) → is_lane (lane p r kind.Copy tag) (lane p d kind.Copy tag) ≡ t → is_lane (lane p r kind.Copy tag) (lane p d kind.Copy tag) ≡ false
    by_test true e = absurd (other (ap (λ (a : Lane). a.to) (same_lane _ _ e)))
    by_test false e = e

other-from : (p r d tag : ℕ) → r ≢ d → is_lane (lane d p kind.Undo tag) (lane r p kind.Undo tag) ≡ false
other-from p r d tag other = by_test (is_lane (lane d p kind.Undo tag) (lane r p kind.Undo tag)) refl
  where
    by_test : (t : Bool) → is_lane (lane d p kind.Undo tag) (lane r p kind.Undo tag) ≡ t → is_lane (lane d p kind.Undo tag) (lane r p kind.Undo tag) ≡ false
    by_test true e = absurd (other (sym (ap (λ (a : Lane). a.from) (same_lane _ _ e))))
    by_test false e = e

module _ (w : Wiring) (n root tag : ℕ) (q : ℕ → ℕ) (known : root < n) (d : ℕ) (low : d < n) (other : d ≢ root) where
  abbrev p : ℕ
  p = parent d root n

  -- the rank's own place, and its parent's
  own-place : place d root n ≢ 0
  own-place = place-other n root known d low other

  parent-place : place p root n ≡ place_above (place d root n)
  parent-place =
      let below = place-below n root known d low in
      place-rank n root known (place_above (place d root n)) (omega arith)

  one-parent : parents d root n ≡ p ∷ []
  one-parent = elim (eqb_tells (place d root n) 0) [
    | inl h ↦ absurd (own-place h.1)
    | inr h ↦ ap (λ b. cond b [] (p ∷ [])) h.0
  ]

  -- what comes of the parent's messages with its children, where it comes of the one with this rank alone
  of-children : (f : Instr → List Letter) (g : ℕ → Instr) → ((c : ℕ) → c ≢ d → f (g c) ≡ []) → flat_map f (map g (children p root n)) ≡ f (g d) ++ []
  of-children f g none =
      let v = place p root n in
      flat_map-map f g (children p root n)
      ∙ flat_map-map (λ c. f (g c)) (λ c. rank_at c root n) (places_below v n)
      ∙ one-below (λ c. f (g (rank_at c root n))) n v (place d root n) parent-place own-place (place-below n root known d low)
      (λ c h k. none (rank_at c root n) (other-rank n root known c d h low k))
      ∙ ap (λ r. f (g r) ++ []) (rank-place n root known d low)

  -- the parent has this rank as its child, so that both lists have their ends of the message
  one-child : Contains (children p root n) d
  one-child =
      let v = place p root n in
      subst (Contains (children p root n)) (rank-place n root known d low)
      (found-made (λ c. rank_at c root n) (places_below v n) (place d root n)
      (found-below n v (place d root n) parent-place own-place (place-below n root known d low)))

  pub copy-listed : Contains (instructions_at (call_of Cast (q p) root tag) p n) (instr.CopyTo (q p) d tag)
  copy-listed =
      Contains-append_right (map (with_parent Cast (q p) tag) (parents p root n)) (map (with_child Cast (q p) tag) (children p root n)) (instr.CopyTo (q p) d tag)
      (found-made (with_child Cast (q p) tag) (children p root n) d one-child)

  pub taking-listed : Contains (instructions_at (call_of Uncast (q p) root tag) p n) (instr.UndoFrom (q p) d tag)
  taking-listed =
      Contains-append_left (map (with_child Uncast (q p) tag) (children p root n)) (map (with_parent Uncast (q p) tag) (parents p root n)) (instr.UndoFrom (q p) d tag)
      (found-made (with_child Uncast (q p) tag) (children p root n) d one-child)

  pub giving-listed : Contains (instructions_at (call_of Uncast (q d) root tag) d n) (instr.UndoTo (q d) p tag)
  giving-listed =
      Contains-append_right (map (with_child Uncast (q d) tag) (children d root n)) (map (with_parent Uncast (q d) tag) (parents d root n)) (instr.UndoTo (q d) p tag)
      (found-made (with_parent Uncast (q d) tag) (parents d root n) p (subst (λ ps. Contains ps p) (sym one-parent) (found-here p [])))

  abbrev calls : TreeOp → ℕ → TreeCall
  calls op r = call_of op (q r) root tag

  abbrev programs : TreeOp → ℕ → List Instr
  programs op r = instructions_at (calls op r) r n

  -- the letters by those of the one message
  letters-by : (op : TreeOp) → letters_up w n (calls op) d ≡ letters_at w (programs op) d (with_parent op (q d) tag p) ++ []
  letters-by op = ap (λ ps. flat_map (letters_at w (programs op) d) (map (with_parent op (q d) tag) ps)) one-parent

  -- a copy comes down from the parent
  pub letters-down : letters_up w n (calls Cast) d ≡ Cx (w.slot p (q p)) (w.sent p d) ∷ []
  letters-down =
      let f = letters_between w d (instr.CopyFrom (q d) p tag) p in
      let ups = map (with_parent Cast (q p) tag) (parents p root n) in
      letters-by Cast
      ∙ ap (λ ls. ls ++ [])
      (flat_map-append f ups (map (with_child Cast (q p) tag) (children p root n))
      ∙ ap (λ ls. ls ++ flat_map f (map (with_child Cast (q p) tag) (children p root n)))
      (flat_map-map f (with_parent Cast (q p) tag) (parents p root n) ∙ nothing (λ x. f (with_parent Cast (q p) tag x)) (parents p root n) (λ x. refl))
      ∙ of-children f (with_child Cast (q p) tag)
      (λ c apart. ap (λ b. cond b (Cx (w.slot p (q p)) (w.sent p d) ∷ []) []) (other-to p c d tag apart)))
      ∙ ap (λ ls. (ls ++ []) ++ []) (met (lane p d kind.Copy tag) (w.slot p (q p)) (w.slot d (q d)) (w.sent p d))

  -- a copy goes back to the parent
  pub letters-back : letters_up w n (calls Uncast) d ≡ Cx (w.slot p (q p)) (w.slot d (q d)) ∷ Take (w.slot d (q d)) false ∷ []
  letters-back =
      let f = letters_between w d (instr.UndoTo (q d) p tag) p in
      let downs = map (with_child Uncast (q p) tag) (children p root n) in
      let ups = map (with_parent Uncast (q p) tag) (parents p root n) in
      letters-by Uncast
      ∙ ap (λ ls. ls ++ [])
      (flat_map-append f downs ups
      ∙ ap (λ ls. flat_map f downs ++ ls)
      (flat_map-map f (with_parent Uncast (q p) tag) (parents p root n) ∙ nothing (λ x. f (with_parent Uncast (q p) tag x)) (parents p root n) (λ x. refl))
      ∙ ap (λ ls. ls ++ [])
      (of-children f (with_child Uncast (q p) tag)
      (λ c apart. ap (λ b. cond b (Cx (w.slot p (q p)) (w.slot d (q d)) ∷ Take (w.slot d (q d)) false ∷ []) [] ++ []) (other-from p c d tag apart))))
      ∙ ap (λ ls. (((ls ++ []) ++ []) ++ []) ++ []) (met (lane d p kind.Undo tag) (w.slot d (q d)) (w.slot p (q p)) (w.sent d p))
