-- The ranks but the root, by their place in rising order, and the instructions of a rank by their place
use Rattle.std.proofs.Common.{◌≡◌, ◌≢◌, ◌⊎◌, inl, inr, ℕ, zero, suc, ◌+◌, ◌-◌, ◌<◌, ◌≤◌, min, cond, ltb, [], ◌∷◌, ◌++◌, length, get_or, map, refl, sym, ap, ◌∙◌, arith}
use Rattle.std.specs.Prelude.{Option, Some, None, slice_get}
use Rattle.std.proofs.lemmas.Bool.Decides.{eqb_tells, nat_tests}
use Rattle.std.specs.Option.{option_map, option_to_list}
use Rattle.std.proofs.lemmas.List.{get_or_append_left, get_or_push, length_push, length-append, length-map}
use Rattle.std.proofs.lemmas.Option.{slice_get-get_or, slice_get_past, slice_get-map}
use Rattle.std.proofs.lemmas.Bool.{cases_lt, eq-eqb}
use Rattle.qm_instr.specs.declared.Instr.{Instr}
use Rattle.qm_collect.specs.declared.Collective.{Collective}
use Rattle.qm_collect.specs.Table.{others, line_of, root_of, instructions_at}

-- the last rank is left out where it is the root, and stands last elsewhere
pub others-step : (root n : ℕ)
    → ((n ≡ root) × (others root (suc n) ≡ others root n)) ⊎ ((n ≢ root) × (others root (suc n) ≡ others root n ++ n ∷ []))
others-step root n = elim (eqb_tells n root) [
  | inl h ↦ inl (h.1, ap (λ b. cond b (others root n) (others root n ++ n ∷ [])) h.0)
  | inr h ↦ inr (h.1, ap (λ b. cond b (others root n) (others root n ++ n ∷ [])) h.0)
]

-- one rank less than all where the root is one of them
pub length-others : (root n : ℕ) → length (others root n) + min 1 (n - root) ≡ n
length-others root zero = omega arith
length-others root (suc n) =
    let rest = length-others root n in
    elim (others-step root n) [
      | inl s ↦ let l = ap length s.1 in omega arith
      | inr s ↦ let l = ap length s.1 ∙ length_push (others root n) n in omega arith
    ]

-- below the root the j-th is j, and from there on it is the next one
pub get_or-others : (root n j d : ℕ) → j < length (others root n)
    → get_or (others root n) j d ≡ cond (ltb j root) j (j + 1)
get_or-others root zero j d below = absurd (omega arith)
get_or-others root (suc n) j d below = elim (others-step root n) [
  | inl s ↦
      let long = ap length s.1 in
      let within : j < length (others root n) = omega arith in
      ap (λ xs. get_or xs j d) s.1 ∙ get_or-others root n j d within
  | inr s ↦
      let long = ap length s.1 in
      let within : j < length (others root n ++ n ∷ []) = omega arith in
      ap (λ xs. get_or xs j d) s.1
      ∙ last (get_or-others root n j d) s.0 within (cases_lt j (length (others root n)))
]
  where
    newest : n ≢ root → length (others root n) + min 1 (n - root) ≡ n → length (others root n) ≡ j
        → n ≡ cond (ltb j root) j (j + 1)
    newest apart long at = grind (arith, nat_tests)

    last : (j < length (others root n) → get_or (others root n) j d ≡ cond (ltb j root) j (j + 1))
        → n ≢ root → j < length (others root n ++ n ∷ [])
        → (j < length (others root n)) ⊎ (length (others root n) ≤ j) → get_or (others root n ++ n ∷ []) j d ≡ cond (ltb j root) j (j + 1)
    last rest apart within (inl h) = get_or_append_left (others root n) (n ∷ []) d j h ∙ rest h
    last rest apart within (inr h) =
        let pushed = length_push (others root n) n in
        let long = length-others root n in
        let at : length (others root n) ≡ j = omega arith in
        get_or_push (others root n) n d j at ∙ newest apart long at

-- the same of the element, if there is one
module _ (root n j : ℕ) (known : root < n) where
  pub other_below : j < root → slice_get (others root n) j ≡ Some j
  other_below low =
      let long = length-others root n in
      let within : j < length (others root n) = omega arith in
      slice_get-get_or (others root n) j 0 within ∙ ap Some (get_or-others root n j 0 within ∙ same)
    where
      same : cond (ltb j root) j (j + 1) ≡ j
      same = grind (arith, nat_tests)

  pub other_above : root ≤ j → j < n - 1 → slice_get (others root n) j ≡ Some (j + 1)
  other_above high below =
      let long = length-others root n in
      let within : j < length (others root n) = omega arith in
      slice_get-get_or (others root n) j 0 within ∙ ap Some (get_or-others root n j 0 within ∙ next)
    where
      next : cond (ltb j root) j (j + 1) ≡ j + 1
      next = grind (arith, nat_tests)

  pub other_past : n - 1 ≤ j → slice_get (others root n) j ≡ None
  other_past past = let long = length-others root n in slice_get_past (others root n) j (omega arith)

-- the list of a rank other than the root, and of the root
module _ (which : Collective) (rank n : ℕ) where
  pub at_other : rank ≢ root_of which
      → instructions_at which rank n ≡ (line_of which).elsewhere ∷ []
  at_other apart = elim (eqb_tells rank (root_of which)) [
    | inl h ↦ absurd (apart h.1)
    | inr h ↦ ap (λ b. cond b ((line_of which).own ++ map (line_of which).message (others (root_of which) n)) ((line_of which).elsewhere ∷ [])) h.0
  ]

  pub at_root : rank ≡ root_of which
      → instructions_at which rank n ≡ (line_of which).own ++ map (line_of which).message (others (root_of which) n)
  at_root is =
      ap (λ b. cond b ((line_of which).own ++ map (line_of which).message (others (root_of which) n)) ((line_of which).elsewhere ∷ []))
      (eq-eqb rank (root_of which) is)

  module _ (is : rank ≡ root_of which) where
    -- how many they are
    pub length-at_root : (own : Option Instr) → option_to_list own ≡ (line_of which).own
        → root_of which < n
        → length (instructions_at which rank n) ≡ length (option_to_list own) + (n - 1)
    length-at_root own e known =
        let ds = others (root_of which) n in
        let long = length-others (root_of which) n in
        ap length (at_root is ∙ ap (λ is. is ++ map (line_of which).message ds) (sym e))
        ∙ length-append (option_to_list own) (map (line_of which).message ds)
        ∙ ap (λ l. length (option_to_list own) + l) (length-map ds (line_of which).message ∙ omega arith)

    -- the messages stand after the root's own gate, where it has one
    pub message_alone : (j : ℕ) → [] ≡ (line_of which).own
        → slice_get (instructions_at which rank n) j ≡ option_map (line_of which).message (slice_get (others (root_of which) n) j)
    message_alone j e =
        let ds = others (root_of which) n in
        ap (λ xs. slice_get xs j) (at_root is ∙ ap (λ is. is ++ map (line_of which).message ds) (sym e))
        ∙ slice_get-map (line_of which).message ds j

    pub message_after : (gate : Instr) (j : ℕ) → gate ∷ [] ≡ (line_of which).own → j ≢ 0
        → slice_get (instructions_at which rank n) j ≡ option_map (line_of which).message (slice_get (others (root_of which) n) (j - 1))
    message_after gate zero e some = absurd (some refl)
    message_after gate (suc j) e some =
        let ds = others (root_of which) n in
        let back : suc j - 1 ≡ j = omega arith in
        ap (λ xs. slice_get xs (suc j)) (at_root is ∙ ap (λ is. is ++ map (line_of which).message ds) (sym e))
        ∙ slice_get-map (line_of which).message ds j
        ∙ ap (λ k. option_map (line_of which).message (slice_get ds k)) (sym back)
