-- Operations on lists that are put together
use Rattle.std.proofs.Common.{◌≡◌, ℕ, zero, suc, ◌+◌, ◌-◌, ◌*◌, ◌<◌, inl, inr, List, [], ◌∷◌, ◌++◌, length, length-append, refl, sym, ap, subst, ◌∙◌, arith}
use mathlib.Core.Path.{fun_ext}
use Rattle.std.proofs.lemmas.Bool.{cases_lt}
use Rattle.qm_zomega.specs.NumberLists.{seen_at, IsListBy}
use Rattle.qm_kernels.specs.Done.{IsDone}

module _ {A B : Type 0} (see : A → B) (past : B) where
  -- entries of lists that are put together
  pub seen-front : (xs ys : List A) (k : ℕ) → k < length xs → seen_at see past (xs ++ ys) k ≡ seen_at see past xs k
  seen-front [] ys k h = absurd (omega arith)
  seen-front (x ∷ xs) ys zero h = refl
  seen-front (x ∷ xs) ys (suc k) h = seen-front xs ys k (omega arith)

  pub seen-back : (xs ys : List A) (n k : ℕ) → length xs ≡ n → seen_at see past (xs ++ ys) (n + k) ≡ seen_at see past ys k
  seen-back [] ys n k e = let z : n + k ≡ k = omega arith in rw z refl
  seen-back (x ∷ xs) ys zero k e = absurd (omega arith)
  seen-back (x ∷ xs) ys (suc n) k e = let s : suc n + k ≡ suc (n + k) = omega arith in rw s (seen-back xs ys n k (omega arith))

  -- a list of two parts, part by part
  pub listed_parts : (us vs : List A) (n k : ℕ) (g : ℕ → B) → length us ≡ n → length vs ≡ k
      → ((i : ℕ) → i < n → seen_at see past us i ≡ g i) → ((r : ℕ) → r < k → seen_at see past vs r ≡ g (n + r))
      → IsListBy see past (us ++ vs) (n + k) g
  listed_parts us vs n k g first second low high = record {
    size = length-append us vs ∙ omega arith;
    numbers = λ i h. elim (cases_lt i n) [
      | inl lt ↦ seen-front us vs i (omega arith) ∙ low i lt
      | inr le ↦
          let e : i ≡ n + (i - n) = omega arith in
          subst (λ j. seen_at see past (us ++ vs) j ≡ g j) (sym e) (seen-back us vs n (i - n) first ∙ high (i - n) (omega arith))
    ];
  }

-- the operation goes by the entries of a block alone, in blocks of n entries
pub record IsLocal {B : Type 0} (n : ℕ) (op : (ℕ → B) → ℕ → B) : Type 0 where
  pub shifted : (f : ℕ → B) (m r : ℕ) → op f (m * n + r) ≡ op (λ j. f (m * n + j)) r
  pub near : (f g : ℕ → B) (m r : ℕ) → r < m * n → ((j : ℕ) → j < m * n → f j ≡ g j) → op f r ≡ op g r

module _ {A B : Type 0} (see : A → B) (past : B) (n : ℕ) (op : (ℕ → B) → ℕ → B) (local : IsLocal n op) where
  op-front : (xs ys : List A) (m i : ℕ) → length xs ≡ m * n → i < length xs
      → op (seen_at see past (xs ++ ys)) i ≡ op (seen_at see past xs) i
  op-front xs ys m i size h = local.near _ _ m i (omega arith) (λ j l. seen-front see past xs ys j (omega arith))

  op-back : (xs ys : List A) (m r : ℕ) → length xs ≡ m * n → op (seen_at see past (xs ++ ys)) (length xs + r) ≡ op (seen_at see past ys) r
  op-back xs ys m r size =
      let each : (j : ℕ) → seen_at see past (xs ++ ys) (m * n + j) ≡ seen_at see past ys j = λ j. seen-back see past xs ys (m * n) j size in
      let same : (λ (j : ℕ). seen_at see past (xs ++ ys) (m * n + j)) ≡ seen_at see past ys = fun_ext each in
      rw size (local.shifted (seen_at see past (xs ++ ys)) m r ∙ ap (λ (f : ℕ → B). op f r) same)

  -- done to two lists of whole blocks, it is done to both together
  pub done_joined : (m : ℕ) (xs ys us vs : List A) → length xs ≡ m * n → IsDone see past op xs us → IsDone see past op ys vs
      → IsDone see past op (xs ++ ys) (us ++ vs)
  done_joined m xs ys us vs size first second =
      let sum : length (xs ++ ys) ≡ length xs + length ys = length-append xs ys in
      rw sum (listed_parts see past us vs (length xs) (length ys) (op (seen_at see past (xs ++ ys))) first.size second.size
      (λ i h. first.numbers i h ∙ sym (op-front xs ys m i size h))
      (λ r h. second.numbers r h ∙ sym (op-back xs ys m r size)))

  -- and what holds of each number of a list of whole blocks holds in its parts
  pub parts_held : (holds : B → Type 0) (m : ℕ) (xs ys : List A) → length xs ≡ m * n
      → ((i : ℕ) → i < length (xs ++ ys) → holds (op (seen_at see past (xs ++ ys)) i))
      → ((i : ℕ) → i < length xs → holds (op (seen_at see past xs) i)) × ((i : ℕ) → i < length ys → holds (op (seen_at see past ys) i))
  parts_held holds m xs ys size all =
      let sum : length (xs ++ ys) ≡ length xs + length ys = length-append xs ys in (
        (λ i h. subst holds (op-front xs ys m i size h) (all i (omega arith))),
        (λ i h. subst holds (op-back xs ys m i size) (all (length xs + i) (omega arith))),
      )

  -- and what holds in two such lists holds in both together
  pub both_held : (holds : B → Type 0) (m : ℕ) (xs ys : List A) → length xs ≡ m * n
      → ((i : ℕ) → i < length xs → holds (op (seen_at see past xs) i)) → ((i : ℕ) → i < length ys → holds (op (seen_at see past ys) i))
      → (i : ℕ) → i < length (xs ++ ys) → holds (op (seen_at see past (xs ++ ys)) i)
  both_held holds m xs ys size first second i h =
      let sum : length (xs ++ ys) ≡ length xs + length ys = length-append xs ys in
      elim (cases_lt i (length xs)) [
        | inl lt ↦ subst holds (sym (op-front xs ys m i size lt)) (first i lt)
        | inr le ↦
            let e : i ≡ length xs + (i - length xs) = omega arith in
            subst (λ j. holds (op (seen_at see past (xs ++ ys)) j)) (sym e)
            (subst holds (sym (op-back xs ys m (i - length xs) size)) (second (i - length xs) (omega arith)))
      ]

-- nothing is done to no entry
pub done_nothing : {A B : Type 0} (see : A → B) (past : B) (op : (ℕ → B) → ℕ → B) → IsDone see past op [] []
done_nothing see past op = record { size = refl; numbers = λ k h. absurd (omega arith) }

-- what is seen of an entry
pub seen-through : {A B : Type 0} (see : A → B) (past : B) (z : A) → see z ≡ past → (xs : List A) (k : ℕ)
    → see (seen_at (λ x. x) z xs k) ≡ seen_at see past xs k
seen-through see past z e [] k = e
seen-through see past z e (x ∷ xs) zero = refl
seen-through see past z e (x ∷ xs) (suc k) = seen-through see past z e xs k

-- an operation that only moves entries moves what is seen of them
pub done_seen : {A B : Type 0} (see : A → B) (past : B) (z : A) → see z ≡ past → (opA : (ℕ → A) → ℕ → A) (opB : (ℕ → B) → ℕ → B)
    → ((f : ℕ → A) (i : ℕ) → see (opA f i) ≡ opB (λ j. see (f j)) i)
    → (xs us : List A) → IsDone (λ x. x) z opA xs us → IsDone see past opB xs us
done_seen {A} {B} see past z e opA opB natural xs us done = record {
  size = done.size;
  numbers = λ k h.
      let same : (λ (j : ℕ). see (seen_at (λ x. x) z xs j)) ≡ seen_at see past xs = fun_ext (seen-through see past z e xs) in
      sym (seen-through see past z e us k) ∙ ap see (done.numbers k h) ∙ natural (seen_at (λ x. x) z xs) k
      ∙ ap (λ (f : ℕ → B). opB f k) same;
}
