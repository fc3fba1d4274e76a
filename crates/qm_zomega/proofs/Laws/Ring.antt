-- The ring without its product: ⊕, ⊖ and the negative
use Rattle.std.proofs.Common.{◌≡◌, ◌∙◌, ap, arith, refl}
use Rattle.std.proofs.lemmas.Int.{ints}
use Rattle.qm_zomega.specs.Numbers.{Number, number, plus, minus, ◌⊕◌, ◌⊖◌, negative, zero_number}

-- numbers with equal components are equal
pub same : (z w : Number) → z.a ≡ w.a → z.b ≡ w.b → z.c ≡ w.c → z.d ≡ w.d → z ≡ w
same z w a b c d =
    ap (λ t. number t z.b z.c z.d) a ∙ ap (λ t. number w.a t z.c z.d) b
    ∙ ap (λ t. number w.a w.b t z.d) c ∙ ap (λ t. number w.a w.b w.c t) d

pub plus_comm : (z w : Number) → z ⊕ w ≡ w ⊕ z
unfolding plus
plus_comm z w = same _ _ (omega (arith, ints)) (omega (arith, ints)) (omega (arith, ints)) (omega (arith, ints))

pub plus_assoc : (x y z : Number) → (x ⊕ y) ⊕ z ≡ x ⊕ (y ⊕ z)
unfolding plus
plus_assoc x y z = same _ _ (omega (arith, ints)) (omega (arith, ints)) (omega (arith, ints)) (omega (arith, ints))

pub plus-zero : (z : Number) → z ⊕ zero_number ≡ z
unfolding plus
plus-zero z = same _ _ (omega (arith, ints)) (omega (arith, ints)) (omega (arith, ints)) (omega (arith, ints))

pub zero-plus : (z : Number) → zero_number ⊕ z ≡ z
unfolding plus
zero-plus z = same _ _ (omega (arith, ints)) (omega (arith, ints)) (omega (arith, ints)) (omega (arith, ints))

pub minus-zero : (z : Number) → z ⊖ zero_number ≡ z
unfolding minus
minus-zero z = same _ _ (omega (arith, ints)) (omega (arith, ints)) (omega (arith, ints)) (omega (arith, ints))

pub zero-minus : (z : Number) → zero_number ⊖ z ≡ negative z
unfolding minus negative
zero-minus z = same _ _ (omega (arith, ints)) (omega (arith, ints)) (omega (arith, ints)) (omega (arith, ints))

pub minus_same : (z : Number) → z ⊖ z ≡ zero_number
unfolding minus
minus_same z = same _ _ (omega (arith, ints)) (omega (arith, ints)) (omega (arith, ints)) (omega (arith, ints))

pub negative-zero : negative zero_number ≡ zero_number
unfolding negative
negative-zero = refl

pub negative-negative : (z : Number) → negative (negative z) ≡ z
unfolding negative
negative-negative z = same _ _ (omega (arith, ints)) (omega (arith, ints)) (omega (arith, ints)) (omega (arith, ints))

pub plus-negative : (z w : Number) → z ⊕ negative w ≡ z ⊖ w
unfolding plus minus negative
plus-negative z w = same _ _ (omega (arith, ints)) (omega (arith, ints)) (omega (arith, ints)) (omega (arith, ints))

pub plus-negative_same : (z : Number) → z ⊕ negative z ≡ zero_number
plus-negative_same z = plus-negative z z ∙ minus_same z

pub minus-negative : (z w : Number) → z ⊖ negative w ≡ z ⊕ w
unfolding plus minus negative
minus-negative z w = same _ _ (omega (arith, ints)) (omega (arith, ints)) (omega (arith, ints)) (omega (arith, ints))

pub negative-plus : (z w : Number) → negative (z ⊕ w) ≡ negative z ⊕ negative w
unfolding plus negative
negative-plus z w = same _ _ (omega (arith, ints)) (omega (arith, ints)) (omega (arith, ints)) (omega (arith, ints))

pub negative-minus : (z w : Number) → negative (z ⊖ w) ≡ w ⊖ z
unfolding minus negative
negative-minus z w = same _ _ (omega (arith, ints)) (omega (arith, ints)) (omega (arith, ints)) (omega (arith, ints))

-- the sum and the difference of two numbers give each of them twice
pub plus-plus-minus : (z w : Number) → (z ⊕ w) ⊕ (z ⊖ w) ≡ z ⊕ z
unfolding plus minus
plus-plus-minus z w = same _ _ (omega (arith, ints)) (omega (arith, ints)) (omega (arith, ints)) (omega (arith, ints))

pub minus-plus-minus : (z w : Number) → (z ⊕ w) ⊖ (z ⊖ w) ≡ w ⊕ w
unfolding plus minus
minus-plus-minus z w = same _ _ (omega (arith, ints)) (omega (arith, ints)) (omega (arith, ints)) (omega (arith, ints))

-- of four numbers, first the pairs or first across them
pub plus-plus_swap : (a b c d : Number) → (a ⊕ b) ⊕ (c ⊕ d) ≡ (a ⊕ c) ⊕ (b ⊕ d)
unfolding plus
plus-plus_swap a b c d = same _ _ (omega (arith, ints)) (omega (arith, ints)) (omega (arith, ints)) (omega (arith, ints))

pub plus-minus_swap : (a b c d : Number) → (a ⊖ b) ⊕ (c ⊖ d) ≡ (a ⊕ c) ⊖ (b ⊕ d)
unfolding plus minus
plus-minus_swap a b c d = same _ _ (omega (arith, ints)) (omega (arith, ints)) (omega (arith, ints)) (omega (arith, ints))

pub minus-plus_swap : (a b c d : Number) → (a ⊕ b) ⊖ (c ⊕ d) ≡ (a ⊖ c) ⊕ (b ⊖ d)
unfolding plus minus
minus-plus_swap a b c d = same _ _ (omega (arith, ints)) (omega (arith, ints)) (omega (arith, ints)) (omega (arith, ints))

pub minus-minus_swap : (a b c d : Number) → (a ⊖ b) ⊖ (c ⊖ d) ≡ (a ⊖ c) ⊖ (b ⊖ d)
unfolding minus
minus-minus_swap a b c d = same _ _ (omega (arith, ints)) (omega (arith, ints)) (omega (arith, ints)) (omega (arith, ints))
