-- What the weight of a circuit is that equals another one and unitary letters, up to n
use Rattle.std.proofs.Common.{◌≡◌, ◌≢◌, ℕ, ◌+◌, ◌*◌, ◌^◌, ◌≤◌, ◌<◌, List, ◌++◌, sym, ap, ◌∙◌, arith}
use Rattle.std.proofs.Math.Nat.{mul-le-mul_left, le_of_mul-le-mul_left}
use Rattle.std.proofs.lemmas.Nat.{pow-add, pow_pos}
use Rattle.qm_denot.specs.declared.Letter.{Letter}
use Rattle.qm_denot.specs.Circuits.{Circuit, halvings, IsEqualUpTo}
use Rattle.qm_denot.specs.CircuitFacts.{AllProper, IsNonzero}
use Rattle.qm_denot.specs.Weights.{weight}
use Rattle.qm_denot.proofs.Amplitudes.{halvings-append}
use Rattle.qm_denot.proofs.Inverses.{AllUnitary}
use Rattle.qm_denot.proofs.Weights.{weight-equal_up_to, weight-append_unitary, weight_le, weight_where_nonzero}

-- a product can be divided by a number that is not zero
cancel : (k m n : ℕ) → 0 < k → k * m ≡ k * n → m ≡ n
cancel k m n positive e =
    let low = le_of_mul-le-mul_left (let h : k * m ≤ k * n = omega arith in h) positive in
    let high = le_of_mul-le-mul_left (let h : k * n ≤ k * m = omega arith in h) positive in
    omega arith

module _ (n : ℕ) (g i : Circuit) (ds : List Letter) (same : IsEqualUpTo n g (i ++ ds)) (unitary : AllUnitary ds) where
  -- the letters owed have no part in it
  pub measured : (2 ^ halvings i * 2 ^ n) * weight g ≡ 2 ^ halvings g * weight i
  measured =
      let a = 2 ^ halvings i in
      let d = 2 ^ halvings ds in
      let both = weight-equal_up_to g (i ++ ds) n same in
      let owed = weight-append_unitary i ds unitary in
      let power : 2 ^ (halvings (i ++ ds) + n) ≡ (a * d) * 2 ^ n =
      ap (λ k. 2 ^ (k + n)) (halvings-append i ds) ∙ pow-add 2 (halvings i + halvings ds) n ∙ ap (λ k. k * 2 ^ n) (pow-add 2 (halvings i) (halvings ds)) in
      cancel d ((a * 2 ^ n) * weight g) (2 ^ halvings g * weight i) (pow_pos (halvings ds))
      (regrouped a d (2 ^ n) (weight g) ∙ ap (λ k. k * weight g) (sym power) ∙ both ∙ ap (λ k. 2 ^ halvings g * k) owed ∙ moved (2 ^ halvings g) d (weight i))
    where
      regrouped : (a d b w : ℕ) → d * ((a * b) * w) ≡ ((a * d) * b) * w
      regrouped a d b w = omega arith

      moved : (b d w : ℕ) → b * (d * w) ≡ d * (b * w)
      moved b d w = omega arith

  -- so it isn't zero where the other circuit isn't
  pub weight_some : IsNonzero i → weight g ≢ 0
  weight_some some none =
      let e : (2 ^ halvings i * 2 ^ n) * weight g ≡ (2 ^ halvings i * 2 ^ n) * 0 = ap (λ k. (2 ^ halvings i * 2 ^ n) * k) none in
      let h : 2 ^ halvings g * weight i ≡ 2 ^ halvings g * 0 = sym measured ∙ e ∙ zeros (2 ^ halvings i * 2 ^ n) (2 ^ halvings g) in
      weight_where_nonzero i some (cancel (2 ^ halvings g) (weight i) 0 (pow_pos (halvings g)) h)
    where
      zeros : (a b : ℕ) → a * 0 ≡ b * 0
      zeros a b = omega arith

  -- and it is as small as the other circuit's allows
  pub weight_few : AllProper i → weight g * 2 ^ n ≤ 2 ^ halvings g
  weight_few proper =
      let a = 2 ^ halvings i in
      let bound : 2 ^ halvings g * weight i ≤ 2 ^ halvings g * a = mul-le-mul_left (2 ^ halvings g) (weight_le i proper) in
      let here : a * (weight g * 2 ^ n) ≡ 2 ^ halvings g * weight i = turned a (weight g) (2 ^ n) ∙ measured in
      let other : 2 ^ halvings g * a ≡ a * 2 ^ halvings g = omega arith in
      le_of_mul-le-mul_left (let h : a * (weight g * 2 ^ n) ≤ a * 2 ^ halvings g = omega arith in h) (pow_pos (halvings i))
    where
      turned : (a w b : ℕ) → a * (w * b) ≡ (a * b) * w
      turned a w b = omega arith

-- one more outcome, that leaves the halvings, beside a circuit whose weight stays
pub halved : (n : ℕ) (g h i j : Circuit) (ds es : List Letter) → IsEqualUpTo n g (i ++ ds) → AllUnitary ds → IsEqualUpTo (n + 1) h (j ++ es) → AllUnitary es
    → halvings h ≡ halvings g → halvings j ≡ halvings i → weight j ≡ weight i → 2 * weight h ≡ weight g
halved n g h i j ds es before ud after ue same_h same_j same_w =
    let a = 2 ^ halvings i * 2 ^ n in
    let first = measured n g i ds before ud in
    let second = measured (n + 1) h j es after ue in
    let power : 2 ^ (n + 1) ≡ 2 ^ n * 2 = pow-add 2 n 1 in
    let shown : (2 ^ halvings i * (2 ^ n * 2)) * weight h ≡ 2 ^ halvings g * weight i =
    ap (λ k. (2 ^ halvings i * k) * weight h) (sym power) ∙ ap (λ k. (2 ^ k * 2 ^ (n + 1)) * weight h) (sym same_j) ∙ second
    ∙ ap (λ k. 2 ^ k * weight j) same_h ∙ ap (λ k. 2 ^ halvings g * k) same_w in
    cancel a (2 * weight h) (weight g) (positive (pow_pos (halvings i)) (pow_pos n)) (doubled (2 ^ halvings i) (2 ^ n) (weight h) ∙ shown ∙ sym first)
  where
    doubled : (x y w : ℕ) → (x * y) * (2 * w) ≡ (x * (y * 2)) * w
    doubled x y w = omega arith

    positive : {x y : ℕ} → 0 < x → 0 < y → 0 < x * y
    positive {x} {y} h k = let one = mul-le-mul_left x k in omega arith
