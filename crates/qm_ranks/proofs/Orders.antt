-- Orders of turns are determined by their words, are legal, and by words that are all 0 take the lowest enabled rank
use Rattle.std.proofs.Common.{◌≡◌, ◌∙◌, ℕ, ◌+◌, ◌%◌, ◌<◌, ◌⊎◌, inl, inr, false, List, [], ◌∷◌, ◌++◌, length, suc, refl, sym, ap, subst, append-nil, append_assoc, arith}
use Rattle.std.proofs.Math.Nat.{mod-eq_of_lt, mod-lt}
use Rattle.qm_instr.specs.Programs.{Programs}
use Rattle.qm_proto.specs.Model.State.{Tables, State}
use Rattle.qm_proto.specs.Model.Runs.{enabled, IsAllowed, IsRefused, next}
use Rattle.qm_proto.specs.Model.Schedules.{replay, IsLegal, MayStep, IsLowestEnabled, IsFirstFrom}
use Rattle.qm_proto.specs.Model.Orders.{words_after, start_of, rank_on, IsFirstAround, IsEndAround, IsOrderFrom, from_the_lowest}
use Rattle.qm_proto.proofs.Firsts.{refused_or_allowed}
use Rattle.qm_proto.proofs.Replays.{replay-push, legal-push}
use Rattle.qm_ranks.specs.Laws.{OneOrder, LowestOrder, LegalOrder}

-- ---- one order
one_place : (j k : ℕ) → (j ≡ k) ⊎ ((j < k) ⊎ (k < j))
one_place j k = grind arith

pub around_unique : (p : Programs) (t : Tables) (start r k : ℕ) → IsFirstAround p t start r → IsFirstAround p t start k → r ≡ k
around_unique p t start r k a b =
    elim (one_place a.steps b.steps) [
      | inl same ↦ a.place ∙ ap (rank_on p start) same ∙ sym b.place
      | inr (inl less) ↦ (let e : enabled p t r ≡ false = subst (λ q. enabled p t q ≡ false) (sym a.place) (b.before a.steps less) in let d = a.able in absurd (cc))
      | inr (inr more) ↦ (let e : enabled p t k ≡ false = subst (λ q. enabled p t q ≡ false) (sym b.place) (a.before b.steps more) in let d = b.able in absurd (cc))
    ]

pub around_known : (p : Programs) (t : Tables) (start r : ℕ) → IsFirstAround p t start r → r < length p.ranks
around_known p t start r a =
    let some : 0 < length p.ranks = (let few = a.few in omega arith) in
    subst (λ k. k < length p.ranks) (sym a.place) (mod-lt (start + a.steps) some)

-- where a run ends, it doesn't go on
end_or_more : (p : Programs) (s : State) (start r : ℕ) → IsEndAround p s start → IsFirstAround p s.tables start r → IsAllowed p s r → ⊥
end_or_more p s start r (inl none) first allowed = let e = none r (around_known p s.tables start r first) in let d = first.able in cc
end_or_more p s start r (inr (k, c, other, refused)) first allowed =
    refused_or_allowed p s r c (subst (λ q. IsRefused p s q c) (around_unique p s.tables start k r other first) refused) allowed

pub one_order : OneOrder
one_order p s w [] [] a b = refl
one_order p s w [] (y ∷ ys) a b = absurd (end_or_more p s (start_of p w) y a b.0 b.1)
one_order p s w (x ∷ xs) [] a b = absurd (end_or_more p s (start_of p w) x b a.0 a.1)
one_order p s w (x ∷ xs) (y ∷ ys) a b =
    let same = around_unique p s.tables (start_of p w) x y a.0 b.0 in
    let later : IsOrderFrom p (next p s y) (words_after w) xs = subst (λ r. IsOrderFrom p (next p s r) (words_after w) xs) same a.2 in
    ap (λ r. r ∷ xs) same ∙ ap (λ rs. y ∷ rs) (one_order p (next p s y) (words_after w) xs ys later b.2)

-- ---- the lowest
-- from rank 0 on, the cyclic order is the order of the ranks
from_zero : (n k : ℕ) → k < n → (0 % n + k) % n ≡ k
from_zero n k less =
    let some : 0 < n = omega arith in
    let none : 0 % n + k ≡ k = (let e : 0 % n ≡ 0 = mod-eq_of_lt some in omega arith) in
    ap (λ j. j % n) none ∙ mod-eq_of_lt less

lowest_from_around : (p : Programs) (t : Tables) (r : ℕ) → IsFirstAround p t (0 % length p.ranks) r → IsLowestEnabled p t r
lowest_from_around p t r a =
    let at : r ≡ a.steps = a.place ∙ from_zero (length p.ranks) a.steps a.few in
    record {
      known = subst (λ k. k < length p.ranks) (sym at) a.few;
      able = a.able;
      below = λ k less.
          let lower : k < a.steps = omega (arith, at, less) in
          let few : k < length p.ranks = (let f = a.few in omega arith) in
          subst (λ q. enabled p t q ≡ false) (from_zero (length p.ranks) k few) (a.before k lower);
    }

around_from_lowest : (p : Programs) (t : Tables) (r : ℕ) → IsLowestEnabled p t r → IsFirstAround p t (0 % length p.ranks) r
around_from_lowest p t r a = record {
  steps = r;
  few = a.known;
  place = sym (from_zero (length p.ranks) r a.known);
  able = a.able;
  before = λ k less.
      let few : k < length p.ranks = (let f = a.known in omega arith) in
      subst (λ q. enabled p t q ≡ false) (sym (from_zero (length p.ranks) k few)) (a.below k less);
}

first_from_order : (p : Programs) (s : State) (rs : List ℕ) → IsOrderFrom p s from_the_lowest rs → IsFirstFrom p s rs
first_from_order p s [] (inl none) = inl none
first_from_order p s [] (inr (r, c, first, refused)) = inr (r, c, lowest_from_around p s.tables r first, refused)
first_from_order p s (r ∷ rs) a = (lowest_from_around p s.tables r a.0, a.1, first_from_order p (next p s r) rs a.2)

order_from_first : (p : Programs) (s : State) (rs : List ℕ) → IsFirstFrom p s rs → IsOrderFrom p s from_the_lowest rs
order_from_first p s [] (inl none) = inl none
order_from_first p s [] (inr (r, c, lowest, refused)) = inr (r, c, around_from_lowest p s.tables r lowest, refused)
order_from_first p s (r ∷ rs) a = (around_from_lowest p s.tables r a.0, a.1, order_from_first p (next p s r) rs a.2)

pub lowest_order : LowestOrder
lowest_order p s rs = (first_from_order p s rs, order_from_first p s rs)

-- ---- legal
pub legal_order : LegalOrder
legal_order p before [] w legal a = record {
  legal = subst (IsLegal p) (sym (append-nil before)) legal;
  ended = subst (λ s. IsEndAround p (replay p s) (w 0 % length p.ranks)) (sym (append-nil before)) a;
}
legal_order p before (r ∷ rs) w legal a =
    let may : MayStep p (replay p before) r = record { known = around_known p (replay p before).tables (start_of p w) r a.0; able = a.0.able; allowed = a.1 } in
    let on : IsOrderFrom p (replay p (before ++ r ∷ [])) (words_after w) rs =
    subst (λ s. IsOrderFrom p s (words_after w) rs) (sym (replay-push p before r)) a.2 in
    let rest = legal_order p (before ++ r ∷ []) rs (words_after w) (legal-push p before r legal may) on in
    let same : (before ++ r ∷ []) ++ rs ≡ before ++ r ∷ rs = append_assoc before (r ∷ []) rs in
    record {
      legal = subst (IsLegal p) same rest.legal;
      ended = subst (λ s. IsEndAround p (replay p s) (w (suc (length rs)) % length p.ranks)) same rest.ended;
    }
