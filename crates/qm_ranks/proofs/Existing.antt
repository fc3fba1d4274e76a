-- For all programs and words there is an order of turns
use Rattle.std.proofs.Common.{◌≡◌, ℕ, ◌+◌, ◌<◌, ◌≤◌, ◌⊎◌, inl, inr, true, false, List, [], ◌∷◌, ◌++◌, length, zero, suc, refl, sym, subst, length-append, arith}
use Rattle.std.proofs.Math.Nat.{mod-lt}
use Rattle.qm_instr.specs.Programs.{Programs}
use Rattle.qm_proto.specs.Model.State.{Tables, State}
use Rattle.qm_proto.specs.Model.Runs.{enabled, row_checks, row_next, IsAllowed}
use Rattle.qm_proto.specs.Model.Schedules.{replay, IsLegal, MayStep, NoneEnabled}
use Rattle.qm_proto.specs.Model.Orders.{Words, words_after, start_of, rank_on, IsFirstAround, IsEndAround, IsOrderFrom}
use Rattle.qm_proto.proofs.Replays.{replay-push, legal-push}
use Rattle.qm_proto.specs.Model.Totals.{event_total}
use Rattle.qm_proto.proofs.Counting.{schedule_more, event_where_held}
use Rattle.qm_confluence.proofs.Endings.Tests.{tests_fail_or_not}
use Rattle.qm_ranks.proofs.Around.{comes_to}
use Rattle.qm_ranks.proofs.Orders.{around_known}
use Rattle.qm_proto.proofs.Meetings.{same_or_below}

-- ---- whose turn it is
module _ (p : Programs) (t : Tables) (start : ℕ) where
  -- the first n ranks from `start` on aren't enabled, or one of them is the first that is
  search_around : (n : ℕ) → n ≤ length p.ranks → ((r : ℕ) × IsFirstAround p t start r) ⊎ ((k : ℕ) → k < n → enabled p t (rank_on p start k) ≡ false)
  search_around zero all = inr (λ k less. absurd (omega arith))
  search_around (suc n) all = elim (search_around n (omega arith)) [
    | inl first ↦ inl first
    | inr none ↦ elim (enabled p t (rank_on p start n)) as (λ b. enabled p t (rank_on p start n) ≡ b
        → ((r : ℕ) × IsFirstAround p t start r) ⊎ ((k : ℕ) → k < suc n → enabled p t (rank_on p start k) ≡ false)) [
          | true ↦ λ able. inl (rank_on p start n, record { steps = n; few = omega arith; place = refl; able = able; before = none })
          | false ↦ λ unable. inr (λ k less. elim (same_or_below k n less) [ inl same ↦ (subst (λ j. enabled p t (rank_on p start j) ≡ false) (sym same) unable) | inr lower ↦ none k lower ])
        ] refl
  ]

  first_or_none : start < length p.ranks → ((r : ℕ) × IsFirstAround p t start r) ⊎ NoneEnabled p t
  first_or_none known = elim (search_around (length p.ranks) (omega arith)) [
    | inl first ↦ inl first
    | inr none ↦ inr (λ r few.
        let at = comes_to (length p.ranks) start r known few in
        subst (λ k. enabled p t k ≡ false) at.2 (none at.0 at.1))
  ]

-- a rank that is enabled has an event left
-- without ranks none is enabled
no_ranks : (p : Programs) (t : Tables) → length p.ranks ≡ 0 → NoneEnabled p t
no_ranks p t none r known = absurd (omega arith)

zero_or_some : (n : ℕ) → (n ≡ 0) ⊎ (0 < n)
zero_or_some n = grind arith

turn_or_end : (p : Programs) (s : State) (w : Words) → ((r : ℕ) × (IsFirstAround p s.tables (start_of p w) r × IsAllowed p s r)) ⊎ IsEndAround p s (start_of p w)
turn_or_end p s w = elim (zero_or_some (length p.ranks)) [
  | inl none ↦ inr (inl (no_ranks p s.tables none))
  | inr some ↦ elim (first_or_none p s.tables (start_of p w) (mod-lt (w 0) some)) [
    | inr none ↦ inr (inl none)
    | inl (r, first) ↦ elim (tests_fail_or_not s.circuit (row_checks (row_next p s.tables r))) [
      | inl allowed ↦ inl (r, (first, allowed))
      | inr (c, refused) ↦ inr (inr (r, c, first, refused))
    ]
  ]
]

-- ---- the order, by the events that are left
order_exists : (p : Programs) (left : ℕ) (before : List ℕ) (w : Words) → IsLegal p before → event_total p ≤ length before + left
    → (more : List ℕ) × IsOrderFrom p (replay p before) w more
order_exists p zero before w legal few = elim (turn_or_end p (replay p before) w) [
  | inr ended ↦ ([], ended)
  | inl (r, on) ↦ absurd (
      let known = around_known p (replay p before).tables (start_of p w) r on.0 in
      let less = schedule_more p before r legal known (event_where_held p (replay p before).tables (row_next p (replay p before).tables r) on.0.able) in
      let f : ⊥ = omega arith in f)
]
order_exists p (suc left) before w legal few = elim (turn_or_end p (replay p before) w) [
  | inr ended ↦ ([], ended)
  | inl (r, on) ↦ (
      let known = around_known p (replay p before).tables (start_of p w) r on.0 in
      let may : MayStep p (replay p before) r = record { known = known; able = on.0.able; allowed = on.1 } in
      let long : length (before ++ r ∷ []) ≡ length before + 1 = length-append before (r ∷ []) in
      let enough : event_total p ≤ length (before ++ r ∷ []) + left = omega arith in
      let rest = order_exists p left (before ++ r ∷ []) (words_after w) (legal-push p before r legal may) enough in
      (r ∷ rest.0, (on.0, on.1, subst (λ s. IsOrderFrom p s (words_after w) rest.0) (replay-push p before r) rest.1)))
]

pub some_order : (p : Programs) (before : List ℕ) (w : Words) → IsLegal p before → (more : List ℕ) × IsOrderFrom p (replay p before) w more
some_order p before w legal =
    let enough : event_total p ≤ length before + event_total p = omega arith in
    order_exists p (event_total p) before w legal enough
