-- Totals, as far as they are counted
use Rattle.std.proofs.Common.{◌≡◌, ℕ, ◌+◌, ◌*◌, ◌<◌, ◌≤◌, List, length, get_or, take, sum_by, Some, slice_get, ap, ◌∙◌, arith}
use Rattle.std.proofs.lemmas.List.Sums.{sum_by_more}
use Rattle.std.proofs.lemmas.Option.{get_or_from_slice_get, slice_get_within}
use Rattle.qm_instr.specs.declared.Instr.{Instr}
use Rattle.qm_instr.specs.declared.Instr.TheVariants as instr
use Rattle.qm_instr.specs.Counts.{events_of, protocol_of, own_of}
use Rattle.qm_instr.specs.Programs.{RankProgram, idle_rank}
use Rattle.qm_check.specs.declared.Totals.{Totals}
use Rattle.qm_check.specs.Totals.{totals_of, totals_over, HasFew}

-- no instruction has more than 5 events, 2 outcomes of the protocol tape and 1 of the own tape
pub counts_small : (i : Instr) → (events_of i ≤ 5) × (protocol_of i ≤ 2) × (own_of i ≤ 1)
counts_small (instr.Measure q b) = (omega arith, omega arith, omega arith)
counts_small _ = (omega arith, omega arith, omega arith)

-- the totals of so many instructions or ranks, each of which adds at most e, p and o
pub record IsCounted (so_far : Totals) (k e p o : ℕ) (t : Totals) : Type 0 where
  pub events : t.events ≡ so_far.events
  pub protocol : t.protocol ≡ so_far.protocol
  pub own : t.own ≡ so_far.own
  pub few_events : t.events ≤ e * k
  pub few_protocol : t.protocol ≤ p * k
  pub few_own : t.own ≤ o * k

-- the totals of one instruction, and two totals together
pub record IsOfInstr (i : Instr) (t : Totals) : Type 0 where
  pub events : t.events ≡ events_of i
  pub protocol : t.protocol ≡ protocol_of i
  pub own : t.own ≡ own_of i

pub record IsSum (t more both : Totals) : Type 0 where
  pub events : both.events ≡ t.events + more.events
  pub protocol : both.protocol ≡ t.protocol + more.protocol
  pub own : both.own ≡ t.own + more.own

pub sum_more : {X : Type 0} (f : X → ℕ) (xs : List X) (k : ℕ) (x : X) → slice_get xs k ≡ Some x
    → sum_by f (take (k + 1) xs) ≡ sum_by f (take k xs) + f x
sum_more f xs k x read =
    sum_by_more f xs k x (slice_get_within xs k x read)
    ∙ ap (λ y. sum_by f (take k xs) + f y) (get_or_from_slice_get xs k x x read)

-- one more instruction
pub totals_of_more : (is : List Instr) (k : ℕ) (i : Instr) (t more next : Totals)
    → IsCounted (totals_of (take k is)) k 5 2 1 t → slice_get is k ≡ Some i → IsOfInstr i more
    → IsSum t more next → IsCounted (totals_of (take (k + 1) is)) (k + 1) 5 2 1 next
totals_of_more is k i t more next h read this sum =
    let small = counts_small i in
    record {
      events = omega (arith, sum_more events_of is k i read, h.events, this.events, sum.events);
      protocol = omega (arith, sum_more protocol_of is k i read, h.protocol, this.protocol, sum.protocol);
      own = omega (arith, sum_more own_of is k i read, h.own, this.own, sum.own);
      few_events = omega (arith, h.few_events, small.0, this.events, sum.events);
      few_protocol = omega (arith, h.few_protocol, small.1, this.protocol, sum.protocol);
      few_own = omega (arith, h.few_own, small.2, this.own, sum.own);
    }

-- one more rank
pub totals_over_more : (rs : List RankProgram) (k : ℕ) (t more next : Totals) → k < length rs
    → IsCounted (totals_over (take k rs)) k 500000 200000 100000 t
    → more ≡ totals_of (get_or rs k idle_rank).instructions → HasFew more → IsSum t more next
    → IsCounted (totals_over (take (k + 1) rs)) (k + 1) 500000 200000 100000 next
totals_over_more rs k t more next known h same few sum = record {
  events =
      omega (arith, sum_by_more (λ (r : RankProgram). sum_by events_of r.instructions) rs k idle_rank known, h.events, ap (λ (x : Totals). x.events) same, sum.events);
  protocol =
      omega (arith, sum_by_more (λ (r : RankProgram). sum_by protocol_of r.instructions) rs k idle_rank known, h.protocol, ap (λ (x : Totals). x.protocol) same, sum.protocol);
  own =
      omega (arith, sum_by_more (λ (r : RankProgram). sum_by own_of r.instructions) rs k idle_rank known, h.own, ap (λ (x : Totals). x.own) same, sum.own);
  few_events = omega (arith, h.few_events, few.events, sum.events);
  few_protocol = omega (arith, h.few_protocol, few.protocol, sum.protocol);
  few_own = omega (arith, h.few_own, few.own, sum.own);
}
