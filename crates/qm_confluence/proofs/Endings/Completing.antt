-- A schedule that can't go on, where no event is refused and no state is stuck, is complete
use Rattle.std.proofs.Common.{◌≡◌, ℕ, Bool, true, false, List, length, inl, inr, refl}
use Rattle.qm_instr.specs.Programs.{Programs}
use Rattle.qm_proto.specs.Model.Runs.{enabled, has_event, row_next, row_checks}
use Rattle.qm_proto.specs.Model.Schedules.{replay, IsLegal, IsComplete, NoneEnabled, MayStep}
use Rattle.qm_confluence.specs.Endings.Completing.{NeverRefused, CompletingLaw}
use Rattle.qm_confluence.specs.Stuck.NeverStuck.{NeverStuck}
use Rattle.qm_confluence.proofs.Endings.Lowest.{lowest_or_none}
use Rattle.qm_confluence.proofs.Endings.Tests.{tests_fail_or_not}
use Rattle.qm_confluence.proofs.Stuck.Rendezvous.{never_stuck_law}

module _ (p : Programs) (sure : NeverRefused p) (free : NeverStuck p) (schedule : List ℕ) (legal : IsLegal p schedule)
    (last : (r : ℕ) → ¬ MayStep p (replay p schedule) r) where
  -- an enabled rank could step
  none_enabled : NoneEnabled p (replay p schedule).tables
  none_enabled r known = by_able (enabled p (replay p schedule).tables r) refl
    where
      by_able : (b : Bool) → enabled p (replay p schedule).tables r ≡ b → enabled p (replay p schedule).tables r ≡ false
      by_able false e = e
      by_able true able = elim (tests_fail_or_not (replay p schedule).circuit (row_checks (row_next p (replay p schedule).tables r))) [
        | inl allowed ↦ absurd (last r (record { known = known; able = able; allowed = allowed }))
        | inr (c, refused) ↦ absurd (sure schedule legal r c known able refused)
      ]

  completes : IsComplete p schedule
  completes = elim (lowest_or_none (has_event p (replay p schedule).tables) (length p.ranks)) [
    | inl ended ↦ record { legal = legal; ended = ended }
    | inr (r, left) ↦ absurd (free schedule legal (record { left = (r, left.known, left.holds); none = none_enabled }))
  ]

pub completing_law : CompletingLaw
completing_law p sure (inl free) schedule legal last = completes p sure free schedule legal last
completing_law p sure (inr ends) schedule legal last = completes p sure (never_stuck_law p ends).0 schedule legal last
