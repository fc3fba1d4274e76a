use Rattle.std.proofs.Common.{◌≡◌, Bool, true, false, refl, subst}
use Rattle.qm_proto.specs.Model.Schedules.{RendezvousEnds}
use Rattle.qm_ideal.specs.MeetingViews.{stand_in}
use Rattle.qm_ideal.proofs.MeetingRuns.{ends, ends_not}
use Rattle.qm_ideal.proofs.meeting.rendezvous.Goals as goal

-- an answer that is right both ways
right : (b : Bool) (E : Type 0) → (b ≡ true → E) → (b ≡ false → ¬ E) → (b ≡ true → E) × (E → b ≡ true)
right true E some none = (some, λ e. refl)
right false E some none = (some, λ e. absurd (none refl e))

pub returns : goal.returns
returns c =
    let p = c.input-input.result.now in
    let s = stand_in c.in_ok-meeting.meeting in
    let end = c.in_ok-meeting.ensures.end in
    let b = c.all_ended.result in
    subst (λ x. (b ≡ true → RendezvousEnds x) × (RendezvousEnds x → b ≡ true)) c.input-input.ensures.value
    (right b (RendezvousEnds p) (λ t. ends p s end (c.all_ended.ensures.yes t))
    (λ f. let n = c.all_ended.ensures.no f in ends_not p s end n.0 n.1 n.2))
