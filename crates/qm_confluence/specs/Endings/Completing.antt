-- Where no event is refused and no state is stuck, whatever the order, every schedule can go on until all ranks have ended
use Rattle.std.specs.Prelude.{◌≡◌, ℕ, ◌<◌, ◌⊎◌, true, List, length}
use Rattle.qm_instr.specs.Programs.{Programs}
use Rattle.qm_proto.specs.declared.Cause.{Cause}
use Rattle.qm_proto.specs.Model.Runs.{enabled, IsRefused}
use Rattle.qm_proto.specs.Model.Schedules.{replay, IsLegal, IsComplete, MayStep, RendezvousEnds}
use Rattle.qm_confluence.specs.Stuck.NeverStuck.{NeverStuck}

-- no enabled event is refused after a legal schedule
abbrev pub NeverRefused : Programs → Type 0
NeverRefused p =
    (schedule : List ℕ) → IsLegal p schedule → (r : ℕ) (c : Cause) → r < length p.ranks → enabled p (replay p schedule).tables r ≡ true
    → ¬ IsRefused p (replay p schedule) r c

-- a legal schedule after which no rank may step is complete
abbrev pub AlwaysCompletes : Programs → Type 0
AlwaysCompletes p =
    (schedule : List ℕ) → IsLegal p schedule → ((r : ℕ) → ¬ MayStep p (replay p schedule) r) → IsComplete p schedule

-- and so it is where the rendezvous run ends, in place of what is said of stuck states
abbrev pub CompletingLaw : Type 0
CompletingLaw = (p : Programs) → NeverRefused p → NeverStuck p ⊎ RendezvousEnds p → AlwaysCompletes p
