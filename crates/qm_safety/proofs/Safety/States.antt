-- Every state of every legal schedule is safe
use Rattle.std.proofs.Common.{ℕ, List}
use Rattle.qm_instr.specs.Programs.{Programs}
use Rattle.qm_safety.specs.Safety.Legal.{IsLegalRun}
use Rattle.qm_safety.specs.Safety.States.{IsSafe}
use Rattle.qm_safety.proofs.Safety.Operands.{operands_law}
use Rattle.qm_safety.proofs.Safety.OwnWires.{own_wires_law}
use Rattle.qm_safety.proofs.Safety.Blanks.{places_law}
use Rattle.qm_safety.proofs.Safety.Halves.{halves_law}

pub safe : (p : Programs) (schedule : List ℕ) → IsLegalRun p schedule → IsSafe p schedule
safe p schedule run =
    record {
      finds = λ r known. operands_law p schedule run r known;
      own = λ r known able. own_wires_law p schedule run r known able;
      places = places_law p schedule run;
      halves = λ r known. halves_law p schedule run r known;
    }
