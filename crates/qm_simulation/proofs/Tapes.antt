-- Programs with other own tapes of the same lengths, and what is possible in them
use Rattle.qm_confluence.specs.Tapes.{with_tapes}
use Rattle.qm_confluence.proofs.Tapes.{ready_still, in_range_still}
use Rattle.qm_simulation.specs.Outcomes.{TapesLaw}
use Rattle.qm_simulation.proofs.Possible.{possible_law}

pub tapes_law : TapesLaw
tapes_law p ready ranges own long =
    let ready' = ready_still own p long ready in
    let ranges' = in_range_still own p long ranges in
    record { ready = ready'; in_range = ranges'; possible = possible_law (with_tapes p own) ready' ranges' }
