-- What one pass over the instructions of programs finds
use Rattle.std.specs.Prelude.{◌≡◌}
use Rattle.qm_instr.specs.declared.Lane.{Lane}
use Rattle.qm_instr.specs.Programs.{Programs}
use Rattle.qm_check.specs.declared.reading.Reading.{Reading}
use Rattle.qm_check.specs.Faults.{IsFirst, IsEarlierStep, IsEarlierTape}
use Rattle.qm_check.specs.Slots.{step_fault}
use Rattle.qm_check.specs.Tallies.{tally_in, lane_tally}
use Rattle.qm_check.specs.Tapes.{tape_fault}
use Rattle.qm_check.specs.Totals.{totals_over}

-- each lane's tally, the first fault of an instruction, the first one of a tape, and the totals
pub record IsReading (p : Programs) (x : Reading) : Type 0 where
  pub lanes : (a : Lane) → tally_in x.tallies a ≡ lane_tally p a
  pub step : IsFirst IsEarlierStep (λ s. step_fault p s.0 s.1) x.step
  pub tape : IsFirst IsEarlierTape (λ t. tape_fault p t.0 t.1) x.tape
  pub totals : x.totals ≡ totals_over p.ranks
