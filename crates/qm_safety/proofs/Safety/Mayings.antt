-- An enabled event of a legal schedule may be done
use Rattle.std.proofs.Common.{◌≡◌, ℕ, ◌<◌, ◌≤◌, true, List, [], ◌∷◌, length, Some, ◌∙◌, arith}
use Rattle.qm_instr.specs.declared.Instr.{Instr}
use Rattle.qm_instr.specs.Programs.{Programs}
use Rattle.qm_check.specs.Messages.{lane_sends}
use Rattle.qm_check.proofs.Faultless.{IsStep, step_of}
use Rattle.qm_proto.specs.declared.Act.{Act}
use Rattle.qm_proto.specs.declared.Act.TheVariants.{Fresh, Twin, Posts}
use Rattle.qm_proto.specs.Model.Acts.{list_of}
use Rattle.qm_proto.specs.May.{Limits, AllMay}
use Rattle.qm_proto.specs.Model.Rows.{current}
use Rattle.qm_proto.specs.Model.Runs.{enabled, row_next}
use Rattle.qm_proto.specs.Model.Schedules.{replay}
use Rattle.qm_proto.specs.Model.State.{Tables}
use Rattle.qm_safety.specs.Safety.Legal.{IsLegalRun}
use Rattle.qm_safety.specs.Tables.Well.{IsWell}
use Rattle.qm_proto.proofs.Counting.{schedule_few, event_total_few, made_few}
use Rattle.qm_safety.proofs.Tables.Mays.{HasRoom, asks, may_line}
use Rattle.qm_safety.proofs.Tables.NextEvents.{IsLineNext, line_next, row_is}
use Rattle.qm_safety.proofs.Tables.Standing.{well}

-- room for any event
abbrev pub roomy_limits : Programs → Limits
roomy_limits p = record { ranks = length p.ranks; wires = 2; parcels = lane_sends p; letters = 1 }

asks_few : (acts : List Act) → asks acts ≤ 2
asks_few (Fresh q ∷ []) = omega arith
asks_few (Twin to ∷ Posts a x ∷ []) = omega arith
asks_few _ = omega arith

module _ (p : Programs) (schedule : List ℕ) (run : IsLegalRun p schedule) (r : ℕ) (known : r < length p.ranks) where
  abbrev t : Tables
  t = (replay p schedule).tables

  pub well_here : IsWell p t
  well_here = well p run.ready run.in_range schedule run.legal

  pub step_at : (i : Instr) → current p t r ≡ Some i → IsStep p r (t.parts r).at i
  step_at i read = step_of p r (t.parts r).at i run.ready run.in_range known read

  has_room : HasRoom p t r (roomy_limits p)
  has_room = record {
    ranks = omega arith;
    parcels = λ a. omega arith;
    letters = omega arith;
    countable = omega (arith, made_few p schedule r run.legal, schedule_few p schedule run.legal, event_total_few p run.in_range);
  }

  pub next_here : enabled p t r ≡ true → IsLineNext p t r
  next_here able = line_next p t r known able

  pub may_acts : (able : enabled p t r ≡ true) → AllMay (roomy_limits p) r (list_of (next_here able).w.acts) t
  may_acts able =
      let here = next_here able in
      (may_line p t r run.ready run.in_range well_here known (roomy_limits p) has_room here.i here.s here.w here.next here.line (asks_few (list_of here.w.acts))).0

  pub next_row : (able : enabled p t r ≡ true) → row_next p t r ≡ Some (next_here able).w
  next_row able = let here = next_here able in row_is p t r here.i here.s here.next ∙ here.line
