-- The direct predecessors and the reports that were worked out by hand compute
use Rattle.std.proofs.Common.{◌≡◌, ℕ, ◌≤◌, true, List, [], ◌∷◌, refl, subst, arith}
use Rattle.qm_denot.specs.Wires.{is_wire}
use Rattle.qm_instr.specs.Lanes.{is_lane}
use Rattle.qm_instr.specs.Programs.{Programs}
use Rattle.qm_cost.specs.declared.Delays.{Delays}
use Rattle.qm_cost.specs.Reports.{ReportView, IsCost, AreFew}
use Rattle.qm_proto.specs.WorkedPrograms.{copy_programs, crossed_programs}
use Rattle.qm_proto.specs.WorkedRun.{copy_schedule, crossed_schedule}
use Rattle.qm_cost.specs.Worked.{sent_programs, sent_schedule, WorkedLinks, WorkedReports}
use Rattle.qm_cost.proofs.Existing.{report_of, report_is}

pub worked_links : WorkedLinks
unfolding is_lane is_wire
worked_links = record { copy = refl; uncopy = refl; crossed = refl; reach = refl }

-- the report of a schedule
made : (p : Programs) (schedule : List ℕ) (d : Delays) (few : AreFew d) (r : ReportView) → report_of p schedule d ≡ r → IsCost p schedule d r
made p schedule d few r e = subst (λ x. IsCost p schedule d x) e (report_is p schedule d few)

few : (local pair bits : ℕ) → local ≤ 1000000 → pair ≤ 1000000 → bits ≤ 1000000 → AreFew (record { local = local; pair = pair; bits = bits })
few local pair bits a b c = record { local = a; pair = b; bits = c }

pub worked_reports : WorkedReports
unfolding is_lane is_wire
worked_reports =
    record {
      copy = made (copy_programs true) copy_schedule _ (few 1 10 5 (omega arith) (omega arith) (omega arith)) _ refl;
      crossed = made (crossed_programs 2 2) crossed_schedule _ (few 1 10 5 (omega arith) (omega arith) (omega arith)) _ refl;
      late_bits = made sent_programs sent_schedule _ (few 1 10 5 (omega arith) (omega arith) (omega arith)) _ refl;
      early_bits = made sent_programs sent_schedule _ (few 1 10 0 (omega arith) (omega arith) (omega arith)) _ refl;
      tied_before = made sent_programs sent_schedule _ (few 1 10 1 (omega arith) (omega arith) (omega arith)) _ refl;
      tied_last = made sent_programs (1 ∷ 0 ∷ []) _ (few 1 10 1 (omega arith) (omega arith) (omega arith)) _ refl;
      no_time = made (copy_programs true) copy_schedule _ (few 0 0 0 (omega arith) (omega arith) (omega arith)) _ refl;
      one = made sent_programs (0 ∷ []) _ (few 3 10 1 (omega arith) (omega arith) (omega arith)) _ refl;
      none = made sent_programs [] _ (few 1 1 1 (omega arith) (omega arith) (omega arith)) _ refl;
    }
