-- What is due where a machine was played: the text of its end, or the line of where and why it stopped, and the block
use Rattle.std.proofs.Common.{◌≡◌, ◌∙◌, ℕ, List, [], ◌++◌, Bool, Option, Some, None, true, false, length, refl, sym, ap, subst, ⊎_elim}
use Rattle.std.specs.Prelude.{is_none}
use Rattle.std.proofs.Math.Nat.{add-zero}
use Rattle.std.proofs.lemmas.List.{append-nil}
use Rattle.std.proofs.lemmas.Option.{none-some, same_Some}
use Rattle.qm_cost.specs.declared.Delays.{Delays}
use Rattle.qm_cost.specs.Reports.{ReportView, IsCost}
use Rattle.qm_denot.specs.Stores.{Store}
use Rattle.qm_instr.specs.Programs.{Programs, IsInRange}
use Rattle.qm_instr.specs.Bits.{number_of_bits}
use Rattle.qm_machine.specs.declared.Halt.{Halt}
use Rattle.qm_machine.specs.Keeps.{MachineView, HasEnded, state_of}
use Rattle.qm_proto.specs.Model.Schedules.{protocol_total}
use Rattle.qm_print.specs.declared.Live.{Live}
use Rattle.qm_print.specs.FaultText.{stopped_line}
use Rattle.qm_print.specs.JobText.{job_text}
use Rattle.qm_print.specs.Slots.{full_slots}
use Rattle.qm_print.specs.StateText.{line_count, state_lines}
use Rattle.qm_tool.specs.declared.command.Command.TheVariants as command
use Rattle.qm_tool.specs.declared.command.Order.TheVariants.{Seeded}
use Rattle.qm_tool.specs.declared.command.Play.{Play}
use Rattle.qm_tool.specs.declared.command.Recipe.{Recipe}
use Rattle.qm_tool.specs.declared.running.Run.{Run}
use Rattle.qm_tool.specs.Commands.{block_of, kind_word, plain, seeded}
use Rattle.qm_tool.specs.CostText.{cost_text}
use Rattle.qm_tool.specs.Dues.{Completes, StopsShort, HaltStops, HasPlayed}
use Rattle.qm_tool.specs.Due.{IsCostText, IsJobText, IsTextAfter, RunsTo, CostsTo, WorksTo, DueReady, Ends, Stops, Works, Breaks}
use Rattle.qm_tool.specs.Ends.{bits_in, text_under}
use Rattle.qm_tool.specs.Running.{IsRun, job_numbers, run_status, run_text, status_where, text_where, work_text}
use Rattle.qm_tool.proofs.EndLemmas.{HeadSays-text}

-- a machine that was played in this way, with any text of what its schedule leaves
module _ {A : Type 0} (play : Play) (m : MachineView A) (in_range : IsInRange m.programs) (played : HasPlayed play.order m) (IsEnd : Programs → List ℕ → List ℕ → Type 0) where
  abbrev PlaysTo : Bool → List ℕ → Type 0
  PlaysTo complete text = RunsTo complete play IsEnd m.programs (text ++ block_of play.listing complete m.programs m.schedule)

  ended_due : (end : List ℕ) → IsEnd m.programs m.schedule end → HasEnded m → PlaysTo true end
  ended_due end so ended = record {
    in_range = in_range;
    due = Completes m.schedule played.schedule (record { complete = record { legal = played.legal; ended = ended.ended }; end = end; so = so; whole = refl });
  }

  stopped_due : (h : Halt) → HaltStops play.order m h → PlaysTo false (stopped_line h.rank h.turns h.cause)
  stopped_due h stops = record {
    in_range = in_range;
    due = StopsShort m.schedule played.schedule (record {
      legal = played.legal;
      rank = h.rank;
      cause = h.cause;
      stops = stops.stops;
      whole = ap (λ n. stopped_line h.rank n h.cause ++ block_of play.listing false m.programs m.schedule) stops.turns;
    });
  }

module _ {A : Type 0} (store : A → Store) (play : Play) (p : Programs) (run : Run A) (on : IsRun store play p run) where
  -- with any text of its end
  module _ (IsEnd : Programs → List ℕ → List ℕ → Type 0) (end : List ℕ) (so : IsEnd run.machine.programs run.machine.schedule end) where
    abbrev bytes_where : Option Halt → Play → List ℕ
    bytes_where h how = text_where end h ++ block_of how.listing (is_none h) run.machine.programs run.machine.schedule

    abbrev RunDue : Option Halt → Type 0
    RunDue h = RunsTo (is_none h) play IsEnd run.machine.programs (bytes_where h play)

    ended_to : HasEnded run.machine → RunDue None
    ended_to ended = ended_due play run.machine on.in_range on.played IsEnd end so ended

    stopped_to : (h : Halt) → HaltStops play.order run.machine h → RunDue (Some h)
    stopped_to h stops = stopped_due play run.machine on.in_range on.played IsEnd h stops

    over_to : RunDue run.halt
    over_to =
        ⊎_elim (λ ended. subst RunDue (sym (on.halt_so ∙ ended.running)) (ended_to ended))
        (λ h. subst RunDue (sym (on.halt_so ∙ h.1.0)) (stopped_to h.0 h.1.1)) on.played.over

    pub run_due : RunsTo (is_none run.halt) play IsEnd p (bytes_where run.halt run.play)
    run_due =
        subst (λ (q : Programs). RunsTo (is_none run.halt) play IsEnd q (bytes_where run.halt run.play)) on.programs
        (subst (λ (how : Play). RunsTo (is_none run.halt) play IsEnd run.machine.programs (bytes_where run.halt how)) (sym on.play_so) over_to)

  state_at_end : IsTextAfter run.machine.programs run.machine.schedule (text_under run.head run.live.items (store run.machine.amps).value)
  state_at_end =
      let m = run.machine in
      let s = store m.amps in
      record {
        numerators = s.value;
        exponent = s.exponent;
        form = on.stands.form;
        lines = HeadSays-text m.programs (bits_in m) s.exponent run.head run.live.items _ s.value on.head on.slots
            ∙ ap (λ k. state_lines (length m.programs.ranks) (protocol_total m.programs) k (λ r. number_of_bits (bits_in m r)) (full_slots m.programs (state_of m).tables.slots) s.value)
            (sym (add-zero s.exponent));
      }

  run_row : (h : Option Halt) (bytes : List ℕ) → RunsTo (is_none h) play IsTextAfter p bytes → DueReady p bytes (command.Run play) (status_where h)
  run_row None bytes due = Ends play due
  run_row (Some h) bytes due = Stops play due

  -- what a running command writes is due
  pub run-ready : DueReady p (run_text store run) (command.Run play) (run_status run)
  run-ready = run_row run.halt (run_text store run) (run_due IsTextAfter _ state_at_end)

-- and what is written of the run of a made program
module _ {A : Type 0} (store : A → Store) (r : Recipe) (p : Programs) (run : Run A) (on : IsRun store plain p run) where
  abbrev summary : List ℕ
  summary = job_text (kind_word r.kind) (job_numbers store r run)

  summary_at_end : IsJobText r run.machine.programs run.machine.schedule summary
  summary_at_end =
      let m = run.machine in
      let s = store m.amps in
      let with_head : ℕ → ℕ → List Live → List ℕ =
      λ protocol scale live. job_text (kind_word r.kind)
      (record { size = r.size; number = r.number; events = length m.schedule; protocol = protocol; scale = scale; lines = line_count s.value live }) in
      record {
        numerators = s.value;
        exponent = s.exponent;
        form = on.stands.form;
        whole = ap (λ n. with_head n run.head.scale run.live.items) on.head.protocol
            ∙ ap (λ n. with_head (protocol_total m.programs) n run.live.items) on.head.scale_so
            ∙ ap (with_head (protocol_total m.programs) s.exponent) on.slots;
      }

  work_row : (h : Option Halt) (bytes : List ℕ) → WorksTo (is_none h) r p bytes → DueReady p bytes (command.Job r) (status_where h)
  work_row None bytes due = Works r due
  work_row (Some h) bytes due = Breaks r due

  nothing_listed : text_where summary run.halt ++ block_of run.play.listing (is_none run.halt) run.machine.programs run.machine.schedule ≡ work_text store r run
  nothing_listed =
      ap (λ (how : Play). text_where summary run.halt ++ block_of how.listing (is_none run.halt) run.machine.programs run.machine.schedule) on.play_so
      ∙ append-nil (work_text store r run)

  pub work-ready : DueReady p (work_text store r run) (command.Job r) (run_status run)
  work-ready =
      work_row run.halt (work_text store r run)
      (subst (WorksTo (is_none run.halt) r p) nothing_listed (run_due store plain p run on (IsJobText r) summary summary_at_end))

-- and what is written of the cost of a run
module _ {A : Type 0} (seed : ℕ) (d : Delays) (p : Programs) (m : MachineView A) (programs : m.programs ≡ p) (in_range : IsInRange m.programs) (played : HasPlayed (Seeded seed) m) where
  -- nothing is listed
  alone : (complete : Bool) (text : List ℕ) → CostsTo complete seed d m.programs (text ++ []) → CostsTo complete seed d p text
  alone complete text due =
      subst (λ (q : Programs). CostsTo complete seed d q text) programs (subst (CostsTo complete seed d m.programs) (append-nil text) due)

  pub cost-ended : m.halted ≡ None → (r : ReportView) → IsCost m.programs m.schedule d r → CostsTo true seed d p (cost_text (length m.schedule) r)
  cost-ended none r so =
      let text = cost_text (length m.schedule) r in
      let report : IsCostText d m.programs m.schedule text = record { report = r; so = so; whole = refl } in
      ⊎_elim (λ ended. alone true text (ended_due (seeded seed) m in_range played (IsCostText d) text report ended))
      (λ h. absurd (none-some h.0 (sym none ∙ h.1.0))) played.over

  pub cost-stopped : (h : Halt) → m.halted ≡ Some h → CostsTo false seed d p (stopped_line h.rank h.turns h.cause)
  cost-stopped h some =
      ⊎_elim (λ ended. absurd (none-some h (sym ended.running ∙ some)))
      (λ k. alone false (stopped_line h.rank h.turns h.cause) (stopped_due (seeded seed) m in_range played (IsCostText d) h (subst (HaltStops (Seeded seed) m) (same_Some k.0 h (sym k.1.0 ∙ some)) k.1.1))) played.over
