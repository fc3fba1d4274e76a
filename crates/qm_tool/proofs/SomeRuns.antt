-- Each run of programs comes to an end for which something is due, complete or stopped
use Rattle.std.proofs.Common.{ℕ, ◌+◌, ◌%◌, inl, inr, Bool, true, false, List, [], ◌++◌, length, refl}
use Rattle.qm_denot.proofs.ReducedForms.{reduced_form}
use Rattle.qm_instr.specs.Programs.{Programs, IsInRange}
use Rattle.qm_proto.specs.declared.Cause.{Cause}
use Rattle.qm_proto.specs.declared.Cause.TheVariants as cause
use Rattle.qm_proto.specs.Model.Runs.{has_event, IsRefused}
use Rattle.qm_proto.specs.Model.Schedules.{protocol_total, replay, state_at_start, IsLegal, AllEnded, NoneEnabled}
use Rattle.qm_proto.specs.Model.Orders.{Words, IsEndAround, IsFirstAround, IsOrderFrom, from_the_lowest}
use Rattle.qm_seed.specs.Seeds.{seed_words}
use Rattle.qm_confluence.proofs.Confluence.Confluent.{IsLeast, least}
use Rattle.qm_instr.specs.Bits.{number_of_bits}
use Rattle.qm_cost.specs.declared.Delays.{Delays}
use Rattle.qm_cost.specs.Reports.{AreFew}
use Rattle.qm_cost.proofs.Existing.{some_report}
use Rattle.qm_print.specs.FaultText.{stopped_line}
use Rattle.qm_print.specs.Slots.{full_slots}
use Rattle.qm_print.specs.JobText.{job_text}
use Rattle.qm_print.specs.StateText.{line_count, state_lines}
use Rattle.qm_ranks.proofs.Existing.{some_order}
use Rattle.qm_ranks.proofs.Orders.{around_known, legal_order}
use Rattle.qm_tool.specs.declared.command.Command.TheVariants as command
use Rattle.qm_tool.specs.declared.command.Play.{Play}
use Rattle.qm_tool.specs.declared.status.Status.TheVariants as status
use Rattle.qm_tool.specs.declared.command.Recipe.{Recipe}
use Rattle.qm_tool.specs.Commands.{block_of, kind_word, plain, seeded}
use Rattle.qm_tool.specs.CostText.{cost_text}
use Rattle.qm_tool.specs.declared.command.Order.{Order}
use Rattle.qm_tool.specs.declared.command.Order.TheVariants.{Lowest, Seeded, Any}
use Rattle.qm_tool.specs.Dues.{Refused, Stuck, IsScheduleOf, IsTurnAfter, IsDue, Completes, StopsShort}
use Rattle.qm_tool.specs.Due.{IsTextAfter, IsCostText, IsJobText, RunsTo, CostsTo, WorksTo, Ends, Stops, Works, Breaks, Costs, CostsNone}
use Rattle.qm_tool.proofs.SomeCircuits.{HasAnswer}

-- words whose run is one of the order
abbrev some_words : Order → Words
some_words Lowest = from_the_lowest
some_words (Seeded seed) = seed_words seed
some_words Any = from_the_lowest

schedule_so : (p : Programs) (o : Order) (schedule : List ℕ) → IsLegal p schedule → IsOrderFrom p (state_at_start p) (some_words o) schedule → IsScheduleOf p o schedule
schedule_so p Lowest schedule legal order = order
schedule_so p (Seeded seed) schedule legal order = order
schedule_so p Any schedule legal order = legal

turn_so : (p : Programs) (o : Order) (schedule : List ℕ) (rank : ℕ) → IsFirstAround p (replay p schedule).tables (some_words o (length schedule) % length p.ranks) rank → IsTurnAfter p o schedule rank
turn_so p Lowest schedule rank first = first
turn_so p (Seeded seed) schedule rank first = first
turn_so p Any schedule rank first = tt

-- a run in an order of turns, with a state text for each schedule
module _ (p : Programs) (o : Order) (IsEnd : List ℕ → List ℕ → Type 0) (block : Bool → List ℕ → List ℕ)
    (text_after : (schedule : List ℕ) → (text : List ℕ) × IsEnd schedule text) where
  abbrev pub SomeDue : Type 0
  SomeDue = (complete : Bool) × (bytes : List ℕ) × IsDue p (IsScheduleOf p o) (IsTurnAfter p o) IsEnd block bytes complete

  module _ (schedule : List ℕ) (order : IsScheduleOf p o schedule) (legal : IsLegal p schedule) where
    stopped : (rank : ℕ) (c : Cause) → IsFirstAround p (replay p schedule).tables (some_words o (length schedule) % length p.ranks) rank → IsRefused p (replay p schedule) rank c → SomeDue
    stopped rank c first refused = (
      false,
      stopped_line rank (length schedule) c ++ block false schedule,
      StopsShort schedule order (record {
        legal = legal;
        rank = rank;
        cause = c;
        stops = Refused c (turn_so p o schedule rank first) (around_known p (replay p schedule).tables (some_words o (length schedule) % length p.ranks) rank first) first.able refused;
        whole = refl;
      }),
    )

    stuck : NoneEnabled p (replay p schedule).tables → (rank : ℕ) → IsLeast (has_event p (replay p schedule).tables) (length p.ranks) rank → SomeDue
    stuck none rank low = (
      false,
      stopped_line rank (length schedule) cause.Stuck ++ block false schedule,
      StopsShort schedule order (record {
        legal = legal;
        rank = rank;
        cause = cause.Stuck;
        stops = Stuck (record { left = (rank, low.below, low.here); none = none }) (record { known = low.below; left = low.here; below = low.less });
        whole = refl;
      }),
    )

    complete : AllEnded p (replay p schedule).tables → SomeDue
    complete ended =
        let text = text_after schedule in (
          true,
          text.0 ++ block true schedule,
          Completes schedule order (record { complete = record { legal = legal; ended = ended }; end = text.0; so = text.1; whole = refl }),
        )

    at_end : IsEndAround p (replay p schedule) (some_words o (length schedule) % length p.ranks) → SomeDue
    at_end (inr (rank, c, first, refused)) = stopped rank c first refused
    at_end (inl none) = elim (least (has_event p (replay p schedule).tables) (length p.ranks)) [
      | inl ended ↦ complete ended
      | inr (rank, low) ↦ stuck none rank low
    ]

  pub some_due : SomeDue
  unfolding replay IsLegal
  some_due =
      let w = some_words o in
      let run = some_order p [] w tt in
      let law = legal_order p [] run.0 w tt run.1 in
      at_end run.0 (schedule_so p o run.0 law.legal run.1) law.legal law.ended

-- ---- a command that runs programs
module _ (p : Programs) (in_range : IsInRange p) where
  -- the run comes to an end, with any texts of what schedules leave
  some_end : (play : Play) (IsEnd : Programs → List ℕ → List ℕ → Type 0) → ((schedule : List ℕ) → (text : List ℕ) × IsEnd p schedule text)
      → (complete : Bool) × (bytes : List ℕ) × RunsTo complete play IsEnd p bytes
  some_end play IsEnd text_after =
      let run = some_due p play.order (IsEnd p) (λ c schedule. block_of play.listing c p schedule) text_after in
      (run.0, run.1, record { in_range = in_range; due = run.2 })

  -- the state text of what a schedule leaves
  text_after : (schedule : List ℕ) → (text : List ℕ) × IsTextAfter p schedule text
  text_after schedule =
      let s = replay p schedule in
      let form = reduced_form s.circuit in (
        state_lines (length p.ranks) (protocol_total p) (form.1 + 0) (λ r. number_of_bits (s.tables.parts r).bits) (full_slots p s.tables.slots) form.0,
        record { numerators = form.0; exponent = form.1; form = form.2; lines = refl },
      )

  run_by_end : (play : Play) → (complete : Bool) × (bytes : List ℕ) × RunsTo complete play IsTextAfter p bytes → HasAnswer p (command.Run play)
  run_by_end play (true, bytes, due) = (status.Ok, bytes, Ends play due)
  run_by_end play (false, bytes, due) = (status.Stopped, bytes, Stops play due)

  pub some_run_answer : (play : Play) → HasAnswer p (command.Run play)
  some_run_answer play = run_by_end play (some_end play IsTextAfter text_after)

  -- its job text
  summary_after : (r : Recipe) (schedule : List ℕ) → (text : List ℕ) × IsJobText r p schedule text
  summary_after r schedule =
      let s = replay p schedule in
      let form = reduced_form s.circuit in (
        job_text (kind_word r.kind) (record {
          size = r.size;
          number = r.number;
          events = length schedule;
          protocol = protocol_total p;
          scale = form.1;
          lines = line_count form.0 (full_slots p s.tables.slots);
        }),
        record { numerators = form.0; exponent = form.1; form = form.2; whole = refl },
      )

  job_by_end : (r : Recipe) → (complete : Bool) × (bytes : List ℕ) × WorksTo complete r p bytes → HasAnswer p (command.Job r)
  job_by_end r (true, bytes, due) = (status.Ok, bytes, Works r due)
  job_by_end r (false, bytes, due) = (status.Stopped, bytes, Breaks r due)

  pub some_job_answer : (r : Recipe) → HasAnswer p (command.Job r)
  some_job_answer r = job_by_end r (some_end plain (IsJobText r) (summary_after r))

  -- its cost text
  cost_after : (d : Delays) → AreFew d → (schedule : List ℕ) → (text : List ℕ) × IsCostText d p schedule text
  cost_after d few schedule = let r = some_report p schedule d few in (cost_text (length schedule) r.0, record { report = r.0; so = r.1; whole = refl })

  cost_by_end : (seed : ℕ) (d : Delays) → (complete : Bool) × (bytes : List ℕ) × CostsTo complete seed d p bytes → HasAnswer p (command.Cost seed d)
  cost_by_end seed d (true, bytes, due) = (status.Ok, bytes, Costs seed d due)
  cost_by_end seed d (false, bytes, due) = (status.Stopped, bytes, CostsNone seed d due)

  pub some_cost_answer : (seed : ℕ) (d : Delays) → AreFew d → HasAnswer p (command.Cost seed d)
  some_cost_answer seed d few = cost_by_end seed d (some_end (seeded seed) (IsCostText d) (cost_after d few))
