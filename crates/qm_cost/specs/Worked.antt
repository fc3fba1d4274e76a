-- Direct predecessors and reports that were worked out by hand
use Rattle.std.specs.Prelude.{◌≡◌, ℕ, ◌+◌, true, false, List, [], ◌∷◌, Option, Some, None}
use Rattle.qm_instr.specs.declared.Instr.{Instr}
use Rattle.qm_instr.specs.declared.Instr.TheVariants as instr
use Rattle.qm_instr.specs.Programs.{Programs, RankProgram}
use Rattle.qm_proto.specs.declared.Event.{Event}
use Rattle.qm_proto.specs.declared.Event.TheVariants as event
use Rattle.qm_proto.specs.WorkedPrograms.{copy_programs, uncopy_programs, reach_programs, crossed_programs}
use Rattle.qm_proto.specs.WorkedRun.{copy_schedule, uncopy_schedule, reach_schedule, crossed_schedule}
use Rattle.qm_cost.specs.declared.Delays.{Delays}
use Rattle.qm_cost.specs.declared.Link.{Link}
use Rattle.qm_cost.specs.Turns.{Turn, turns_of, own_before, partner_before, post_before}
use Rattle.qm_cost.specs.Reports.{IsCost}

-- the direct predecessors of an event: the last of its rank, the last of its partner, and the giver of the parcel that it takes
record Before : Type 0 where
  own : Option ℕ
  partner : Option ℕ
  post : Option ℕ

abbrev before : Option ℕ → Option ℕ → Option ℕ → Before
before own partner post = record { own = own; partner = partner; post = post }

-- those of the n events from event j on
abbrev befores : List Turn → ℕ → List ℕ → List Before
befores ts j [] = []
befores ts j (r ∷ rs) = before (own_before ts j) (partner_before ts j) (post_before ts j) ∷ befores ts (j + 1) rs

-- the events of a schedule have these direct predecessors
abbrev Shows : Programs → List ℕ → List Before → Type 0
Shows p schedule bs = befores (turns_of p schedule) 0 schedule ≡ bs

abbrev link : ℕ → ℕ → Event → ℕ → Link
link at rank e finish = record { at = at; rank = rank; event = e; finish = finish }

abbrev delays : ℕ → ℕ → ℕ → Delays
delays local pair bits = record { local = local; pair = pair; bits = bits }

-- with these delays the schedule takes this time, by this chain
abbrev Takes : Programs → List ℕ → Delays → ℕ → List Link → Type 0
Takes p schedule d time chain = IsCost p schedule d (record { time = time; chain = chain })

pub record WorkedLinks : Type 0 where
  -- a copy: the receiver had no event before the pair
  pub copy : Shows (copy_programs true) copy_schedule (
      before None None None
      ∷ before (Some 0) None None
      ∷ before (Some 1) None None
      ∷ before (Some 2) None None
      ∷ before (Some 3) None None
      ∷ before None None (Some 4)
      ∷ before (Some 5) None None
      ∷ [])
  -- the copy is tested behind the last event of its source's rank
  pub uncopy : Shows (uncopy_programs true false) uncopy_schedule (
      before None None None
      ∷ before (Some 0) None None
      ∷ before (Some 1) None None
      ∷ before (Some 2) None None
      ∷ before None None (Some 3)
      ∷ before (Some 4) None None
      ∷ before (Some 5) (Some 3) None
      ∷ before (Some 6) None None
      ∷ before (Some 3) None (Some 7)
      ∷ before (Some 8) None None
      ∷ [])
  -- two copies that cross: the second pair comes behind its receiver's last event, which is later than its own rank's
  pub crossed : Shows (crossed_programs 2 2) crossed_schedule (
      before None None None
      ∷ before (Some 0) None None
      ∷ before (Some 1) None None
      ∷ before (Some 2) None None
      ∷ before None None None
      ∷ before (Some 4) (Some 3) None
      ∷ before (Some 5) None None
      ∷ before (Some 6) None None
      ∷ before (Some 3) None (Some 7)
      ∷ before (Some 8) None None
      ∷ before (Some 7) None (Some 3)
      ∷ before (Some 10) None None
      ∷ [])
  -- a reach and its answer
  pub reach : Shows (reach_programs true false) reach_schedule (
      before None None None
      ∷ before None None None
      ∷ before (Some 0) (Some 1) None
      ∷ before (Some 2) None None
      ∷ before (Some 3) None None
      ∷ before (Some 1) None (Some 4)
      ∷ before (Some 5) None None
      ∷ before (Some 6) None None
      ∷ before (Some 7) None None
      ∷ before (Some 8) None None
      ∷ before (Some 4) None (Some 9)
      ∷ before (Some 10) None None
      ∷ before (Some 11) (Some 9) None
      ∷ before (Some 12) None None
      ∷ before (Some 13) None None
      ∷ before (Some 9) None (Some 14)
      ∷ before (Some 15) None None
      ∷ [])

-- rank 0 sets a bit and sends it; rank 1 sets three bits before it receives
abbrev pub sent_programs : Programs
sent_programs =
    let rank : List Instr → RankProgram =
    λ is. record { qubits = 1; buffer = 1; instructions = is; own = []; protocol = [] } in
    record {
      version = 1;
      ranks =
          rank (instr.Set 0 true ∷ instr.SendBit 0 1 2 ∷ [])
          ∷ rank (instr.Set 1 true ∷ instr.Set 2 true ∷ instr.Set 3 true ∷ instr.RecvBit 0 0 2 ∷ [])
          ∷ [];
    }

abbrev pub sent_schedule : List ℕ
sent_schedule = 0 ∷ 0 ∷ 1 ∷ 1 ∷ 1 ∷ 1 ∷ []

pub record WorkedReports : Type 0 where
  -- a copy takes its seven events, one after another
  pub copy : Takes (copy_programs true) copy_schedule (delays 1 10 5) 21 (
      link 0 0 event.Alloc 1
      ∷ link 1 0 event.Gate 2
      ∷ link 2 0 event.Pair 12
      ∷ link 3 0 event.Cross 13
      ∷ link 4 0 event.Post 14
      ∷ link 5 1 event.Deliver 20
      ∷ link 6 1 event.FixX 21
      ∷ [])
  -- the second pair waits for the last event of its receiver
  pub crossed : Takes (crossed_programs 2 2) crossed_schedule (delays 1 10 5) 32 (
      link 0 0 event.Alloc 1
      ∷ link 1 0 event.Pair 11
      ∷ link 2 0 event.Cross 12
      ∷ link 3 0 event.Post 13
      ∷ link 5 1 event.Pair 23
      ∷ link 6 1 event.Cross 24
      ∷ link 7 1 event.Post 25
      ∷ link 8 0 event.Deliver 31
      ∷ link 9 0 event.FixX 32
      ∷ [])
  -- the bit is on its way for longer than the receiver is at work
  pub late_bits : Takes sent_programs sent_schedule (delays 1 10 5) 8 (
      link 0 0 event.Set 1 ∷ link 1 0 event.SendBit 2 ∷ link 5 1 event.RecvBit 8 ∷ [])
  -- and for less
  pub early_bits : Takes sent_programs sent_schedule (delays 1 10 0) 4 (
      link 2 1 event.Set 1 ∷ link 3 1 event.Set 2 ∷ link 4 1 event.Set 3 ∷ link 5 1 event.RecvBit 4 ∷ [])
  -- and for as long: of the two predecessors the one with the lower number
  pub tied_before : Takes sent_programs sent_schedule (delays 1 10 1) 4 (
      link 0 0 event.Set 1 ∷ link 1 0 event.SendBit 2 ∷ link 5 1 event.RecvBit 4 ∷ [])
  -- two events end at the same time: the one with the lower number
  pub tied_last : Takes sent_programs (1 ∷ 0 ∷ []) (delays 1 10 1) 1 (link 0 1 event.Set 1 ∷ [])
  -- no event takes any time: the first alone
  pub no_time : Takes (copy_programs true) copy_schedule (delays 0 0 0) 0 (link 0 0 event.Alloc 0 ∷ [])
  pub one : Takes sent_programs (0 ∷ []) (delays 3 10 1) 3 (link 0 0 event.Set 3 ∷ [])
  pub none : Takes sent_programs [] (delays 1 1 1) 0 []
