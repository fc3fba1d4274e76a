-- Where a rank stands in the middle of an instruction, and what its event makes of its part and of lanes
use Rattle.std.proofs.Common.{◌≡◌, ◌≢◌, ℕ, ◌+◌, nat_lt, Bool, true, false, List, [], ◌∷◌, drop, Option, Some, None, unwrap_or, refl, sym, ap, subst, ◌∙◌}
use Rattle.std.specs.Prelude.{slice_set}
use mathlib.Core.Path.{fun_ext}
use Rattle.qm_denot.specs.declared.Letter.{Letter}
use Rattle.qm_instr.specs.declared.Instr.{Instr}
use Rattle.qm_instr.specs.declared.Lane.{Lane}
use Rattle.qm_instr.specs.Counts.{events_of}
use Rattle.qm_instr.specs.Programs.{Programs}
use Rattle.qm_proto.specs.declared.Row.{Row}
use Rattle.qm_denot.specs.declared.Parcel.{Parcel}
use Rattle.qm_proto.specs.declared.Act.{Act}
use Rattle.qm_proto.specs.declared.Act.TheVariants.{Fresh, Twin, Receives, OwnUsed, ProtocolUsed, FirstKept, BitSet}
use Rattle.qm_proto.specs.Model.State.{Part, Tables, wire_in, no_wire, front}
use Rattle.qm_proto.specs.Model.Acts.{list_of, with_one_counted, after_act, after_acts}
use Rattle.qm_proto.specs.Model.Rows.{instr_at, current, letter, few_if}
use Rattle.qm_proto.specs.Model.Runs.{row_holds, holds}
use Rattle.qm_proto.proofs.Changes.{with_at-here, with_lane-elsewhere}
use Rattle.qm_proto.proofs.Positions.{all_at_kept, all_stage_kept, all_other_slots_kept}
use Rattle.qm_safety.specs.Tables.Lines.{row_at, acts_of}
use Rattle.qm_simulation.specs.Following.Deciding.{outcomes}
use Rattle.qm_safety.proofs.Tables.NextEvents.{IsNext, event_done, part_on, part_ended}
use Rattle.qm_safety.proofs.Tables.LaneShapes.{LaneCase, Still, Puts, Tells, Takes, lanes_by, IsLaneCase, lane_case}

-- rank r has done s events of instruction i
pub record IsIn (p : Programs) (t : Tables) (r : ℕ) (i : Instr) (s : ℕ) : Type 0 where
  pub read : current p t r ≡ Some i
  pub stage : (t.parts r).stage ≡ s

pub before_event : (p : Programs) (t : Tables) (r : ℕ) (i : Instr) (s : ℕ) → IsNext p t r i s → IsIn p t r i s
before_event p t r i s next = record { read = next.read; stage = next.stage }

-- the tables after event s of instruction i
abbrev pub after : Programs → Tables → ℕ → Instr → ℕ → Tables
after p t r i s = event_done (events_of i) r (acts_of (row_at p t r i s)) t

-- ---- the part of the acting rank
abbrev pub part_one : Act → Tables → Part → Part
part_one (Fresh q) t v = with_one_counted v
part_one (Twin to) t v = with_one_counted v
part_one (Receives a) t v = record v { taken = front t a }
part_one OwnUsed t v = record v { own = drop 1 v.own }
part_one ProtocolUsed t v = record v { protocol = drop 1 v.protocol }
part_one (FirstKept m) t v = record v { first = m }
part_one (BitSet b x) t v = record v { bits = slice_set v.bits b x }
part_one _ t v = v

-- its part after the acts of a list
abbrev pub part_all : ℕ → List Act → Tables → Part → Part
part_all r [] t v = v
part_all r (a ∷ acts) t v = part_all r acts (after_act r a t) (part_one a t v)

module _ (r : ℕ) where
  part_done : (act : Act) (t : Tables) → (after_act r act t).parts r ≡ part_one act t (t.parts r)
  part_done (Fresh q) t = with_at-here t.parts r (with_one_counted (t.parts r))
  part_done (Twin to) t = with_at-here t.parts r (with_one_counted (t.parts r))
  part_done (Receives a) t = with_at-here t.parts r (record (t.parts r) { taken = front t a })
  part_done OwnUsed t = with_at-here t.parts r (record (t.parts r) { own = drop 1 (t.parts r).own })
  part_done ProtocolUsed t = with_at-here t.parts r (record (t.parts r) { protocol = drop 1 (t.parts r).protocol })
  part_done (FirstKept m) t = with_at-here t.parts r (record (t.parts r) { first = m })
  part_done (BitSet b x) t = with_at-here t.parts r (record (t.parts r) { bits = slice_set (t.parts r).bits b x })
  part_done _ t = refl

  pub part_all_done : (acts : List Act) (t : Tables) → (after_acts r acts t).parts r ≡ part_all r acts t (t.parts r)
  part_all_done [] t = refl
  part_all_done (a ∷ acts) t = part_all_done acts (after_act r a t) ∙ ap (part_all r acts (after_act r a t)) (part_done a t)

  pub part_at : (acts : List Act) (t : Tables) → (part_all r acts t (t.parts r)).at ≡ (t.parts r).at
  part_at acts t = ap (λ (v : Part). v.at) (sym (part_all_done acts t)) ∙ all_at_kept r r acts t

  pub part_stage : (acts : List Act) (t : Tables) → (part_all r acts t (t.parts r)).stage ≡ (t.parts r).stage
  part_stage acts t = ap (λ (v : Part). v.stage) (sym (part_all_done acts t)) ∙ all_stage_kept r r acts t

module _ (p : Programs) (t : Tables) (r n : ℕ) (acts : List Act) (i : Instr) (s : ℕ) (next : IsNext p t r i s) where
  -- its part after an event of an instruction that goes on, and of one that ends
  pub own_on : nat_lt (s + 1) n ≡ true → (event_done n r acts t).parts r ≡ record (part_all r acts t (t.parts r)) { stage = s + 1 }
  own_on more = part_on n s r acts t (part_all r acts t (t.parts r)) (part_all_done r acts t) (part_stage r acts t ∙ next.stage) more

  pub own_ended : nat_lt (s + 1) n ≡ false
      → (event_done n r acts t).parts r ≡ record (part_all r acts t (t.parts r)) { at = (part_all r acts t (t.parts r)).at + 1; stage = 0 }
  own_ended last = part_ended n s r acts t (part_all r acts t (t.parts r)) (part_all_done r acts t) (part_stage r acts t ∙ next.stage) last

  pub read_on : instr_at p r (part_all r acts t (t.parts r)).at ≡ Some i
  read_on = ap (instr_at p r) (part_at r acts t) ∙ next.read

  pub goes_on : nat_lt (s + 1) n ≡ true → IsIn p (event_done n r acts t) r i (s + 1)
  goes_on more =
      let same = own_on more in
      record { read = ap (λ (v : Part). instr_at p r v.at) same ∙ read_on; stage = ap (λ (v : Part). v.stage) same }

  pub fresh_stage : nat_lt (s + 1) n ≡ false → ((event_done n r acts t).parts r).stage ≡ 0
  fresh_stage last = ap (λ (v : Part). v.stage) (own_ended last)

-- other ranks keep the wires in their slots
pub other_wires : (r k : ℕ) → k ≢ r → (n : ℕ) (acts : List Act) (t : Tables) → wire_in (event_done n r acts t) k ≡ wire_in t k
other_wires r k other n acts t = fun_ext (λ q. ap (λ o. unwrap_or o no_wire) (all_other_slots_kept r k other q acts t))

-- ---- letters that may be there
pub letters_tables : (r n : ℕ) (b : Bool) (l : Letter) (t : Tables) → event_done n r (list_of (few_if b (letter l))) t ≡ event_done n r [] t
letters_tables r n true l t = refl
letters_tables r n false l t = refl

pub letters_none_used : (b : Bool) (l : Letter) → outcomes (list_of (few_if b (letter l))) ≡ 0
letters_none_used true l = refl
letters_none_used false l = refl

-- ---- lanes
-- the line of the table
pub record HasLine (p : Programs) (t : Tables) (r : ℕ) (i : Instr) (s : ℕ) : Type 0 where
  pub row : Row
  pub line : row_at p t r i s ≡ Some row

pub line_there : (p : Programs) (t : Tables) (r : ℕ) (i : Instr) (s : ℕ) → IsNext p t r i s → HasLine p t r i s
line_there p t r i s next = by_row (row_at p t r i s) refl next.holds
  where
    by_row : (o : Option Row) → row_at p t r i s ≡ o → row_holds p t o ≡ true → HasLine p t r i s
    by_row None e h = cc
    by_row (Some w) e h = record { row = w; line = e }

-- what the event does to lanes
pub record LanesGo (p : Programs) (t : Tables) (r : ℕ) (i : Instr) (s : ℕ) : Type 0 where
  pub row : Row
  pub line : row_at p t r i s ≡ Some row
  pub case : LaneCase
  pub lanes : (event_done (events_of i) r (acts_of (row_at p t r i s)) t).lanes ≡ lanes_by case t.lanes
  pub so : IsLaneCase p t r i s row case
  pub free : holds p t row.rule ≡ true

pub lanes_go : (p : Programs) (t : Tables) (r : ℕ) (i : Instr) (s : ℕ) → IsNext p t r i s → LanesGo p t r i s
lanes_go p t r i s next =
    let l = line_there p t r i s next in
    let d = lane_case p t r i s l.row l.line in
    record {
      row = l.row;
      line = l.line;
      case = d.case;
      lanes = ap (λ o. (after_acts r (acts_of o) t).lanes) l.line ∙ d.lanes;
      so = d.so;
      free = subst (λ o. row_holds p t o ≡ true) l.line next.holds;
    }

-- a lane that neither begins nor ends at the acting rank stays
pub lane_stays : (p : Programs) (t : Tables) (r : ℕ) (i : Instr) (s : ℕ) → IsNext p t r i s → (c : Lane) → c.from ≢ r → c.to ≢ r
    → (event_done (events_of i) r (acts_of (row_at p t r i s)) t).lanes c ≡ t.lanes c
lane_stays p t r i s next c from to =
    let g = lanes_go p t r i s next in
    ap (λ (f : Lane → List Parcel). f c) g.lanes ∙ by_case g.row g.case g.so
  where
    by_case : (w : Row) (d : LaneCase) → IsLaneCase p t r i s w d → lanes_by d t.lanes c ≡ t.lanes c
    by_case w Still so = refl
    by_case w (Puts a x) so = with_lane-elsewhere t.lanes a _ c (λ e. from (ap (λ (l : Lane). l.from) e ∙ so.0))
    by_case w (Tells a m) so = with_lane-elsewhere t.lanes a _ c (λ e. from (ap (λ (l : Lane). l.from) e ∙ so.0))
    by_case w (Takes a) so = with_lane-elsewhere t.lanes a _ c (λ e. to (ap (λ (l : Lane). l.to) e ∙ so.3))
