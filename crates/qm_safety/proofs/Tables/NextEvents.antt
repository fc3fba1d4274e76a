-- The line of the table that is next, and where the rank stands after it
use Rattle.std.proofs.Common.{◌≡◌, ◌≢◌, ℕ, ◌+◌, ◌<◌, nat_lt, true, false, cond, List, length, Option, Some, None, slice_get, refl, sym, ap, subst, ◌∙◌}
use Rattle.qm_instr.specs.declared.Instr.{Instr}
use Rattle.qm_instr.specs.Counts.{events_of}
use Rattle.qm_instr.specs.Programs.{Programs}
use Rattle.qm_proto.specs.Model.State.{Part, Tables, with_part}
use Rattle.qm_proto.specs.declared.Act.{Act}
use Rattle.qm_proto.specs.Model.Acts.{list_of, after_acts}
use Rattle.qm_proto.specs.declared.Row.{Row}
use Rattle.qm_proto.specs.Model.Rows.{current, rows}
use Rattle.qm_proto.specs.Model.Runs.{part_after_event, events_at, row_in, row_next, row_tables, row_holds, enabled, next_tables}
use Rattle.qm_proto.proofs.Changes.{with_at-here, with_at-elsewhere}
use Rattle.qm_proto.proofs.Positions.{all_at_kept, all_stage_kept, all_other_parts_kept}
use Rattle.qm_safety.specs.Tables.Lines.{row_at, acts_of}

-- ---- the next event
-- rank r stands before event s of instruction i, and may do it
pub record IsNext (p : Programs) (t : Tables) (r : ℕ) (i : Instr) (s : ℕ) : Type 0 where
  pub known : r < length p.ranks
  pub read : current p t r ≡ Some i
  pub stage : (t.parts r).stage ≡ s
  pub holds : row_holds p t (row_at p t r i s) ≡ true

-- some line of the table is next
pub record IsLineNext (p : Programs) (t : Tables) (r : ℕ) : Type 0 where
  pub i : Instr
  pub s : ℕ
  pub w : Row
  pub next : IsNext p t r i s
  pub line : row_at p t r i s ≡ Some w

module _ (p : Programs) (t : Tables) (r : ℕ) (known : r < length p.ranks) where
  line_in : (i : Instr) (o : Option Row) → current p t r ≡ Some i → row_at p t r i (t.parts r).stage ≡ o → row_holds p t o ≡ true → IsLineNext p t r
  line_in i None read line holds = cc
  line_in i (Some w) read line holds =
      let next : IsNext p t r i (t.parts r).stage =
      record { known = known; read = read; stage = refl; holds = subst (λ o. row_holds p t o ≡ true) (sym line) holds } in
      record { i = i; s = (t.parts r).stage; w = w; next = next; line = line }

  line_of : (o : Option Instr) → current p t r ≡ o → row_holds p t (row_in p t r o) ≡ true → IsLineNext p t r
  line_of None read holds = cc
  line_of (Some i) read holds = line_in i (row_at p t r i (t.parts r).stage) read refl holds

  -- where a rank is enabled
  pub line_next : enabled p t r ≡ true → IsLineNext p t r
  line_next able = line_of (current p t r) refl able

-- ---- where the rank stands after it
-- the tables after the acts of an event, of an instruction that has n of them
abbrev pub event_done : ℕ → ℕ → List Act → Tables → Tables
event_done n r acts t =
    let u = after_acts r acts t in
    with_part u r (part_after_event n (u.parts r))

done_row : (p : Programs) (t : Tables) (n r : ℕ) (o : Option Row) → row_holds p t o ≡ true → row_tables n r o t ≡ event_done n r (acts_of o) t
done_row p t n r None holds = cc
done_row p t n r (Some w) holds = refl

pub row_is : (p : Programs) (t : Tables) (r : ℕ) (i : Instr) (s : ℕ) → IsNext p t r i s → row_next p t r ≡ row_at p t r i s
row_is p t r i s next = ap (row_in p t r) next.read ∙ ap (slice_get (rows p t r i)) next.stage

pub next_is : (p : Programs) (t : Tables) (r : ℕ) (i : Instr) (s : ℕ) → IsNext p t r i s
    → next_tables p t r ≡ event_done (events_of i) r (acts_of (row_at p t r i s)) t
next_is p t r i s next =
    ap (λ o. row_tables (events_at o) r (row_next p t r) t) next.read
    ∙ ap (λ o. row_tables (events_of i) r o t) (row_is p t r i s next)
    ∙ done_row p t (events_of i) r (row_at p t r i s) next.holds

-- the tables after a line of the table
pub line_is : (p : Programs) (t : Tables) (r : ℕ) (here : IsLineNext p t r) → next_tables p t r ≡ event_done (events_of here.i) r (list_of here.w.acts) t
line_is p t r here = next_is p t r here.i here.s here.next ∙ ap (λ o. event_done (events_of here.i) r (acts_of o) t) here.line

module _ (n s r : ℕ) (acts : List Act) (t : Tables) (v : Part) (after : (after_acts r acts t).parts r ≡ v) (stage : v.stage ≡ s) where
  moved : part_after_event n v ≡ cond (nat_lt (s + 1) n) (record v { stage = s + 1 }) (record v { at = v.at + 1; stage = 0 })
  moved = ap (λ k. cond (nat_lt (k + 1) n) (record v { stage = k + 1 }) (record v { at = v.at + 1; stage = 0 })) stage

  part_moved : (event_done n r acts t).parts r ≡ cond (nat_lt (s + 1) n) (record v { stage = s + 1 }) (record v { at = v.at + 1; stage = 0 })
  part_moved =
      let u = after_acts r acts t in
      with_at-here u.parts r (part_after_event n (u.parts r)) ∙ ap (part_after_event n) after ∙ moved

  -- the instruction goes on
  pub part_on : nat_lt (s + 1) n ≡ true → (event_done n r acts t).parts r ≡ record v { stage = s + 1 }
  part_on more = part_moved ∙ ap (λ b. cond b (record v { stage = s + 1 }) (record v { at = v.at + 1; stage = 0 })) more

  -- the instruction ends
  pub part_ended : nat_lt (s + 1) n ≡ false → (event_done n r acts t).parts r ≡ record v { at = v.at + 1; stage = 0 }
  part_ended last = part_moved ∙ ap (λ b. cond b (record v { stage = s + 1 }) (record v { at = v.at + 1; stage = 0 })) last

-- where the acting rank stands, by its number of instructions and its stage alone
pub record IsAtStage (v : Part) (k s : ℕ) : Type 0 where
  pub at : v.at ≡ k
  pub stage : v.stage ≡ s

module _ (n s r : ℕ) (acts : List Act) (t : Tables) (stage : (t.parts r).stage ≡ s) where
  pub stage_on : nat_lt (s + 1) n ≡ true → IsAtStage ((event_done n r acts t).parts r) (t.parts r).at (s + 1)
  stage_on more =
      let same = part_on n s r acts t ((after_acts r acts t).parts r) refl (all_stage_kept r r acts t ∙ stage) more in
      record { at = ap (λ (v : Part). v.at) same ∙ all_at_kept r r acts t; stage = ap (λ (v : Part). v.stage) same }

  pub stage_ended : nat_lt (s + 1) n ≡ false → IsAtStage ((event_done n r acts t).parts r) ((t.parts r).at + 1) 0
  stage_ended last =
      let same = part_ended n s r acts t ((after_acts r acts t).parts r) refl (all_stage_kept r r acts t ∙ stage) last in
      record { at = ap (λ (v : Part). v.at) same ∙ ap (λ k. k + 1) (all_at_kept r r acts t); stage = ap (λ (v : Part). v.stage) same }

-- other ranks stand where they stood
pub part_elsewhere : (n r k : ℕ) (acts : List Act) (t : Tables) → k ≢ r → (event_done n r acts t).parts k ≡ t.parts k
part_elsewhere n r k acts t other =
    let u = after_acts r acts t in
    with_at-elsewhere u.parts r (part_after_event n (u.parts r)) k other ∙ all_other_parts_kept r k other acts t
