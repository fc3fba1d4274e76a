-- What is so of the tables at all times of a run: well tables, open halves, and the links of undos and reaches
use Rattle.std.proofs.Common.{◌≡◌, ◌≢◌, ℕ, ◌+◌, ◌<◌, ◌≤◌, nat_eq, nat_lt, Bool, true, false, ◌&&◌, List, [], ◌∷◌, ◌++◌, length, drop, Option, Some, None, is_some, slice_get, Contains, refl, sym, ap, ap₂, subst, ◌∙◌, arith, ⊎_elim}
use Rattle.std.proofs.lemmas.Bool.{cases_lt, and_parts, eqb-true, eq-eqb}
use Rattle.std.proofs.lemmas.List.{get_or_past, nil_from_length}
use Rattle.qm_denot.specs.Parcels.{filled}
use Rattle.qm_instr.specs.declared.Instr.{Instr}
use Rattle.qm_instr.specs.declared.Instr.TheVariants as instr
use Rattle.qm_instr.specs.declared.Kind.TheVariants as kind
use Rattle.qm_instr.specs.declared.Lane.{Lane}
use Rattle.qm_instr.specs.Counts.{events_of}
use Rattle.qm_instr.proofs.LaneOrder.{same_lane}
use Rattle.qm_instr.specs.Lanes.{lane}
use Rattle.qm_instr.specs.Programs.{Programs, RankProgram, IsInRange, idle_rank}
use Rattle.qm_check.specs.Checks.{IsReady}
use Rattle.qm_check.specs.Messages.{posts_on}
use Rattle.qm_check.specs.Operands.{partner_of}
use Rattle.qm_check.proofs.Faultless.{IsStep, step_of}
use Rattle.qm_denot.specs.declared.Parcel.{Parcel}
use Rattle.qm_proto.specs.declared.Row.{Row}
use Rattle.qm_proto.specs.Model.State.{Tables, wire_of}
use Rattle.qm_proto.specs.Model.Rows.{current}
use Rattle.qm_proto.specs.Model.Runs.{enabled, next_tables}
use Rattle.qm_proto.specs.Model.Schedules.{tables_at_start}
use Rattle.qm_proto.proofs.Changes.{by_lane}
use Rattle.qm_safety.specs.Tables.Well.{IsWell}
use Rattle.qm_safety.specs.Tables.Lines.{row_at, acts_of}
use Rattle.qm_simulation.specs.Following.Debts.{far_counted}
use Rattle.qm_safety.proofs.Tables.NextEvents.{IsNext, event_done, next_is}
use Rattle.qm_safety.proofs.Tables.LaneShapes.{LaneCase, Still, Puts, Tells, Takes, lanes_by, IsLaneCase}
use Rattle.qm_safety.proofs.Tables.Standing.{well_at_start, well_next}
use Rattle.qm_simulation.proofs.Following.Places.{IsIn, lanes_go}
use Rattle.qm_simulation.proofs.Following.UndoLinks.{IsLinked, link_next}
use Rattle.qm_simulation.proofs.Following.Opens.{IsOpen, open_event}
use Rattle.qm_simulation.proofs.Following.ReachChains.{IsChained, one_if, filled_in, filled_there, waits_at, takes_at}
use Rattle.qm_simulation.proofs.Following.ReachLinks.{chain_event, takes_fresh, waits_fresh}

-- a rank with an instruction left is one of the programs'
pub known_rank : (p : Programs) (t : Tables) (r : ℕ) (i : Instr) → current p t r ≡ Some i → r < length p.ranks
known_rank p t r i read =
    ⊎_elim
    (λ (known : r < length p.ranks). known)
    (λ (past : length p.ranks ≤ r).
    let none : current p t r ≡ None = ap (λ (x : RankProgram). slice_get x.instructions (t.parts r).at) (get_or_past p.ranks r idle_rank past) in
    absurd (let n : ⊥ = cc in n))
    (cases_lt r (length p.ranks))

pub record IsStood (p : Programs) (t : Tables) : Type 0 where
  pub well : IsWell p t
  pub opens : (r : ℕ) → IsOpen p t r
  pub undo : (r d tag : ℕ) → d ≢ r → IsLinked p t r d tag
  pub reach : (a b tag : ℕ) → a ≢ b → IsChained p t a b tag
  pub selfless : (c : Lane) → c.from ≡ c.to → t.lanes c ≡ []

-- ---- no rank posts to itself
posted_partner : (r : ℕ) (i : Instr) (a : Lane) → posts_on r i a ≡ true → partner_of i ≡ Some a.to
posted_partner r (instr.SendBit b to tag) a e = ap (λ (l : Lane). Some l.to) (same_lane (lane r to kind.Bit tag) a e)
posted_partner r (instr.CopyTo b to tag) a e = ap (λ (l : Lane). Some l.to) (same_lane (lane r to kind.Copy tag) a e)
posted_partner r (instr.UndoTo b to tag) a e = ap (λ (l : Lane). Some l.to) (same_lane (lane r to kind.Undo tag) a e)
posted_partner r (instr.MoveTo b to tag) a e = ap (λ (l : Lane). Some l.to) (same_lane (lane r to kind.Move tag) a e)
posted_partner r (instr.ReachTo b to tag) a e = ap (λ (l : Lane). Some l.to) (same_lane (lane r to kind.Reach tag) a e)
posted_partner r (instr.ReachFrom b from tag) a e = ap (λ (l : Lane). Some l.to) (same_lane (lane r from kind.Back tag) a e)
posted_partner r _ a e = cc

module _ (p : Programs) (t : Tables) (r : ℕ) (i : Instr) (s : ℕ) (next : IsNext p t r i s)
    (step : (i : Instr) → current p t r ≡ Some i → IsStep p r (t.parts r).at i) (old : (c : Lane) → c.from ≡ c.to → t.lanes c ≡ []) where
  selfless_event : (c : Lane) → c.from ≡ c.to → (event_done (events_of i) r (acts_of (row_at p t r i s)) t).lanes c ≡ []
  selfless_event c self =
      let g = lanes_go p t r i s next in
      ap (λ (f : Lane → List Parcel). f c) g.lanes ∙ by_case g.row g.case g.so
    where
      by_case : (w : Row) (d : LaneCase) → IsLaneCase p t r i s w d → lanes_by d t.lanes c ≡ []
      by_case w Still so = old c self
      by_case w (Puts a x) so =
          by_lane (λ xs. xs ≡ []) t.lanes a (t.lanes a ++ x ∷ []) c
          (λ e. absurd (((step i next.read).partner a.to (posted_partner r i a so.1)).other
          (sym (ap (λ (l : Lane). l.to) e) ∙ sym self ∙ ap (λ (l : Lane). l.from) e ∙ so.0)))
          (λ _. old c self)
      by_case w (Tells a m) so =
          by_lane (λ xs. xs ≡ []) t.lanes a (filled (t.lanes a) m) c
          (λ e. ap (λ xs. filled xs m) (ap t.lanes (sym e) ∙ old c self)) (λ _. old c self)
      by_case w (Takes a) so =
          by_lane (λ xs. xs ≡ []) t.lanes a (drop 1 (t.lanes a)) c
          (λ e. ap (λ (xs : List Parcel). drop 1 xs) (ap t.lanes (sym e) ∙ old c self)) (λ _. old c self)

-- ---- at the start, and after each event
pub stood_at_start : (p : Programs) → IsReady p → IsInRange p → IsStood p (tables_at_start p)
stood_at_start p ready ranges = record {
  well = well_at_start p ready ranges;
  opens = λ r. record { last = λ a e sent. absurd (let n : ⊥ = cc in n); made = λ pair low. absurd (let n : ⊥ = cc in n) };
  undo = λ r d tag apart. record {
    held = λ q h. absurd (let z = h.stage in omega arith);
    posted = λ some. absurd (omega arith);
    single = omega arith;
  };
  reach = λ a b tag apart. record {
    count =
        let x = ap one_if (takes_fresh a tag (current p (tables_at_start p) b)) in
        let y = ap one_if (waits_fresh b tag (current p (tables_at_start p) a)) in
        omega arith;
    named = λ x (k, below, is) bits. absurd (omega arith);
    taken = λ on. absurd (let z = takes_fresh a tag (current p (tables_at_start p) b) in let n : ⊥ = cc in n);
  };
  selfless = λ c e. refl;
}

module _ (p : Programs) (ready : IsReady p) (ranges : IsInRange p) (t : Tables) (r : ℕ) (stood : IsStood p t) where
  pub steps : r < length p.ranks → (i : Instr) → current p t r ≡ Some i → IsStep p r (t.parts r).at i
  steps known i read = step_of p r (t.parts r).at i ready ranges known read

  pub stood_next : enabled p t r ≡ true → (i : Instr) (s : ℕ) → IsNext p t r i s → IsStood p (next_tables p t r)
  stood_next able i s next =
      let same : next_tables p t r ≡ event_done (events_of i) r (acts_of (row_at p t r i s)) t = next_is p t r i s next in
      let step = steps next.known in
      record {
        well = well_next p t r ready ranges stood.well next.known able;
        opens = λ k. subst (λ u. IsOpen p u k) (sym same) (open_event p t r i s next stood.opens k);
        undo = λ a d tag apart. subst (λ u. IsLinked p u a d tag) (sym same) (link_next p t r i s next a d tag apart (stood.undo a d tag apart));
        reach = λ a b tag apart. subst (λ u. IsChained p u a b tag) (sym same) (chain_event p t r i s next stood.opens step a b tag apart (stood.reach a b tag apart));
        selfless = λ c self. ap (λ (u : Tables). u.lanes c) same ∙ selfless_event p t r i s next step stood.selfless c self;
      }

-- ---- what the links of a reach say
pub waits_is : (p : Programs) (t : Tables) (a b tag : ℕ) → waits_at b tag (current p t a) (t.parts a).stage ≡ true → (q : ℕ) × IsIn p t a (instr.ReachTo q b tag) 3
waits_is p t a b tag e = by_read (current p t a) refl e
  where
    by_read : (o : Option Instr) → current p t a ≡ o → waits_at b tag o (t.parts a).stage ≡ true → (q : ℕ) × IsIn p t a (instr.ReachTo q b tag) 3
    by_read (Some (instr.ReachTo q to g)) read on =
        let h = and_parts (nat_eq (t.parts a).stage 3) (nat_eq to b && nat_eq g tag) on in
        let k = and_parts (nat_eq to b) (nat_eq g tag) h.1 in
        (q, record { read = read ∙ ap₂ (λ x y. Some (instr.ReachTo q x y)) (eqb-true to b k.0) (eqb-true g tag k.1); stage = eqb-true (t.parts a).stage 3 h.0 })
    by_read (Some _) read on = absurd (let n : ⊥ = cc in n)
    by_read None read on = absurd (let n : ⊥ = cc in n)

one_is_true : (b : Bool) → 0 < one_if b → b ≡ true
one_is_true true h = refl
one_is_true false h = absurd (omega arith)

at_most_one : (b : Bool) → one_if b ≤ 1
at_most_one true = omega arith
at_most_one false = omega arith

-- rank a waits for the answer of rank b, which is not on its way
pub record Waits (p : Programs) (t : Tables) (a b tag : ℕ) : Type 0 where
  pub slot : ℕ
  pub here : IsIn p t a (instr.ReachTo slot b tag) 3

module _ (p : Programs) (t : Tables) (stood : IsStood p t) (a b tag : ℕ) (apart : a ≢ b) where
  waiting : 0 < (filled_in (t.lanes (lane a b kind.Reach tag)) + length (t.lanes (lane b a kind.Back tag))) + one_if (takes_at a tag (current p t b) (t.parts b).stage)
      → Waits p t a b tag
  waiting some =
      let count = (stood.reach a b tag apart).count in
      let w = waits_is p t a b tag (one_is_true _ (omega arith)) in
      record { slot = w.0; here = w.1 }

  -- while a half with bits is on its way
  pub half_on_way : (x : Parcel) → Contains (t.lanes (lane a b kind.Reach tag)) x → is_some x.bits ≡ true
      → Waits p t a b tag × (t.lanes (lane b a kind.Back tag) ≡ []) × (wire_of x ≡ far_counted a (t.parts a))
  half_on_way x h bits =
      let some = filled_there (t.lanes (lane a b kind.Reach tag)) x h bits in
      let count = (stood.reach a b tag apart).count in
      let few = at_most_one (waits_at b tag (current p t a) (t.parts a).stage) in
      (waiting (omega arith), nil_from_length (t.lanes (lane b a kind.Back tag)) (omega arith), (stood.reach a b tag apart).named x h bits)

  -- while the half is at the second rank
  pub half_taken : (q s : ℕ) → IsIn p t b (instr.ReachFrom q a tag) s → nat_lt 0 s ≡ true
      → Waits p t a b tag × (t.lanes (lane b a kind.Back tag) ≡ []) × (wire_of (t.parts b).taken ≡ far_counted a (t.parts a))
  half_taken q s here low =
      let on : takes_at a tag (current p t b) (t.parts b).stage ≡ true =
      ap (λ o. takes_at a tag o (t.parts b).stage) here.read ∙ ap (takes_at a tag (Some (instr.ReachFrom q a tag))) here.stage
      ∙ ap₂ (λ x y. x && y) low (ap₂ (λ x y. x && y) (eq-eqb a a refl) (eq-eqb tag tag refl)) in
      let one : one_if (takes_at a tag (current p t b) (t.parts b).stage) ≡ 1 = ap one_if on in
      let count = (stood.reach a b tag apart).count in
      let few = at_most_one (waits_at b tag (current p t a) (t.parts a).stage) in
      (waiting (omega arith), nil_from_length (t.lanes (lane b a kind.Back tag)) (omega arith), (stood.reach a b tag apart).taken on)

  -- while the answer is on its way
  pub answer_on_way : 0 < length (t.lanes (lane b a kind.Back tag)) → Waits p t a b tag × (length (t.lanes (lane b a kind.Back tag)) ≤ 1)
  answer_on_way some =
      let count = (stood.reach a b tag apart).count in
      let few = at_most_one (waits_at b tag (current p t a) (t.parts a).stage) in
      (waiting (omega arith), omega arith)
