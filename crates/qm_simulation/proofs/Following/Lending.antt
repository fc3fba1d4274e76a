-- A rank that lends its wire to a debt has no event, but for the one that takes this very debt
use Rattle.std.proofs.Common.{◌≡◌, ◌≢◌, ℕ, ◌<◌, ◌≤◌, nat_lt, true, List, [], ◌∷◌, length, drop, Option, Some, None, is_some, Contains, refl, sym, ap, ap₂, subst, ◌∙◌, arith}
use Rattle.std.proofs.lemmas.Option.{same_Some}
use Rattle.qm_instr.specs.declared.Instr.{Instr}
use Rattle.qm_instr.specs.declared.Instr.TheVariants as instr
use Rattle.qm_instr.specs.declared.Kind.{Kind}
use Rattle.qm_instr.specs.declared.Kind.TheVariants as kind
use Rattle.qm_instr.specs.declared.Lane.{Lane}
use Rattle.qm_instr.specs.Counts.{events_of}
use Rattle.qm_instr.specs.Lanes.{lane}
use Rattle.qm_instr.specs.Programs.{Programs, IsInRange}
use Rattle.qm_check.specs.Checks.{IsReady}
use Rattle.qm_check.proofs.Faultless.{step_of}
use Rattle.qm_denot.specs.declared.Parcel.{Parcel}
use Rattle.qm_proto.specs.Model.State.{Tables}
use Rattle.qm_proto.specs.Model.Rows.{current}
use Rattle.qm_proto.specs.Model.Runs.{row_holds}
use Rattle.qm_proto.proofs.Changes.{with_lane-here}
use Rattle.qm_safety.specs.Tables.Lines.{row_at, acts_of}
use Rattle.qm_simulation.specs.Following.Debts.{Holder, AtRank, OnLane}
use Rattle.qm_safety.proofs.Tables.NextEvents.{IsNext, event_done}
use Rattle.qm_simulation.proofs.Following.Places.{IsIn}
use Rattle.qm_simulation.proofs.Following.Stood.{IsStood, Waits, known_rank, half_on_way, half_taken, answer_on_way}
use Rattle.qm_simulation.proofs.Following.UndoLinks.{no_front}

-- the rank whose slot a rank's debt names
abbrev pub lender_of : Option Instr → Option ℕ
lender_of (Some (instr.ReachFrom q from tag)) = Some from
lender_of _ = None

-- the rank whose slot a parcel's debt names
abbrev pub lane_lender : Lane → Kind → Option ℕ
lane_lender a kind.Reach = Some a.from
lane_lender a kind.Back = Some a.to
lane_lender a kind.Undo = Some a.to
lane_lender a _ = None

abbrev pub holder_lender : Programs → Tables → Holder → Option ℕ
holder_lender p t (AtRank j) = lender_of (current p t j)
holder_lender p t (OnLane a x) = lane_lender a a.kind

-- a rank in the middle of an instruction, and a parcel with bits
abbrev pub IsThere : Tables → Holder → Type 0
IsThere t (AtRank j) = nat_lt 0 (t.parts j).stage ≡ true
IsThere t (OnLane a x) = Contains (t.lanes a) x × (is_some x.bits ≡ true)

nothing_in : (xs : List Parcel) (x : Parcel) → xs ≡ [] → Contains xs x → ⊥
nothing_in xs x none (k, below, is) = let z : length xs ≡ 0 = ap (λ (ys : List Parcel). length ys) none in omega arith

dropped_empty : (xs : List Parcel) → length xs ≤ 1 → drop 1 xs ≡ []
dropped_empty [] h = refl
dropped_empty (x ∷ xs) h = by_rest xs (omega arith)
  where
    by_rest : (ys : List Parcel) → length ys ≡ 0 → ys ≡ []
    by_rest [] e = refl
    by_rest (y ∷ ys) e = absurd (omega arith)

pub some_there : (xs : List Parcel) (x : Parcel) → Contains xs x → 0 < length xs
some_there xs x (k, below, is) = omega arith

module _ (p : Programs) (ready : IsReady p) (ranges : IsInRange p) (t : Tables) (r : ℕ) (stood : IsStood p t) (i : Instr) (s : ℕ) (next : IsNext p t r i s) where
  -- a rank that waits for an answer which is not there has no event
  not_waiting : (b tag : ℕ) → Waits p t r b tag → t.lanes (lane b r kind.Back tag) ≡ [] → ⊥
  not_waiting b tag w empty =
      let same : i ≡ instr.ReachTo w.slot b tag = same_Some i (instr.ReachTo w.slot b tag) (sym next.read ∙ w.here.read) in
      let three : s ≡ 3 = sym next.stage ∙ w.here.stage in
      let holds : row_holds p t (row_at p t r (instr.ReachTo w.slot b tag) 3) ≡ true =
      subst (λ j. row_holds p t (row_at p t r j 3) ≡ true) same (subst (λ k. row_holds p t (row_at p t r i k) ≡ true) three next.holds) in
      no_front (t.lanes (lane b r kind.Back tag)) empty holds

  -- one that waits for an answer takes it
  answer_gone : (b tag : ℕ) → Waits p t r b tag → length (t.lanes (lane b r kind.Back tag)) ≤ 1
      → (event_done (events_of i) r (acts_of (row_at p t r i s)) t).lanes (lane b r kind.Back tag) ≡ []
  answer_gone b tag w few =
      let c = lane b r kind.Back tag in
      let same : i ≡ instr.ReachTo w.slot b tag = same_Some i (instr.ReachTo w.slot b tag) (sym next.read ∙ w.here.read) in
      let three : s ≡ 3 = sym next.stage ∙ w.here.stage in
      ap₂ (λ j k. (event_done (events_of j) r (acts_of (row_at p t r j k)) t).lanes c) same three
      ∙ with_lane-here t.lanes c (drop 1 (t.lanes c)) ∙ dropped_empty (t.lanes c) few

  undo_gone : (o tag : ℕ) → (q : ℕ) × IsIn p t r (instr.UndoFrom q o tag) 0 → length (t.lanes (lane o r kind.Undo tag)) ≤ 1
      → (event_done (events_of i) r (acts_of (row_at p t r i s)) t).lanes (lane o r kind.Undo tag) ≡ []
  undo_gone o tag (q, here) few =
      let c = lane o r kind.Undo tag in
      let same : i ≡ instr.UndoFrom q o tag = same_Some i (instr.UndoFrom q o tag) (sym next.read ∙ here.read) in
      let first : s ≡ 0 = sym next.stage ∙ here.stage in
      ap₂ (λ j k. (event_done (events_of j) r (acts_of (row_at p t r j k)) t).lanes c) same first
      ∙ with_lane-here t.lanes c (drop 1 (t.lanes c)) ∙ dropped_empty (t.lanes c) few

  lent_to : (j : ℕ) (o : Option Instr) → current p t j ≡ o → lender_of o ≡ Some r → (q : ℕ) × (tag : ℕ) × (current p t j ≡ Some (instr.ReachFrom q r tag))
  lent_to j (Some (instr.ReachFrom q from tag)) read e = (q, tag, read ∙ ap (λ f. Some (instr.ReachFrom q f tag)) (same_Some from r e))
  lent_to j (Some _) read e = absurd (let n : ⊥ = cc in n)
  lent_to j None read e = absurd (let n : ⊥ = cc in n)

  apart_lane : (c : Lane) (x : Parcel) → Contains (t.lanes c) x → c.from ≢ c.to
  apart_lane c x there self = nothing_in (t.lanes c) x (stood.selfless c self) there

  -- the acting rank lends nothing to a debt that is there before and after its event
  pub lends_none : (h : Holder) → IsThere t h → IsThere (event_done (events_of i) r (acts_of (row_at p t r i s)) t) h → holder_lender p t h ≡ Some r → ⊥
  lends_none (AtRank j) was is e =
      let l = lent_to j (current p t j) refl e in
      let read = l.2 in
      let step = step_of p j (t.parts j).at (instr.ReachFrom l.0 r l.1) ready ranges (known_rank p t j (instr.ReachFrom l.0 r l.1) read) read in
      let taken = half_taken p t stood r j l.1 (step.partner r refl).other l.0 (t.parts j).stage (record { read = read; stage = refl }) was in
      not_waiting j l.1 taken.0 taken.1
  lends_none (OnLane a x) was is e = by_kind a.kind refl e
    where
      by_kind : (k : Kind) → a.kind ≡ k → lane_lender a k ≡ Some r → ⊥
      by_kind kind.Bit same e = cc
      by_kind kind.Copy same e = cc
      by_kind kind.Move same e = cc
      by_kind kind.Reach same e =
          let from : a.from ≡ r = same_Some a.from r e in
          let is_lane : a ≡ lane r a.to kind.Reach a.tag = ap₂ (λ f k. lane f a.to k a.tag) from same in
          let way = half_on_way p t stood r a.to a.tag (λ f. apart_lane a x was.0 (from ∙ f)) x (subst (λ l. Contains (t.lanes l) x) is_lane was.0) was.1 in
          not_waiting a.to a.tag way.0 way.1
      by_kind kind.Back same e =
          let to : a.to ≡ r = same_Some a.to r e in
          let is_lane : a ≡ lane a.from r kind.Back a.tag = ap₂ (λ f k. lane a.from f k a.tag) to same in
          let way = answer_on_way p t stood r a.from a.tag (λ f. apart_lane a x was.0 (sym f ∙ sym to)) (some_there _ x (subst (λ l. Contains (t.lanes l) x) is_lane was.0)) in
          let gone = answer_gone a.from a.tag way.0 way.1 in
          nothing_in _ x gone (subst (λ l. Contains ((event_done (events_of i) r (acts_of (row_at p t r i s)) t).lanes l) x) is_lane is.0)
      by_kind kind.Undo same e =
          let to : a.to ≡ r = same_Some a.to r e in
          let is_lane : a ≡ lane a.from r kind.Undo a.tag = ap₂ (λ f k. lane a.from f k a.tag) to same in
          let link = stood.undo a.from r a.tag (λ f. apart_lane a x was.0 (sym f ∙ sym to)) in
          let gone = undo_gone a.from a.tag (link.posted (some_there _ x (subst (λ l. Contains (t.lanes l) x) is_lane was.0))) link.single in
          nothing_in _ x gone (subst (λ l. Contains ((event_done (events_of i) r (acts_of (row_at p t r i s)) t).lanes l) x) is_lane is.0)
