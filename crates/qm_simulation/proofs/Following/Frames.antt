-- What an event makes of the holders of debts: those of other messages stay
use Rattle.std.proofs.Common.{◌≡◌, ◌≢◌, ℕ, zero, suc, ◌+◌, ◌-◌, ◌≤◌, nat_lt, Bool, true, false, cond, ◌⊎◌, inl, inr, List, [], ◌∷◌, ◌++◌, length, drop, Option, Some, None, is_some, slice_get, slice_index_or, Contains, refl, sym, ap, ap₂, subst, ◌∙◌, arith, ⊎_elim}
use Rattle.std.proofs.lemmas.Bool.{cases_eq, lt-ltb}
use Rattle.std.proofs.lemmas.List.Elements.{Contains-push_cases, Contains-append_left}
use Rattle.std.proofs.lemmas.Option.{slice_get_read}
use Rattle.qm_denot.specs.declared.Wire.{Wire}
use Rattle.qm_denot.specs.declared.Letter.TheVariants.{Phase, Flip, Cx}
use Rattle.qm_denot.specs.Protocols.{letter_if}
use Rattle.qm_instr.specs.declared.Instr.{Instr}
use Rattle.qm_instr.specs.declared.Instr.TheVariants as instr
use Rattle.qm_instr.specs.declared.Kind.{Kind}
use Rattle.qm_instr.specs.declared.Kind.TheVariants as kind
use Rattle.qm_instr.specs.declared.Lane.{Lane}
use Rattle.qm_instr.specs.Counts.{events_of}
use Rattle.qm_instr.specs.Programs.{Programs, IsInRange}
use Rattle.qm_check.specs.Checks.{IsReady}
use Rattle.qm_denot.specs.declared.Parcel.{Parcel}
use Rattle.qm_proto.specs.declared.Act.{Act}
use Rattle.qm_proto.specs.Model.State.{Part, Tables, with_lane, wire_in, no_parcel, front, wire_of, first_bit}
use Rattle.qm_proto.specs.Model.Rows.{current, instr_at, source_wire, wire_offered}
use Rattle.qm_proto.specs.Model.Tidy.{IsTidy}
use Rattle.qm_proto.proofs.Changes.{by_lane, with_lane-here}
use Rattle.qm_proto.proofs.TidyLanes.{taken_free}
use Rattle.qm_safety.specs.Tables.Lines.{row_at, acts_of}
use Rattle.qm_simulation.specs.Following.Debts.{Message, ByPair, BackTo, pair_of, Debt, debt, debt_in, rank_debt, parcel_debt, parcel_letters, Holder, AtRank, OnLane, Owes}
use Rattle.qm_safety.proofs.Tables.NextEvents.{IsNext, event_done, part_elsewhere}
use Rattle.qm_simulation.proofs.Following.Rewritings.{Entry, IsEntry, IsIt, IsFrame}
use Rattle.qm_confluence.proofs.Confluence.IdealWires.{contains_drop}
use Rattle.qm_simulation.proofs.Following.Places.{IsIn, part_all, own_on, read_on, fresh_stage, other_wires}
use Rattle.qm_simulation.proofs.Following.Stood.{IsStood}
use Rattle.qm_simulation.proofs.Following.Lending.{lender_of, lane_lender, IsThere, lends_none}

-- ---- debts of ranks
-- no rank owes anything before its first event of an instruction
pub debt_fresh : (r : ℕ) (v : Part) (w lent : ℕ → Wire) (o : Option Instr) → debt_in r v w lent o 0 ≡ None
debt_fresh r v w lent None = refl
debt_fresh r v w lent (Some i) = by_instr i
  where
    by_instr : (i : Instr) → debt_in r v w lent (Some i) 0 ≡ None
    by_instr (instr.CopyTo q to tag) = refl
    by_instr (instr.CopyFrom q from tag) = refl
    by_instr (instr.MoveTo q to tag) = refl
    by_instr (instr.MoveFrom q from tag) = refl
    by_instr (instr.UndoTo q to tag) = refl
    by_instr (instr.UndoFrom q from tag) = refl
    by_instr (instr.ReachTo q to tag) = refl
    by_instr (instr.ReachFrom q from tag) = refl
    by_instr _ = refl

-- what a rank owes, by where it stands
pub rank_debt_at : (p : Programs) (t : Tables) (r : ℕ) (i : Instr) (s : ℕ) → IsIn p t r i s
    → rank_debt p t r ≡ debt_in r (t.parts r) (wire_in t r) (source_wire p t) (Some i) s
rank_debt_at p t r i s here = ap₂ (λ o k. debt_in r (t.parts r) (wire_in t r) (source_wire p t) o k) here.read here.stage

pub fresh_debt : (p : Programs) (t : Tables) (r : ℕ) → (t.parts r).stage ≡ 0 → rank_debt p t r ≡ None
fresh_debt p t r stage =
    ap (debt_in r (t.parts r) (wire_in t r) (source_wire p t) (current p t r)) stage
    ∙ debt_fresh r (t.parts r) (wire_in t r) (source_wire p t) (current p t r)

module _ (p : Programs) (t : Tables) (r n : ℕ) (acts : List Act) (i : Instr) (s : ℕ) (next : IsNext p t r i s) where
  -- after an event of an instruction that goes on, and of one that ends
  pub debt_on : nat_lt (s + 1) n ≡ true
      → (let u = event_done n r acts t in
      rank_debt p u r ≡ debt_in r (record (part_all r acts t (t.parts r)) { stage = s + 1 }) (wire_in u r) (source_wire p u) (Some i) (s + 1))
  debt_on more =
      let u = event_done n r acts t in
      let v = part_all r acts t (t.parts r) in
      ap (λ (x : Part). debt_in r x (wire_in u r) (source_wire p u) (instr_at p r x.at) x.stage) (own_on p t r n acts i s next more)
      ∙ ap (λ o. debt_in r (record v { stage = s + 1 }) (wire_in u r) (source_wire p u) o (s + 1)) (read_on p t r n acts i s next)

  pub debt_ended : nat_lt (s + 1) n ≡ false → rank_debt p (event_done n r acts t) r ≡ None
  debt_ended last = fresh_debt p (event_done n r acts t) r (fresh_stage p t r n acts i s next last)

pub not_none : {A : Type 0} (o : Option A) (x : A) → o ≡ None → o ≡ Some x → ⊥
not_none o x a b = cc

-- a rank that owes is in the middle of an instruction
pub debt_begun : (p : Programs) (t : Tables) (r : ℕ) (d : Debt) → rank_debt p t r ≡ Some d → nat_lt 0 (t.parts r).stage ≡ true
debt_begun p t r d e = by_stage (t.parts r).stage refl
  where
    by_stage : (k : ℕ) → (t.parts r).stage ≡ k → nat_lt 0 (t.parts r).stage ≡ true
    by_stage zero is = absurd (not_none (rank_debt p t r) d (fresh_debt p t r is) e)
    by_stage (suc k) is = ap (nat_lt 0) is ∙ lt-ltb 0 (suc k) (omega arith)

-- a parcel that owes has its bits
pub owes_bits : (p : Programs) (t : Tables) (a : Lane) (x : Parcel) (d : Debt) → parcel_debt p t a x ≡ Some d → is_some x.bits ≡ true
owes_bits p t a x d e = by_bits (is_some x.bits) refl e
  where
    by_bits : (b : Bool) → is_some x.bits ≡ b → cond b (parcel_letters p t a a.kind x) None ≡ Some d → is_some x.bits ≡ true
    by_bits true is e = is
    by_bits false is e = absurd (let n : ⊥ = cc in n)

-- ---- debts of other ranks, and of parcels
module _ (p : Programs) (t : Tables) (r n : ℕ) (acts : List Act) where
  -- another rank offers what it offered
  pub offered_same : (d : ℕ) → d ≢ r → source_wire p (event_done n r acts t) d ≡ source_wire p t d
  offered_same d other =
      let u = event_done n r acts t in
      ap₂ (λ w (v : Part). wire_offered w (instr_at p d v.at)) (other_wires r d other n acts t) (part_elsewhere n r d acts t other)

  by_lender : (k : ℕ) (v : Part) (w lent other : ℕ → Wire) (s : ℕ) (o : Option Instr) → (nat_lt 0 s ≡ true → (d : ℕ) → lender_of o ≡ Some d → lent d ≡ other d)
      → debt_in k v w lent o s ≡ debt_in k v w other o s
  by_lender k v w lent other s None same = refl
  by_lender k v w lent other zero (Some (instr.ReachFrom q from tag)) same = refl
  by_lender k v w lent other (suc s) (Some (instr.ReachFrom q from tag)) same =
      let e = same (lt-ltb 0 (suc s) (omega arith)) from refl in
      ap (λ l. debt_in k v w (λ d. l) (Some (instr.ReachFrom q from tag)) (suc s)) e
  by_lender k v w lent other s (Some _) same = refl

  -- another rank, to which r lends nothing, owes what it owed
  pub rank_same : (k : ℕ) → k ≢ r → (nat_lt 0 (t.parts k).stage ≡ true → lender_of (current p t k) ≡ Some r → ⊥) → rank_debt p (event_done n r acts t) k ≡ rank_debt p t k
  rank_same k other apart =
      let u = event_done n r acts t in
      let same = part_elsewhere n r k acts t other in
      ap (λ (v : Part). debt_in k v (wire_in u k) (source_wire p u) (instr_at p k v.at) v.stage) same
      ∙ ap (λ w. debt_in k (t.parts k) w (source_wire p u) (current p t k) (t.parts k).stage) (other_wires r k other n acts t)
      ∙ by_lender k (t.parts k) (wire_in t k) (source_wire p u) (source_wire p t) (t.parts k).stage (current p t k)
      (λ low d e. offered_same d (λ same. apart low (e ∙ ap (λ j. Some j) same)))

  -- a parcel whose lender is not r owes what it owed
  pub parcel_same : (a : Lane) (x : Parcel) → (lane_lender a a.kind ≡ Some r → ⊥) → parcel_debt p (event_done n r acts t) a x ≡ parcel_debt p t a x
  parcel_same a x apart = ap (λ o. cond (is_some x.bits) o None) (by_kind a.kind apart)
    where
      by_kind : (k : Kind) → (lane_lender a k ≡ Some r → ⊥) → parcel_letters p (event_done n r acts t) a k x ≡ parcel_letters p t a k x
      by_kind kind.Bit ne = refl
      by_kind kind.Copy ne = refl
      by_kind kind.Move ne = refl
      by_kind kind.Reach ne =
          ap (λ s. Some (debt (pair_of (wire_of x)) (Cx s (wire_of x) ∷ letter_if (first_bit x) (Flip (wire_of x))))) (offered_same a.from (λ e. ne (ap (λ j. Some j) e)))
      by_kind kind.Back ne =
          let other : a.to ≢ r = λ e. ne (ap (λ j. Some j) e) in
          ap₂ (λ s (v : Part). Some (debt (ByPair a.to (v.made - 1)) (letter_if (first_bit x) (Phase 4 s)))) (offered_same a.to other) (part_elsewhere n r a.to acts t other)
      by_kind kind.Undo ne =
          ap (λ s. Some (debt (BackTo a.to) (letter_if (first_bit x) (Phase 4 s)))) (offered_same a.to (λ e. ne (ap (λ j. Some j) e)))

same_number : (j r : ℕ) → AtRank j ≡ AtRank r → j ≡ r
same_number j r e = cc

pub lane_not_rank : (a : Lane) (x : Parcel) (r : ℕ) → OnLane a x ≡ AtRank r → ⊥
lane_not_rank a x r e = let n : ⊥ = cc in n

-- ---- the frame of an event
module _ (p : Programs) (ready : IsReady p) (ranges : IsInRange p) (t : Tables) (r : ℕ) (stood : IsStood p t) (i : Instr) (s : ℕ) (next : IsNext p t r i s)
    (k : Message) (new : Entry) where
  pub frame_event : (let u = event_done (events_of i) r (acts_of (row_at p t r i s)) t in
      IsEntry p u k new
      → ((d : Debt) → rank_debt p u r ≡ Some d → IsIt new (AtRank r) d)
      → ((d : Debt) → rank_debt p t r ≡ Some d → d.message ≡ k)
      → ((h : Holder) (d : Debt) → h ≢ AtRank r → IsThere u h → Owes p t h d → d.message ≢ k)
      → ((a : Lane) (x : Parcel) (d : Debt) → Owes p u (OnLane a x) d → IsIt new (OnLane a x) d ⊎ Contains (t.lanes a) x)
      → ((a : Lane) (x : Parcel) (d : Debt) → Owes p t (OnLane a x) d → d.message ≢ k → Contains (u.lanes a) x)
      → IsFrame p t u k new)
  frame_event entry own_back own_on others lanes_back lanes_on = record { entry = entry; back = back; on = on }
    where
      acts : List Act
      acts = acts_of (row_at p t r i s)

      there_on : (j : ℕ) → j ≢ r → nat_lt 0 (t.parts j).stage ≡ true → nat_lt 0 ((event_done (events_of i) r (acts_of (row_at p t r i s)) t).parts j).stage ≡ true
      there_on j ne low = ap (λ (v : Part). nat_lt 0 v.stage) (part_elsewhere (events_of i) r j (acts_of (row_at p t r i s)) t ne) ∙ low

      kept : (j : ℕ) → j ≢ r → rank_debt p (event_done (events_of i) r (acts_of (row_at p t r i s)) t) j ≡ rank_debt p t j
      kept j ne =
          rank_same p t r (events_of i) (acts_of (row_at p t r i s)) j ne
          (λ low lent. lends_none p ready ranges t r stood i s next (AtRank j) low (there_on j ne low) lent)

      kept_parcel : (a : Lane) (x : Parcel) → Contains (t.lanes a) x → Contains ((event_done (events_of i) r (acts_of (row_at p t r i s)) t).lanes a) x → is_some x.bits ≡ true
          → parcel_debt p (event_done (events_of i) r (acts_of (row_at p t r i s)) t) a x ≡ parcel_debt p t a x
      kept_parcel a x was is bits =
          parcel_same p t r (events_of i) (acts_of (row_at p t r i s)) a x (λ lent. lends_none p ready ranges t r stood i s next (OnLane a x) (was, bits) (is, bits) lent)

      back : (h : Holder) (d : Debt) → Owes p (event_done (events_of i) r (acts_of (row_at p t r i s)) t) h d → IsIt new h d ⊎ ((d.message ≢ k) × Owes p t h d)
      back (AtRank j) d owes =
          let u = event_done (events_of i) r (acts_of (row_at p t r i s)) t in
          ⊎_elim (λ (e : j ≡ r). inl (subst (λ m. IsIt new (AtRank m) d) (sym e) (own_back d (subst (λ m. rank_debt p u m ≡ Some d) e owes))))
          (λ (ne : j ≢ r).
          let was : rank_debt p t j ≡ Some d = sym (kept j ne) ∙ owes in
          inr (others (AtRank j) d (λ e. ne (same_number j r e)) (debt_begun p u j d owes) was, was))
          (cases_eq j r)
      back (OnLane a x) d owes =
          let u = event_done (events_of i) r (acts_of (row_at p t r i s)) t in
          let bits = owes_bits p u a x d owes.1 in
          ⊎_elim (λ (it : IsIt new (OnLane a x) d). inl it)
          (λ (there : Contains (t.lanes a) x).
          let was : Owes p t (OnLane a x) d = (there, sym (kept_parcel a x there owes.0 bits) ∙ owes.1) in
          inr (others (OnLane a x) d (λ e. lane_not_rank a x r e) (owes.0, bits) was, was))
          (lanes_back a x d owes)

      on : (h : Holder) (d : Debt) → Owes p t h d → d.message ≢ k → Owes p (event_done (events_of i) r (acts_of (row_at p t r i s)) t) h d
      on (AtRank j) d owes ne =
          ⊎_elim (λ (e : j ≡ r). absurd (ne (own_on d (subst (λ m. rank_debt p t m ≡ Some d) e owes))))
          (λ (other : j ≢ r). kept j other ∙ owes)
          (cases_eq j r)
      on (OnLane a x) d owes ne =
          let bits = owes_bits p t a x d owes.1 in
          let there = lanes_on a x d owes ne in
          (there, kept_parcel a x owes.0 there bits ∙ owes.1)

-- ---- lanes on which nothing that owes comes or goes
pub record LanesKept (p : Programs) (t u : Tables) : Type 0 where
  pub back : (a : Lane) (x : Parcel) (d : Debt) → Owes p u (OnLane a x) d → Contains (t.lanes a) x
  pub on : (a : Lane) (x : Parcel) (d : Debt) → Owes p t (OnLane a x) d → Contains (u.lanes a) x

pub same_lanes_kept : (p : Programs) (t u : Tables) → u.lanes ≡ t.lanes → LanesKept p t u
same_lanes_kept p t u same = record {
  back = λ a x d o. subst (λ (f : Lane → List Parcel). Contains (f a) x) same o.0;
  on = λ a x d o. subst (λ (f : Lane → List Parcel). Contains (f a) x) (sym same) o.0;
}

-- a parcel is posted that owes nothing
pub pushed_kept : (p : Programs) (t u : Tables) (a : Lane) (y : Parcel) → u.lanes ≡ with_lane t.lanes a (t.lanes a ++ y ∷ []) → parcel_debt p u a y ≡ None → LanesKept p t u
pushed_kept p t u a y same none = record {
  back = λ b x d o.
      let there : Contains (with_lane t.lanes a (t.lanes a ++ y ∷ []) b) x = subst (λ (f : Lane → List Parcel). Contains (f b) x) same o.0 in
      by_lane (λ ys. Contains ys x → Contains (t.lanes b) x) t.lanes a (t.lanes a ++ y ∷ []) b
      (λ e h.
      ⊎_elim (λ (old : Contains (t.lanes a) x). subst (λ l. Contains (t.lanes l) x) (sym e) old)
      (λ (is : y ≡ x). absurd (not_none (parcel_debt p u b x) d (ap₂ (parcel_debt p u) e (sym is) ∙ none) o.1)) (Contains-push_cases (t.lanes a) y x h))
      (λ _ h. h) there;
  on = λ b x d o.
      subst (λ (f : Lane → List Parcel). Contains (f b) x) (sym same)
      (by_lane (λ ys. Contains ys x) t.lanes a (t.lanes a ++ y ∷ []) b
      (λ e. Contains-append_left (t.lanes a) (y ∷ []) x (subst (λ l. Contains (t.lanes l) x) e o.0)) (λ _. o.0));
}

-- a lane of bits owes nothing
pub bits_owe_none : (p : Programs) (t : Tables) (a : Lane) (x : Parcel) → a.kind ≡ kind.Bit → parcel_debt p t a x ≡ None
bits_owe_none p t a x e = ap (λ k. cond (is_some x.bits) (parcel_letters p t a k x) None) e ∙ by_bits (is_some x.bits)
  where
    by_bits : (b : Bool) → cond b (parcel_letters p t a kind.Bit x) None ≡ None
    by_bits true = refl
    by_bits false = refl

pub bits_taken_kept : (p : Programs) (t u : Tables) (a : Lane) → a.kind ≡ kind.Bit → u.lanes ≡ with_lane t.lanes a (drop 1 (t.lanes a)) → LanesKept p t u
bits_taken_kept p t u a bit same = record {
  back = λ b x d o.
      let there : Contains (with_lane t.lanes a (drop 1 (t.lanes a)) b) x = subst (λ (f : Lane → List Parcel). Contains (f b) x) same o.0 in
      by_lane (λ ys. Contains ys x → Contains (t.lanes b) x) t.lanes a (drop 1 (t.lanes a)) b
      (λ e h. subst (λ l. Contains (t.lanes l) x) (sym e) (contains_drop (t.lanes a) x h)) (λ _ h. h) there;
  on = λ b x d o.
      subst (λ (f : Lane → List Parcel). Contains (f b) x) (sym same)
      (by_lane (λ ys. Contains ys x) t.lanes a (drop 1 (t.lanes a)) b
      (λ e. absurd (not_none (parcel_debt p t b x) d (bits_owe_none p t b x (ap (λ (l : Lane). l.kind) e ∙ bit)) o.1)) (λ _. o.0));
}

-- ---- the front parcel is taken
pub rest_there : (xs : List Parcel) (y : Parcel) → (slice_index_or xs 0 no_parcel ≡ y → ⊥) → Contains xs y → Contains (drop 1 xs) y
rest_there [] y ne h = h
rest_there (x ∷ xs) y ne (zero, below, is) = absurd (ne is)
rest_there (x ∷ xs) y ne (suc k, below, is) = (k, omega arith, is)

-- the front parcel with its half is there only once
pub front_once : (t : Tables) (a : Lane) (w : Wire) → IsTidy t → (front t a).wire ≡ Some w → Contains (drop 1 (t.lanes a)) (front t a) → ⊥
front_once t a w tidy wire (k, below, is) =
    let xs = drop 1 (t.lanes a) in
    taken_free t tidy a w wire (
      a,
      k,
      record {
        parcel = front t a;
        there = ap (λ (ys : List Parcel). slice_get ys k) (with_lane-here t.lanes a xs) ∙ slice_get_read xs (length xs) k (front t a) refl below (sym is);
        wire = wire;
      },
    )

-- on a lane with one parcel nothing is left
pub none_left : (xs : List Parcel) (x : Parcel) → length xs ≤ 1 → Contains (drop 1 xs) x → ⊥
none_left [] x few (k, below, is) = omega arith
none_left (y ∷ ys) x few (k, below, is) = omega arith
