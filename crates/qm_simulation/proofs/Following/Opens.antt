-- While a rank is in the middle of sending a half, the half stands last on its lane, without bits
use Rattle.std.proofs.Common.{◌≡◌, ◌≢◌, ℕ, zero, suc, ◌+◌, ◌-◌, ◌<◌, nat_lt, Bool, true, false, cond, ◌&&◌, List, [], ◌∷◌, ◌++◌, drop, Option, Some, None, is_some, slice_index_or, refl, sym, ap, subst, ◌∙◌, arith, ltb-true, lt-ltb}
use Rattle.std.proofs.lemmas.Bool.{and_parts}
use Rattle.qm_instr.specs.declared.Instr.{Instr}
use Rattle.qm_instr.specs.declared.Instr.TheVariants as instr
use Rattle.qm_instr.specs.declared.Kind.TheVariants as kind
use Rattle.qm_instr.specs.declared.Lane.{Lane}
use Rattle.qm_instr.specs.Counts.{events_of}
use Rattle.qm_instr.specs.Lanes.{lane, lane_sent}
use Rattle.qm_instr.specs.Programs.{Programs}
use Rattle.qm_denot.specs.declared.Wire.{Wire}
use Rattle.qm_denot.specs.declared.Letter.{Letter}
use Rattle.qm_denot.specs.declared.Parcel.{Parcel}
use Rattle.qm_proto.specs.declared.Row.{Row}
use Rattle.qm_proto.specs.Model.State.{Part, Tables, with_lane, no_parcel}
use Rattle.qm_proto.specs.Model.Acts.{list_of}
use Rattle.qm_proto.specs.Model.Rows.{current, instr_at, half_parcel, letter, few_if}
use Rattle.qm_proto.specs.Model.Runs.{holds}
use Rattle.qm_proto.proofs.Changes.{with_lane-here, with_lane-elsewhere, by_lane, by_number}
use Rattle.qm_safety.specs.Tables.Lines.{row_at, acts_of}
use Rattle.qm_simulation.specs.Following.Seen.{has_pair}
use Rattle.qm_simulation.specs.Following.Debts.{far_counted}
use Rattle.qm_safety.specs.Tables.Well.{middle_of, middle_at, is_open, sent_at}
use Rattle.qm_safety.proofs.Tables.NextEvents.{IsNext, event_done, part_elsewhere}
use Rattle.qm_safety.proofs.Tables.LaneShapes.{LaneCase, Still, Puts, Tells, Takes, lanes_by, IsLaneCase}
use Rattle.qm_simulation.proofs.Following.Places.{part_all, own_on, goes_on, fresh_stage, lanes_go}

-- the last of a list
pub record IsLast {A : Type 0} (xs : List A) (x : A) : Type 0 where
  pub front : List A
  pub is : xs ≡ front ++ x ∷ []

pub pushed_last : {A : Type 0} (xs : List A) (x : A) → IsLast (xs ++ x ∷ []) x
pushed_last xs x = record { front = xs; is = refl }

-- by the rank's part and the lanes alone: the half that it made last is open on the lane of its instruction, and it has counted one
abbrev pub OpenBy : ℕ → Part → (Lane → List Parcel) → Option Instr → Type 0
OpenBy r v lanes o = (a : Lane) → is_open (middle_at o) v.stage ≡ true → sent_at r o ≡ Some a → IsLast (lanes a) (half_parcel (far_counted r v))

abbrev pub MadeBy : Part → Option Instr → Type 0
MadeBy v o = has_pair o ≡ true → nat_lt 0 v.stage ≡ true → 0 < v.made

pub record IsOpen (p : Programs) (t : Tables) (r : ℕ) : Type 0 where
  pub last : OpenBy r (t.parts r) t.lanes (current p t r)
  pub made : MadeBy (t.parts r) (current p t r)

-- ---- which events count a wire: the first of an instruction that makes one
abbrev pub makes : Instr → ℕ → Bool
makes (instr.Alloc q) zero = true
makes (instr.CopyTo q to tag) zero = true
makes (instr.MoveTo q to tag) zero = true
makes (instr.ReachTo q to tag) zero = true
makes _ _ = false

pub none_made_later : (i : Instr) (s : ℕ) → makes i (suc s) ≡ false
none_made_later (instr.Alloc q) s = refl
none_made_later (instr.CopyTo q to tag) s = refl
none_made_later (instr.MoveTo q to tag) s = refl
none_made_later (instr.ReachTo q to tag) s = refl
none_made_later _ s = refl

module _ (p : Programs) (t : Tables) (r : ℕ) where
  letters_made : (b : Bool) (l : Letter) → (part_all r (list_of (few_if b (letter l))) t (t.parts r)).made ≡ (t.parts r).made
  letters_made true l = refl
  letters_made false l = refl

  pub counts : (i : Instr) (s : ℕ) → (part_all r (acts_of (row_at p t r i s)) t (t.parts r)).made ≡ cond (makes i s) ((t.parts r).made + 1) (t.parts r).made
  counts (instr.CopyTo q to tag) zero = refl
  counts (instr.CopyTo q to tag) (suc zero) = refl
  counts (instr.CopyTo q to tag) (suc (suc zero)) = refl
  counts (instr.CopyTo q to tag) (suc (suc (suc s))) = refl
  counts (instr.CopyFrom q from tag) zero = refl
  counts (instr.CopyFrom q from tag) (suc zero) = letters_made _ _
  counts (instr.CopyFrom q from tag) (suc (suc s)) = refl
  counts (instr.UndoTo q to tag) zero = refl
  counts (instr.UndoTo q to tag) (suc zero) = refl
  counts (instr.UndoTo q to tag) (suc (suc s)) = refl
  counts (instr.UndoFrom q from tag) zero = refl
  counts (instr.UndoFrom q from tag) (suc zero) = letters_made _ _
  counts (instr.UndoFrom q from tag) (suc (suc s)) = refl
  counts (instr.MoveTo q to tag) zero = refl
  counts (instr.MoveTo q to tag) (suc zero) = refl
  counts (instr.MoveTo q to tag) (suc (suc zero)) = refl
  counts (instr.MoveTo q to tag) (suc (suc (suc zero))) = refl
  counts (instr.MoveTo q to tag) (suc (suc (suc (suc zero)))) = refl
  counts (instr.MoveTo q to tag) (suc (suc (suc (suc (suc s))))) = refl
  counts (instr.MoveFrom q from tag) zero = refl
  counts (instr.MoveFrom q from tag) (suc zero) = letters_made _ _
  counts (instr.MoveFrom q from tag) (suc (suc zero)) = letters_made _ _
  counts (instr.MoveFrom q from tag) (suc (suc (suc s))) = refl
  counts (instr.ReachTo q to tag) zero = refl
  counts (instr.ReachTo q to tag) (suc zero) = refl
  counts (instr.ReachTo q to tag) (suc (suc zero)) = refl
  counts (instr.ReachTo q to tag) (suc (suc (suc zero))) = refl
  counts (instr.ReachTo q to tag) (suc (suc (suc (suc zero)))) = letters_made _ _
  counts (instr.ReachTo q to tag) (suc (suc (suc (suc (suc s))))) = refl
  counts (instr.ReachFrom q from tag) zero = refl
  counts (instr.ReachFrom q from tag) (suc zero) = letters_made _ _
  counts (instr.ReachFrom q from tag) (suc (suc zero)) = refl
  counts (instr.ReachFrom q from tag) (suc (suc (suc zero))) = refl
  counts (instr.ReachFrom q from tag) (suc (suc (suc (suc zero)))) = refl
  counts (instr.ReachFrom q from tag) (suc (suc (suc (suc (suc s))))) = refl
  counts (instr.When b g) zero = letters_made _ _
  counts (instr.When b g) (suc s) = refl
  counts (instr.Alloc q) zero = refl
  counts (instr.Alloc q) (suc s) = refl
  counts _ zero = refl
  counts _ (suc s) = refl

-- a send's first event counts
pair_makes : (i : Instr) → has_pair (Some i) ≡ true → makes i 0 ≡ true
pair_makes (instr.CopyTo q to tag) e = refl
pair_makes (instr.MoveTo q to tag) e = refl
pair_makes (instr.ReachTo q to tag) e = refl
pair_makes _ e = cc

-- a rank's lanes begin at it
sent_from : (r : ℕ) (o : Option Instr) (a : Lane) → sent_at r o ≡ Some a → a.from ≡ r
sent_from r None a e = cc
sent_from r (Some (instr.SendBit b to tag)) a e = cc
sent_from r (Some (instr.CopyTo b to tag)) a e = cc
sent_from r (Some (instr.UndoTo b to tag)) a e = cc
sent_from r (Some (instr.MoveTo b to tag)) a e = cc
sent_from r (Some (instr.ReachTo b to tag)) a e = cc
sent_from r (Some _) a e = cc

pub last_dropped : (xs : List Parcel) (w : Wire) → is_some (slice_index_or xs 0 no_parcel).bits ≡ true → IsLast xs (half_parcel w) → IsLast (drop 1 xs) (half_parcel w)
last_dropped xs w bits last = by_front last.front last.is
  where
    by_front : (ys : List Parcel) → xs ≡ ys ++ half_parcel w ∷ [] → IsLast (drop 1 xs) (half_parcel w)
    by_front [] e = absurd (let z : false ≡ true = subst (λ (zs : List Parcel). is_some (slice_index_or zs 0 no_parcel).bits ≡ true) e bits in let n : ⊥ = cc in n)
    by_front (y ∷ ys) e = record { front = ys; is = ap (λ (zs : List Parcel). drop 1 zs) e }

never_open : (s : ℕ) → (nat_lt 0 s && nat_lt s 0) ≡ true → ⊥
never_open s e = let low : s < 0 = ltb-true s 0 (and_parts (nat_lt 0 s) (nat_lt s 0) e).1 in omega arith

module _ (p : Programs) (t : Tables) (r : ℕ) (i : Instr) (s : ℕ) (next : IsNext p t r i s) (all : (k : ℕ) → IsOpen p t k) where
  -- ---- another rank
  lane_keeps : (k : ℕ) → k ≢ r → (b : Lane) (w : Wire) → b.from ≡ k → IsLast (t.lanes b) (half_parcel w)
      → IsLast ((event_done (events_of i) r (acts_of (row_at p t r i s)) t).lanes b) (half_parcel w)
  lane_keeps k other b w from last =
      let g = lanes_go p t r i s next in
      subst (λ (f : Lane → List Parcel). IsLast (f b) (half_parcel w)) (sym g.lanes) (by_case g.row g.case g.so g.free)
    where
      not_own : (a : Lane) → a.from ≡ r → b ≢ a
      not_own a own e = other (sym from ∙ ap (λ (l : Lane). l.from) e ∙ own)

      by_case : (row : Row) (c : LaneCase) → IsLaneCase p t r i s row c → holds p t row.rule ≡ true → IsLast (lanes_by c t.lanes b) (half_parcel w)
      by_case row Still so free = last
      by_case row (Puts a x) so free = subst (λ xs. IsLast xs (half_parcel w)) (sym (with_lane-elsewhere t.lanes a _ b (not_own a so.0))) last
      by_case row (Tells a m) so free = subst (λ xs. IsLast xs (half_parcel w)) (sym (with_lane-elsewhere t.lanes a _ b (not_own a so.0))) last
      by_case row (Takes a) so free =
          by_lane (λ xs. IsLast xs (half_parcel w)) t.lanes a (drop 1 (t.lanes a)) b
          (λ same. last_dropped (t.lanes a) w (ap (holds p t) (sym so.2) ∙ free) (subst (λ l. IsLast (t.lanes l) (half_parcel w)) same last))
          (λ _. last)

  other_open : (k : ℕ) → k ≢ r → IsOpen p (event_done (events_of i) r (acts_of (row_at p t r i s)) t) k
  other_open k other =
      let u = event_done (events_of i) r (acts_of (row_at p t r i s)) t in
      let same : u.parts k ≡ t.parts k = part_elsewhere (events_of i) r k (acts_of (row_at p t r i s)) t other in
      record {
        last = λ a opens sent.
            subst (λ (v : Part). IsLast (u.lanes a) (half_parcel (far_counted k v))) (sym same)
            (lane_keeps k other a (far_counted k (t.parts k)) (sent_from k (current p u k) a sent)
            ((all k).last a (ap (λ (v : Part). is_open (middle_at (instr_at p k v.at)) v.stage) (sym same) ∙ opens) (ap (λ (v : Part). sent_at k (instr_at p k v.at)) (sym same) ∙ sent)));
        made = λ pair low.
            subst (λ (v : Part). 0 < v.made) (sym same)
            ((all k).made (ap (λ (v : Part). has_pair (instr_at p k v.at)) (sym same) ∙ pair) (ap (λ (v : Part). nat_lt 0 v.stage) (sym same) ∙ low));
      }

  -- ---- the acting rank
  made_after : nat_lt (s + 1) (events_of i) ≡ true → ((event_done (events_of i) r (acts_of (row_at p t r i s)) t).parts r).made ≡ cond (makes i s) ((t.parts r).made + 1) (t.parts r).made
  made_after more = ap (λ (v : Part). v.made) (own_on p t r (events_of i) (acts_of (row_at p t r i s)) i s next more) ∙ counts p t r i s

  made_some : nat_lt (s + 1) (events_of i) ≡ true → has_pair (Some i) ≡ true → 0 < ((event_done (events_of i) r (acts_of (row_at p t r i s)) t).parts r).made
  made_some more pair = by_stage s refl
    where
      by_stage : (k : ℕ) → s ≡ k → 0 < ((event_done (events_of i) r (acts_of (row_at p t r i s)) t).parts r).made
      by_stage zero e =
          let m : ((event_done (events_of i) r (acts_of (row_at p t r i s)) t).parts r).made ≡ (t.parts r).made + 1 =
          made_after more ∙ ap (λ b. cond b ((t.parts r).made + 1) (t.parts r).made) (ap (makes i) e ∙ pair_makes i pair) in
          omega arith
      by_stage (suc k) e =
          let m : ((event_done (events_of i) r (acts_of (row_at p t r i s)) t).parts r).made ≡ (t.parts r).made =
          made_after more ∙ ap (λ b. cond b ((t.parts r).made + 1) (t.parts r).made) (ap (makes i) e ∙ none_made_later i k) in
          let low : nat_lt 0 (t.parts r).stage ≡ true = ap (nat_lt 0) (next.stage ∙ e) ∙ lt-ltb 0 (suc k) (omega arith) in
          let old : 0 < (t.parts r).made = (all r).made (ap has_pair next.read ∙ pair) low in
          omega arith

-- the acting rank's lane, where its instruction goes on
module _ (p : Programs) (t : Tables) (r : ℕ) (all : (k : ℕ) → IsOpen p t k) where
  posted : (b a : Lane) → Some b ≡ Some a
      → IsLast (with_lane t.lanes b (t.lanes b ++ half_parcel (record { rank = r; made = (t.parts r).made; near = false }) ∷ []) a)
      (half_parcel (record { rank = r; made = (t.parts r).made + 1 - 1; near = false }))
  posted b a same =
      let f : Wire = record { rank = r; made = (t.parts r).made; near = false } in
      let count : (t.parts r).made ≡ (t.parts r).made + 1 - 1 = omega arith in
      let e : b ≡ a = cc in
      subst (λ m. IsLast (with_lane t.lanes b (t.lanes b ++ half_parcel f ∷ []) a) (half_parcel (record { rank = r; made = m; near = false }))) count
      (subst (λ l. IsLast (with_lane t.lanes b (t.lanes b ++ half_parcel f ∷ []) l) (half_parcel f)) e
      (subst (λ xs. IsLast xs (half_parcel f)) (sym (with_lane-here t.lanes b (t.lanes b ++ half_parcel f ∷ []))) (pushed_last (t.lanes b) (half_parcel f))))

  stays : (i : Instr) (s : ℕ) → IsNext p t r i s → is_open (middle_of i) s ≡ true → (a : Lane) → lane_sent r i ≡ Some a → IsLast (t.lanes a) (half_parcel (far_counted r (t.parts r)))
  stays i s next opens a sent =
      (all r).last a (ap (λ o. is_open (middle_at o) (t.parts r).stage) next.read ∙ ap (is_open (middle_of i)) next.stage ∙ opens) (ap (sent_at r) next.read ∙ sent)

  pub has_open : (i : Instr) (s : ℕ) → IsNext p t r i s → (a : Lane) → is_open (middle_of i) (s + 1) ≡ true → lane_sent r i ≡ Some a
      → (let acts = acts_of (row_at p t r i s) in
      IsLast ((event_done (events_of i) r acts t).lanes a) (half_parcel (far_counted r (part_all r acts t (t.parts r)))))
  has_open (instr.CopyTo q to tag) zero next a opens sent = posted (lane r to kind.Copy tag) a sent
  has_open (instr.CopyTo q to tag) (suc zero) next a opens sent = stays (instr.CopyTo q to tag) 1 next refl a sent
  has_open (instr.CopyTo q to tag) (suc (suc s)) next a opens sent = absurd (over s opens)
    where
      over : (s : ℕ) → is_open (middle_of (instr.CopyTo q to tag)) (suc (suc s) + 1) ≡ true → ⊥
      over s e = let low : suc (suc s) + 1 < 3 = ltb-true (suc (suc s) + 1) 3 (and_parts (nat_lt 0 (suc (suc s) + 1)) (nat_lt (suc (suc s) + 1) 3) e).1 in omega arith
  has_open (instr.MoveTo q to tag) zero next a opens sent = posted (lane r to kind.Move tag) a sent
  has_open (instr.MoveTo q to tag) (suc zero) next a opens sent = stays (instr.MoveTo q to tag) 1 next refl a sent
  has_open (instr.MoveTo q to tag) (suc (suc zero)) next a opens sent = stays (instr.MoveTo q to tag) 2 next refl a sent
  has_open (instr.MoveTo q to tag) (suc (suc (suc zero))) next a opens sent = stays (instr.MoveTo q to tag) 3 next refl a sent
  has_open (instr.MoveTo q to tag) (suc (suc (suc (suc s)))) next a opens sent = absurd (over s opens)
    where
      over : (s : ℕ) → is_open (middle_of (instr.MoveTo q to tag)) (suc (suc (suc (suc s))) + 1) ≡ true → ⊥
      over s e = let low : suc (suc (suc (suc s))) + 1 < 5 = ltb-true (suc (suc (suc (suc s))) + 1) 5 (and_parts (nat_lt 0 (suc (suc (suc (suc s))) + 1)) (nat_lt (suc (suc (suc (suc s))) + 1) 5) e).1 in omega arith
  has_open (instr.ReachTo q to tag) zero next a opens sent = posted (lane r to kind.Reach tag) a sent
  has_open (instr.ReachTo q to tag) (suc zero) next a opens sent = stays (instr.ReachTo q to tag) 1 next refl a sent
  has_open (instr.ReachTo q to tag) (suc (suc s)) next a opens sent = absurd (over s opens)
    where
      over : (s : ℕ) → is_open (middle_of (instr.ReachTo q to tag)) (suc (suc s) + 1) ≡ true → ⊥
      over s e = let low : suc (suc s) + 1 < 3 = ltb-true (suc (suc s) + 1) 3 (and_parts (nat_lt 0 (suc (suc s) + 1)) (nat_lt (suc (suc s) + 1) 3) e).1 in omega arith
  has_open _ s next a opens sent = absurd (never_open (s + 1) opens)

module _ (p : Programs) (t : Tables) (r : ℕ) (i : Instr) (s : ℕ) (next : IsNext p t r i s) (all : (k : ℕ) → IsOpen p t k) where
  own_open : IsOpen p (event_done (events_of i) r (acts_of (row_at p t r i s)) t) r
  own_open = by_end (nat_lt (s + 1) (events_of i)) refl
    where
      by_end : (b : Bool) → nat_lt (s + 1) (events_of i) ≡ b → IsOpen p (event_done (events_of i) r (acts_of (row_at p t r i s)) t) r
      by_end true more =
          let acts = acts_of (row_at p t r i s) in
          let u = event_done (events_of i) r acts t in
          let here = goes_on p t r (events_of i) acts i s next more in
          record {
            last = λ a opens sent.
                subst (λ (v : Part). IsLast (u.lanes a) (half_parcel (far_counted r v))) (sym (own_on p t r (events_of i) acts i s next more))
                (has_open p t r all i s next a
                (sym (ap (λ o. is_open (middle_at o) (u.parts r).stage) here.read ∙ ap (is_open (middle_of i)) here.stage) ∙ opens)
                (sym (ap (sent_at r) here.read) ∙ sent));
            made = λ pair _. made_some p t r i s next all more (sym (ap has_pair here.read) ∙ pair);
          }
      by_end false last =
          let acts = acts_of (row_at p t r i s) in
          let u = event_done (events_of i) r acts t in
          let zero_stage = fresh_stage p t r (events_of i) acts i s next last in
          record {
            last = λ a opens sent. absurd (fresh_not_open (middle_at (current p u r)) (u.parts r).stage zero_stage opens);
            made = λ pair low. absurd (let z : nat_lt 0 0 ≡ true = ap (nat_lt 0) (sym zero_stage) ∙ low in let n : ⊥ = cc in n);
          }
        where
          fresh_not_open : (m : _) (k : ℕ) → k ≡ 0 → is_open m k ≡ true → ⊥
          fresh_not_open m k e h = let z : nat_lt 0 0 ≡ true = ap (nat_lt 0) (sym e) ∙ (and_parts (nat_lt 0 k) (nat_lt k m.unfilled) h).0 in let n : ⊥ = cc in n

  -- every event keeps the open halves
  pub open_event : (k : ℕ) → IsOpen p (event_done (events_of i) r (acts_of (row_at p t r i s)) t) k
  open_event = by_number (λ k. IsOpen p (event_done (events_of i) r (acts_of (row_at p t r i s)) t) k) r own_open (other_open p t r i s next all)
