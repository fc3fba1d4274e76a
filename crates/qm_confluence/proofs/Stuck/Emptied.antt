-- Where no rank has an event left, the lanes of programs without a fault are empty
use mathlib.Core.Path.{fun_ext}
use Rattle.std.proofs.Common.{◌⊎◌, ◌≡◌, ℕ, ◌+◌, ◌≤◌, ◌<◌, ◌==◌, nat_eq, Bool, true, false, ◌&&◌, ◌||◌, cond, if◌then◌else◌, List, [], length, fold, sum_by, Option, Some, None, is_some, inl, inr, refl, sym, ap, ◌∙◌, arith}
use Rattle.std.specs.List.{count_by}
use Rattle.std.specs.Option.{option_map}
use Rattle.std.proofs.lemmas.Bool.{eqb-true, cases_lt}
use Rattle.std.proofs.lemmas.List.{get_or_past, nil_from_length}
use Rattle.qm_instr.specs.declared.Instr.{Instr}
use Rattle.qm_instr.specs.declared.Instr.TheVariants as instr
use Rattle.qm_instr.specs.declared.Kind.{Kind}
use Rattle.qm_instr.specs.declared.Kind.TheVariants as kind
use Rattle.qm_instr.specs.declared.Lane.{Lane}
use Rattle.qm_instr.specs.Lanes.{lane, is_lane, is_on, lane_received, is_kind}
use Rattle.qm_instr.specs.Programs.{Programs, RankProgram, idle_rank}
use Rattle.qm_instr.proofs.LaneOrder.{same_lane, lane_turned}
use Rattle.qm_check.specs.declared.Fault.{Fault}
use Rattle.qm_check.specs.declared.Fault.TheVariants as fault
use Rattle.qm_check.specs.Checks.{IsReady, OnLane}
use Rattle.qm_check.specs.Messages.{posts_on, is_back, lane_sends, lane_receives}
use Rattle.qm_proto.specs.Model.State.{Tables}
use Rattle.qm_proto.specs.declared.Row.{Row}
use Rattle.qm_proto.specs.Model.Runs.{row_next, next}
use Rattle.qm_proto.specs.Model.Schedules.{state_at_start, replay, IsLegal, AllEnded}
use Rattle.qm_proto.proofs.Positions.{position}
use Rattle.qm_confluence.specs.Stuck.Shapes.{Shape, shape_of, shapes}
use Rattle.qm_confluence.proofs.Stuck.Alone.{shape_next, alone}
use Rattle.qm_confluence.proofs.Stuck.Tracks.{lists, Tracks, shape_same}
use Rattle.qm_confluence.specs.Stuck.LanesEmpty.{LanesEmptyLaw}
use Rattle.qm_confluence.proofs.Stuck.Rendezvous.{tracks_start, legal_tracks}
use Rattle.qm_confluence.proofs.Stuck.LaneCounts.{puts, gets, told_all, taken_all, parcels}

abbrev bit : Bool → ℕ
bit b = cond b 1 0

flag : (F : Bool → ℕ) → F true ≡ 1 → F false ≡ 0 → (d e : Bool) → d ≡ e → F d ≡ bit e
flag F one none true e same = one ∙ ap bit same
flag F one none false e same = none ∙ ap bit same

abbrev all_puts : Lane → ℕ → Instr → ℕ
all_puts c r i = sum_by (λ (h : Shape). puts c h.moves) (shapes r i)

abbrev all_gets : Lane → ℕ → Instr → ℕ
all_gets c r i = sum_by (λ (h : Shape). gets c h.moves) (shapes r i)

module _ (c : Lane) (r : ℕ) where
  puts_are : (i : Instr) → all_puts c r i ≡ bit (posts_on r i c)
  puts_are (instr.SendBit b to tag) = flag (λ d. 0 + (bit d + 0)) refl refl (is_lane c (lane r to kind.Bit tag)) _ (lane_turned c (lane r to kind.Bit tag))
  puts_are (instr.CopyTo q to tag) = flag (λ d. 0 + (bit d + 0) + 0 + 0) refl refl (is_lane c (lane r to kind.Copy tag)) _ (lane_turned c (lane r to kind.Copy tag))
  puts_are (instr.UndoTo q to tag) = flag (λ d. 0 + 0 + (bit d + 0)) refl refl (is_lane c (lane r to kind.Undo tag)) _ (lane_turned c (lane r to kind.Undo tag))
  puts_are (instr.MoveTo q to tag) = flag (λ d. 0 + (bit d + 0) + 0 + 0 + 0 + 0) refl refl (is_lane c (lane r to kind.Move tag)) _ (lane_turned c (lane r to kind.Move tag))
  puts_are (instr.ReachTo q to tag) = flag (λ d. 0 + (bit d + 0) + 0 + 0 + 0 + 0) refl refl (is_lane c (lane r to kind.Reach tag)) _ (lane_turned c (lane r to kind.Reach tag))
  puts_are (instr.ReachFrom q from tag) = flag (λ d. 0 + 0 + 0 + 0 + 0 + (bit d + 0)) refl refl (is_lane c (lane r from kind.Back tag)) _ (lane_turned c (lane r from kind.Back tag))
  puts_are (instr.Alloc q) = refl
  puts_are _ = refl

  -- a lane that is no Back lane
  gets_are : is_back c.kind ≡ false → (i : Instr) → all_gets c r i ≡ bit (is_on (lane_received r i) c)
  gets_are front (instr.RecvBit b from tag) = flag (λ d. 0 + (bit d + 0)) refl refl (is_lane c (lane from r kind.Bit tag)) _ (lane_turned c (lane from r kind.Bit tag))
  gets_are front (instr.CopyFrom q from tag) = flag (λ d. 0 + (bit d + 0) + 0) refl refl (is_lane c (lane from r kind.Copy tag)) _ (lane_turned c (lane from r kind.Copy tag))
  gets_are front (instr.UndoFrom q from tag) = flag (λ d. 0 + (bit d + 0) + 0) refl refl (is_lane c (lane from r kind.Undo tag)) _ (lane_turned c (lane from r kind.Undo tag))
  gets_are front (instr.MoveFrom q from tag) = flag (λ d. 0 + (bit d + 0) + 0 + 0) refl refl (is_lane c (lane from r kind.Move tag)) _ (lane_turned c (lane from r kind.Move tag))
  gets_are front (instr.ReachFrom q from tag) = flag (λ d. 0 + (bit d + 0) + 0 + 0 + 0 + 0) refl refl (is_lane c (lane from r kind.Reach tag)) _ (lane_turned c (lane from r kind.Reach tag))
  gets_are front (instr.ReachTo q to tag) = flag (λ d. 0 + 0 + 0 + 0 + (bit d + 0) + 0) refl refl (is_lane c (lane to r kind.Back tag)) false (apart (is_lane c (lane to r kind.Back tag)) refl)
    where
      apart : (b : Bool) → is_lane c (lane to r kind.Back tag) ≡ b → b ≡ false
      apart true e = let h : is_back c.kind ≡ true = ap (λ (d : Lane). is_back d.kind) (same_lane c (lane to r kind.Back tag) e) in cc
      apart false e = refl
  gets_are front (instr.Alloc q) = refl
  gets_are front _ = refl

sum_count : (f : Instr → ℕ) (p : Instr → Bool) → ((i : Instr) → f i ≡ bit (p i)) → (is : List Instr) → sum_by f is ≡ count_by p is
sum_count f p each is = let e : f ≡ (λ i. bit (p i)) = fun_ext each in ap (λ (g : Instr → ℕ). sum_by g is) e

-- ---- a Back lane, by the Reach lane that it answers
abbrev answered : Lane → Lane
answered c = lane c.to c.from kind.Reach c.tag

differ : (c a : Lane) → is_kind c.kind a.kind ≡ false → is_lane c a ≡ false
unfolding is_lane
differ c a e = ap (λ b. nat_eq c.from a.from && (nat_eq c.to a.to && (b && nat_eq c.tag a.tag))) e ∙ none (nat_eq c.from a.from) (nat_eq c.to a.to)
  where
    none : (x y : Bool) → (x && (y && false)) ≡ false
    none true true = refl
    none true false = refl
    none false y = refl

cross : (c : Lane) → c.kind ≡ kind.Back → (x y g : ℕ) → is_lane c (lane x y kind.Back g) ≡ is_lane (answered c) (lane y x kind.Reach g)
unfolding is_lane
cross c e x y g =
    ap (λ k. nat_eq c.from x && (nat_eq c.to y && (is_kind k kind.Back && nat_eq c.tag g))) e
    ∙ swap (nat_eq c.from x) (nat_eq c.to y) (nat_eq c.tag g)
  where
    swap : (a b d : Bool) → (a && (b && d)) ≡ (b && (a && d))
    swap true true d = refl
    swap true false d = refl
    swap false true d = refl
    swap false false d = refl

module _ (c : Lane) (e : c.kind ≡ kind.Back) (r : ℕ) where
  not_on : (a : Lane) → is_kind kind.Back a.kind ≡ false → is_lane c a ≡ false
  not_on a k = differ c a (ap (λ (j : Kind). is_kind j a.kind) e ∙ k)

  not_same : (a : Lane) → is_kind kind.Back a.kind ≡ false → is_lane a c ≡ false
  not_same a k = sym (lane_turned c a) ∙ not_on a k

  not_answered : (a : Lane) → is_kind kind.Reach a.kind ≡ false → is_lane a (answered c) ≡ false
  not_answered a k = sym (lane_turned (answered c) a) ∙ differ (answered c) a k

  puts_same : (i : Instr) → posts_on r i c ≡ is_on (lane_received r i) (answered c)
  puts_same (instr.SendBit b to tag) = not_same (lane r to kind.Bit tag) refl
  puts_same (instr.CopyTo q to tag) = not_same (lane r to kind.Copy tag) refl
  puts_same (instr.UndoTo q to tag) = not_same (lane r to kind.Undo tag) refl
  puts_same (instr.MoveTo q to tag) = not_same (lane r to kind.Move tag) refl
  puts_same (instr.ReachTo q to tag) = not_same (lane r to kind.Reach tag) refl
  puts_same (instr.RecvBit b from tag) = sym (not_answered (lane from r kind.Bit tag) refl)
  puts_same (instr.CopyFrom q from tag) = sym (not_answered (lane from r kind.Copy tag) refl)
  puts_same (instr.UndoFrom q from tag) = sym (not_answered (lane from r kind.Undo tag) refl)
  puts_same (instr.MoveFrom q from tag) = sym (not_answered (lane from r kind.Move tag) refl)
  puts_same (instr.ReachFrom q from tag) = sym (lane_turned c (lane r from kind.Back tag)) ∙ cross c e r from tag ∙ lane_turned (answered c) (lane from r kind.Reach tag)
  puts_same (instr.Alloc q) = refl
  puts_same _ = refl

  puts_back : (i : Instr) → all_puts c r i ≡ bit (is_on (lane_received r i) (answered c))
  puts_back i = puts_are c r i ∙ ap bit (puts_same i)

  gets_back : (i : Instr) → all_gets c r i ≡ bit (posts_on r i (answered c))
  gets_back (instr.SendBit b to tag) = sym (ap bit (not_answered (lane r to kind.Bit tag) refl))
  gets_back (instr.CopyTo q to tag) = sym (ap bit (not_answered (lane r to kind.Copy tag) refl))
  gets_back (instr.UndoTo q to tag) = sym (ap bit (not_answered (lane r to kind.Undo tag) refl))
  gets_back (instr.MoveTo q to tag) = sym (ap bit (not_answered (lane r to kind.Move tag) refl))
  gets_back (instr.ReachTo q to tag) =
      flag (λ d. 0 + 0 + 0 + 0 + (bit d + 0) + 0) refl refl (is_lane c (lane to r kind.Back tag)) _ (cross c e to r tag ∙ lane_turned (answered c) (lane r to kind.Reach tag))
  gets_back (instr.RecvBit b from tag) = flag (λ d. 0 + (bit d + 0)) refl refl (is_lane c (lane from r kind.Bit tag)) false (not_on (lane from r kind.Bit tag) refl)
  gets_back (instr.CopyFrom q from tag) = flag (λ d. 0 + (bit d + 0) + 0) refl refl (is_lane c (lane from r kind.Copy tag)) false (not_on (lane from r kind.Copy tag) refl)
  gets_back (instr.UndoFrom q from tag) = flag (λ d. 0 + (bit d + 0) + 0) refl refl (is_lane c (lane from r kind.Undo tag)) false (not_on (lane from r kind.Undo tag) refl)
  gets_back (instr.MoveFrom q from tag) = flag (λ d. 0 + (bit d + 0) + 0 + 0) refl refl (is_lane c (lane from r kind.Move tag)) false (not_on (lane from r kind.Move tag) refl)
  gets_back (instr.ReachFrom q from tag) =
      flag (λ d. 0 + (bit d + 0) + 0 + 0 + 0 + 0) refl refl (is_lane c (lane from r kind.Reach tag)) _
      (not_on (lane from r kind.Reach tag) refl ∙ sym (not_answered (lane r from kind.Back tag) refl))
  gets_back (instr.Alloc q) = refl
  gets_back _ = refl

-- ---- programs without a fault
sends_met : (p : Programs) → IsReady p → (a : Lane) → is_back a.kind ≡ false → lane_sends p a ≡ lane_receives p a
sends_met p ready a front =
    eqb-true (lane_sends p a) (lane_receives p a)
    (true_where (is_back a.kind || lane_sends p a == lane_receives p a) (lane_sends p a == lane_receives p a) (fault.UnmatchedLane a (lane_sends p a) (lane_receives p a))
    (ap (λ c. c || lane_sends p a == lane_receives p a) front) (ready (OnLane a)))
  where
    true_where : (b c : Bool) (f : Fault) → b ≡ c → (if b then None else Some f) ≡ None → c ≡ true
    true_where true c f e none = sym e
    true_where false c f e none = absurd (let n : ⊥ = cc in n)

module _ (p : Programs) (ready : IsReady p) (t : Tables) (n : ℕ → ℕ) (tracks : Tracks (lists p) t n) (ended : AllEnded p t) where
  no_shape : (r : ℕ) → shape_next r (lists p r) (alone r (lists p r) (n r)).place ≡ None
  no_shape r = ap (shape_next r (lists p r)) (sym (tracks.place r)) ∙ by_known (cases_lt r (length p.ranks))
    where
      no_row : (o : Option Row) → is_some o ≡ false → option_map shape_of o ≡ None
      no_row None e = refl
      no_row (Some w) e = cc

      by_known : (r < length p.ranks) ⊎ (length p.ranks ≤ r) → shape_next r (lists p r) (position (t.parts r)) ≡ None
      by_known (inl known) = shape_same p t r ∙ no_row (row_next p t r) (ended r known)
      by_known (inr past) = ap (λ (x : RankProgram). shape_next r x.instructions (position (t.parts r))) (get_or_past p.ranks r idle_rank past)

  told_is : (c : Lane) → length ((alone c.from (lists p c.from) (n c.from)).told c) ≡ sum_by (all_puts c c.from) (lists p c.from)
  told_is c = told_all c c.from (lists p c.from) (n c.from) (no_shape c.from)

  taken_is : (c : Lane) → (alone c.to (lists p c.to) (n c.to)).taken c ≡ sum_by (all_gets c c.to) (lists p c.to)
  taken_is c = taken_all c c.to (lists p c.to) (n c.to) (no_shape c.to)

  even_front : (c : Lane) → is_back c.kind ≡ false → sum_by (all_puts c c.from) (lists p c.from) ≡ sum_by (all_gets c c.to) (lists p c.to)
  even_front c front =
      sum_count (all_puts c c.from) (λ i. posts_on c.from i c) (puts_are c c.from) (lists p c.from)
      ∙ sends_met p ready c front
      ∙ sym (sum_count (all_gets c c.to) (λ i. is_on (lane_received c.to i) c) (gets_are c c.to front) (lists p c.to))

  even : (c : Lane) (k : Kind) → c.kind ≡ k → sum_by (all_puts c c.from) (lists p c.from) ≡ sum_by (all_gets c c.to) (lists p c.to)
  even c kind.Back e =
      sum_count (all_puts c c.from) (λ i. is_on (lane_received c.from i) (answered c)) (puts_back c e c.from) (lists p c.from)
      ∙ sym (sends_met p ready (answered c) refl)
      ∙ sym (sum_count (all_gets c c.to) (λ i. posts_on c.to i (answered c)) (gets_back c e c.to) (lists p c.to))
  even c kind.Bit e = even_front c (ap is_back e)
  even c kind.Copy e = even_front c (ap is_back e)
  even c kind.Move e = even_front c (ap is_back e)
  even c kind.Undo e = even_front c (ap is_back e)
  even c kind.Reach e = even_front c (ap is_back e)

  pub lanes_empty : (c : Lane) → t.lanes c ≡ []
  lanes_empty c =
      let all = parcels (lists p) t n tracks c in
      let told = told_is c in
      let taken = taken_is c in
      let same = even c c.kind refl in
      nil_from_length (t.lanes c) (omega (arith, all, told, taken, same))

pub lanes_empty_law : LanesEmptyLaw
unfolding replay IsLegal
lanes_empty_law p ready schedule complete c =
    let here = legal_tracks p schedule (state_at_start p) (λ r. 0) (tracks_start p) complete.legal in
    lanes_empty p ready (fold (next p) (state_at_start p) schedule).tables here.0 here.1 complete.ended c
