-- Every debt is safe: its wires are in its message's custody, and its letters are unitary
use Rattle.std.proofs.Common.{◌≡◌, ◌≢◌, ℕ, zero, suc, ◌+◌, ◌-◌, ◌<◌, nat_lt, Bool, true, false, cond, List, [], ◌∷◌, ◌++◌, length, take, Option, Some, None, is_some, Contains, refl, sym, ap, subst, ◌∙◌, arith}
use Rattle.std.proofs.lemmas.Bool.{and_right}
use Rattle.std.proofs.lemmas.List.Elements.{Contains-push, All-contains}
use Rattle.std.proofs.lemmas.Option.{same_Some, slice_get_read}
use Rattle.qm_denot.specs.declared.Wire.{Wire}
use Rattle.qm_denot.specs.declared.Letter.{Letter}
use Rattle.qm_denot.specs.declared.Letter.TheVariants.{Phase, Flip, Had, Cx}
use Rattle.qm_denot.specs.Wires.{has, no_wires}
use Rattle.qm_denot.specs.Protocols.{letter_if}
use Rattle.qm_denot.specs.Weights.{operands}
use Rattle.qm_denot.proofs.Inverses.{IsUnitary, AllUnitary}
use Rattle.qm_instr.specs.declared.Instr.{Instr}
use Rattle.qm_instr.specs.declared.Instr.TheVariants as instr
use Rattle.qm_instr.specs.declared.Kind.{Kind}
use Rattle.qm_instr.specs.declared.Kind.TheVariants as kind
use Rattle.qm_instr.specs.declared.Lane.{Lane}
use Rattle.qm_instr.specs.Lanes.{lane, lane_sent}
use Rattle.qm_instr.specs.Programs.{Programs, IsInRange, rank_of}
use Rattle.qm_check.specs.Checks.{IsReady}
use Rattle.qm_check.specs.Slots.{full_after}
use Rattle.qm_check.proofs.Faultless.{IsStep, step_of, before}
use Rattle.qm_denot.specs.declared.Parcel.{Parcel}
use Rattle.qm_proto.specs.Model.State.{Tables, wire_in, no_wire, wire_of, first_bit, second_bit}
use Rattle.qm_proto.specs.Model.Rows.{current, source_wire, wire_offered, half_parcel}
use Rattle.qm_proto.specs.Model.Places.{Place, InSlot, NearOf, FarOf, IsAt}
use Rattle.qm_proto.proofs.TidyPlaces.{has_new}
use Rattle.qm_safety.specs.Tables.Well.{Stands, middle_of, middle_at, is_settled, has_near, is_open, is_half, keeps_half, sent_at, one_if}
use Rattle.qm_simulation.specs.Following.Seen.{has_pair}
use Rattle.qm_simulation.specs.Following.Debts.{Message, ByPair, BackTo, NoMessage, pair_of, message_of, near_counted, far_counted, pair_letters, crossed_letters, Debt, debt, debt_in, parcel_letters, Holder, AtRank, OnLane, Owes, slots_message, slots_message_in, IsInCustody}
use Rattle.qm_safety.proofs.Tables.RankSteps.{standing_at, some_is}
use Rattle.qm_safety.proofs.Tables.LaneSteps.{HasWire}
use Rattle.qm_simulation.proofs.Following.Rewritings.{AllInCustody}
use Rattle.qm_simulation.proofs.Following.Places.{IsIn}
use Rattle.qm_simulation.proofs.Following.Opens.{IsLast}
use Rattle.qm_simulation.proofs.Following.Stood.{IsStood, known_rank, half_taken, half_on_way, answer_on_way, Waits}
use Rattle.qm_simulation.proofs.Following.SafeDebts.{EachOf, each_naming, each_append, each_if, unitary_append, unitary_if, IsSafe, moved_near, corrections_of, far_not_near, slot_not_near, slot_not_far, back_not_pair, pair_parts, no_debt}
use Rattle.qm_simulation.proofs.Following.Lending.{some_there}

module _ (p : Programs) (ready : IsReady p) (ranges : IsInRange p) (t : Tables) (stood : IsStood p t) where
  -- ---- a rank in the middle of an instruction, and its wires
  module _ (r : ℕ) (i : Instr) (s : ℕ) (here : IsIn p t r i s) where
    pub step_in : IsStep p r (t.parts r).at i
    step_in = step_of p r (t.parts r).at i ready ranges (known_rank p t r i here.read) here.read

    pub stands_in : Stands r (rank_of p r) (middle_of i) (t.parts r).at s (t.parts r) (t.slots r) (t.near r)
    stands_in = standing_at p t r i s here.read here.stage (stood.well.ranks r)

    -- the wire of its operand
    pub operand_at : (q : ℕ) → is_settled (middle_of i) s ≡ false → full_after (before p r (t.parts r).at) q ≡ true → IsAt t (wire_in t r q) (InSlot r q)
    operand_at q settled full =
        let x = rank_of p r in
        let v = t.parts r in
        some_is (t.slots r q) no_wire (stands_in.full q ∙ ap (λ b. full_after (take (cond b (v.at + 1) v.at) x.instructions) q) settled ∙ full)

    -- its near half
    pub near_at : has_near (middle_of i) s ≡ true → IsAt t (near_counted r (t.parts r)) (NearOf r)
    near_at near =
        let e = near_counted r (t.parts r) in
        ap (λ x. has x e) (stands_in.near_so ∙ ap (λ b. one_if b e) near) ∙ has_new no_wires e

    -- the far half that it sends
    pub far_at : (a : Lane) → is_open (middle_of i) s ≡ true → lane_sent r i ≡ Some a → IsAt t (far_counted r (t.parts r)) (FarOf a.to)
    far_at a opens sent =
        let f = far_counted r (t.parts r) in
        let last : IsLast (t.lanes a) (half_parcel f) = (stood.opens r).last a (ap (λ o. is_open (middle_at o) (t.parts r).stage) here.read ∙ ap (is_open (middle_of i)) here.stage ∙ opens) (ap (sent_at r) here.read ∙ sent) in
        carried a (half_parcel f) f (subst (λ xs. Contains xs (half_parcel f)) (sym last.is) (Contains-push last.front (half_parcel f))) refl
      where
        carried : (a : Lane) (x : Parcel) (w : Wire) → Contains (t.lanes a) x → x.wire ≡ Some w → IsAt t w (FarOf a.to)
        carried a x w (k, below, is) wire =
            stood.well.tidy.carried a k w (record { parcel = x; there = slice_get_read (t.lanes a) (length (t.lanes a)) k x refl below (sym is); wire = wire })

    -- the half that it received, in its slot or in hand
    pub settled_at : (q : ℕ) → (middle_of i).settles ≡ Some q → nat_lt 0 s ≡ true → IsAt t (wire_of (t.parts r).taken) (InSlot r q)
    settled_at q settles low = stands_in.in_hand q settles low

    pub held_at : keeps_half (Some i) ≡ true → nat_lt 0 s ≡ true → IsAt t (wire_of (t.parts r).taken) (FarOf r)
    held_at keeps low = (stood.well.held r (ap keeps_half here.read ∙ keeps) (ap (nat_lt 0) here.stage ∙ low)).half

    pub made_some : has_pair (Some i) ≡ true → nat_lt 0 s ≡ true → 0 < (t.parts r).made
    made_some pair low = (stood.opens r).made (ap has_pair here.read ∙ pair) (ap (nat_lt 0) here.stage ∙ low)

    -- its slots are engaged in the message
    pub engaged_so : (k : Message) → nat_lt 0 s ≡ true → message_of r (t.parts r) i ≡ Some k → slots_message p t r ≡ Some k
    engaged_so k low message = ap (slots_message_in r (t.parts r)) here.read ∙ by_instr i message
      where
        now : nat_lt 0 (t.parts r).stage ≡ true
        now = ap (nat_lt 0) here.stage ∙ low

        middle : (o : Option Message) → o ≡ Some k → cond (nat_lt 0 (t.parts r).stage) o None ≡ Some k
        middle o e = ap (λ b. cond b o None) now ∙ e

        by_instr : (i : Instr) → message_of r (t.parts r) i ≡ Some k → slots_message_in r (t.parts r) (Some i) ≡ Some k
        by_instr (instr.UndoFrom q from tag) e = e
        by_instr (instr.CopyTo q to tag) e = middle _ e
        by_instr (instr.CopyFrom q from tag) e = middle _ e
        by_instr (instr.MoveTo q to tag) e = middle _ e
        by_instr (instr.MoveFrom q from tag) e = middle _ e
        by_instr (instr.UndoTo q to tag) e = middle _ e
        by_instr (instr.ReachTo q to tag) e = middle _ e
        by_instr (instr.ReachFrom q from tag) e = middle _ e
        by_instr _ e = cc

    pub slot_in : (q : ℕ) (k : Message) → IsAt t (wire_in t r q) (InSlot r q) → nat_lt 0 s ≡ true → message_of r (t.parts r) i ≡ Some k → IsInCustody p t (wire_in t r q) k
    slot_in q k at low message = (InSlot r q, at, engaged_so k low message)

  two_places : (w v : Wire) (o j : Place) → IsAt t w o → IsAt t v j → o ≢ j → w ≢ v
  two_places w v o j at there ne e = ne (stood.well.tidy.one_place w o j at (subst (λ x. IsAt t x j) (sym e) there))

  -- a wire with a place was counted
  placed_counted : (w : Wire) (o : Place) → IsAt t w o → (a k : ℕ) → pair_of w ≡ ByPair a k → k < (t.parts a).made
  placed_counted w o at a k e =
      let parts = pair_parts w.rank w.made a k e in
      let low : w.made < (t.parts w.rank).made = stood.well.tidy.counted w o at in
      let high : (t.parts w.rank).made ≡ (t.parts a).made = ap (λ j. (t.parts j).made) parts.0 in
      let m : w.made ≡ k = parts.1 in
      omega arith

  pair_real : (w : Wire) → pair_of w ≢ NoMessage
  pair_real w e = let n : ⊥ = cc in n

  -- ---- a rank in the middle of sending a half
  module _ (r : ℕ) (i : Instr) (s q to : ℕ) (here : IsIn p t r i s) (a : Lane) (sent : lane_sent r i ≡ Some a)
      (low : nat_lt 0 s ≡ true) (opens : is_open (middle_of i) s ≡ true) (message : message_of r (t.parts r) i ≡ Some (ByPair r ((t.parts r).made - 1)))
      (at : IsAt t (wire_in t r q) (InSlot r q)) where
    k : Message
    k = ByPair r ((t.parts r).made - 1)

    pub far_in : IsInCustody p t (far_counted r (t.parts r)) (ByPair r ((t.parts r).made - 1))
    far_in = (FarOf a.to, far_at r i s here a opens sent, refl)

    pub operand_in : IsInCustody p t (wire_in t r q) (ByPair r ((t.parts r).made - 1))
    operand_in = slot_in r i s here q (ByPair r ((t.parts r).made - 1)) at low message

    below : (b j : ℕ) → ByPair r ((t.parts r).made - 1) ≡ ByPair b j → j < (t.parts b).made
    below b j e = placed_counted (far_counted r (t.parts r)) (FarOf a.to) (far_at r i s here a opens sent) b j e

    pub slot_far : wire_in t r q ≢ far_counted r (t.parts r)
    slot_far = two_places (wire_in t r q) (far_counted r (t.parts r)) (InSlot r q) (FarOf a.to) at (far_at r i s here a opens sent) (slot_not_far r q a.to)

    pub moved_safe : IsSafe p t (debt (ByPair r ((t.parts r).made - 1)) (moved_near (wire_in t r q) (far_counted r (t.parts r)) (t.parts r).first))
    moved_safe =
        let w = wire_in t r q in
        let f = far_counted r (t.parts r) in
        let P : Wire → Type 0 = λ v. IsInCustody p t v (ByPair r ((t.parts r).made - 1)) in
        record {
          named = ((operand_in, (far_in, tt)), each_append P (letter_if (t.parts r).first (Flip f)) (Had w ∷ []) (each_if P (t.parts r).first (Flip f) (far_in, tt)) ((operand_in, tt), tt));
          unitary = (slot_far, unitary_append (letter_if (t.parts r).first (Flip f)) (Had w ∷ []) (unitary_if (t.parts r).first (Flip f) tt) (tt, tt));
          counted = below;
          real = λ e. let n : ⊥ = cc in n;
        }

    module _ (near : has_near (middle_of i) s ≡ true) where
      pub near_in : IsInCustody p t (near_counted r (t.parts r)) (ByPair r ((t.parts r).made - 1))
      near_in = (NearOf r, near_at r i s here near, refl)

      pub far_near : far_counted r (t.parts r) ≢ near_counted r (t.parts r)
      far_near = two_places (far_counted r (t.parts r)) (near_counted r (t.parts r)) (FarOf a.to) (NearOf r) (far_at r i s here a opens sent) (near_at r i s here near) (far_not_near r a.to)

      pub slot_near : wire_in t r q ≢ near_counted r (t.parts r)
      slot_near = two_places (wire_in t r q) (near_counted r (t.parts r)) (InSlot r q) (NearOf r) at (near_at r i s here near) (slot_not_near r q r)

      pub paired_safe : IsSafe p t (debt (ByPair r ((t.parts r).made - 1)) (pair_letters (near_counted r (t.parts r)) (far_counted r (t.parts r))))
      paired_safe = record {
        named = ((far_in, tt), ((far_in, (near_in, tt)), tt));
        unitary = (tt, (far_near, tt));
        counted = below;
        real = λ e. let n : ⊥ = cc in n;
      }

      pub crossed_safe : IsSafe p t (debt (ByPair r ((t.parts r).made - 1)) (crossed_letters (wire_in t r q) (near_counted r (t.parts r)) (far_counted r (t.parts r))))
      crossed_safe = record {
        named = ((far_in, tt), ((far_in, (near_in, tt)), ((operand_in, (near_in, tt)), tt)));
        unitary = (tt, (far_near, (slot_near, tt)));
        counted = below;
        real = λ e. let n : ⊥ = cc in n;
      }

      pub turned_safe : IsSafe p t (debt (ByPair r ((t.parts r).made - 1)) (crossed_letters (wire_in t r q) (near_counted r (t.parts r)) (far_counted r (t.parts r)) ++ Had (wire_in t r q) ∷ []))
      turned_safe = record {
        named = ((far_in, tt), ((far_in, (near_in, tt)), ((operand_in, (near_in, tt)), ((operand_in, tt), tt))));
        unitary = (tt, (far_near, (slot_near, (tt, tt))));
        counted = below;
        real = λ e. let n : ⊥ = cc in n;
      }

  -- ---- a debt that corrects one wire
  pub corrections_safe : (w : Wire) (k : Message) (sign flip : Bool) → IsInCustody p t w k → ((a j : ℕ) → k ≡ ByPair a j → j < (t.parts a).made) → k ≢ NoMessage
      → IsSafe p t (debt k (corrections_of sign flip w))
  corrections_safe w k sign flip h counted real =
      let P : Wire → Type 0 = λ v. IsInCustody p t v k in
      record {
        named = each_append P (letter_if sign (Phase 4 w)) (letter_if flip (Flip w)) (each_if P sign (Phase 4 w) (h, tt)) (each_if P flip (Flip w) (h, tt));
        unitary = unitary_append (letter_if sign (Phase 4 w)) (letter_if flip (Flip w)) (unitary_if sign (Phase 4 w) tt) (unitary_if flip (Flip w) tt);
        counted = counted;
        real = real;
      }

  pub one_safe : (w : Wire) (k : Message) (b : Bool) (l : Letter) → operands l ≡ w ∷ [] → IsUnitary l → IsInCustody p t w k
      → ((a j : ℕ) → k ≡ ByPair a j → j < (t.parts a).made) → k ≢ NoMessage → IsSafe p t (debt k (letter_if b l))
  one_safe w k b l wires unitary h counted real =
      let P : Wire → Type 0 = λ v. IsInCustody p t v k in
      record {
        named = each_if P b l (subst (EachOf P) (sym wires) (h, tt));
        unitary = unitary_if b l unitary;
        counted = counted;
        real = real;
      }

  -- ---- a reach at its second rank
  -- the first rank's wire is in custody of the message
  pub lent_wire : (a b tag : ℕ) → Waits p t a b tag → IsInCustody p t (source_wire p t a) (ByPair a ((t.parts a).made - 1))
  lent_wire a b tag w =
      let i = instr.ReachTo w.slot b tag in
      let offered : source_wire p t a ≡ wire_in t a w.slot = ap (wire_offered (wire_in t a)) w.here.read in
      subst (λ v. IsInCustody p t v (ByPair a ((t.parts a).made - 1))) (sym offered)
      (slot_in a i 3 w.here w.slot (ByPair a ((t.parts a).made - 1)) (operand_at a i 3 w.here w.slot refl (step_in a i 3 w.here).slots) refl refl)

  waits_counted : (a b tag : ℕ) → Waits p t a b tag → (c j : ℕ) → ByPair a ((t.parts a).made - 1) ≡ ByPair c j → j < (t.parts c).made
  waits_counted a b tag w c j e =
      let parts = pair_parts a ((t.parts a).made - 1) c j e in
      let some : 0 < (t.parts a).made = made_some a (instr.ReachTo w.slot b tag) 3 w.here refl refl in
      let same : (t.parts a).made ≡ (t.parts c).made = ap (λ x. (t.parts x).made) parts.0 in
      let m : (t.parts a).made - 1 ≡ j = parts.1 in
      omega arith

  module _ (r q from tag s : ℕ) (here : IsIn p t r (instr.ReachFrom q from tag) s) (low : nat_lt 0 s ≡ true) where
    pub taken_half : Waits p t from r tag × (t.lanes (lane r from kind.Back tag) ≡ []) × (wire_of (t.parts r).taken ≡ far_counted from (t.parts from))
    taken_half =
        let other = ((step_in r (instr.ReachFrom q from tag) s here).partner from refl).other in
        half_taken p t stood from r tag other q s here low

    pub reached_waits : Waits p t from r tag
    reached_waits = taken_half.0

    pub reached_half : wire_of (t.parts r).taken ≡ far_counted from (t.parts from)
    reached_half = taken_half.2

    pub reached_message : pair_of (wire_of (t.parts r).taken) ≡ ByPair from ((t.parts from).made - 1)
    reached_message = ap pair_of taken_half.2

    pub lent_in : IsInCustody p t (source_wire p t from) (pair_of (wire_of (t.parts r).taken))
    lent_in = subst (IsInCustody p t (source_wire p t from)) (sym reached_message) (lent_wire from r tag taken_half.0)

    pub half_in : IsInCustody p t (wire_of (t.parts r).taken) (pair_of (wire_of (t.parts r).taken))
    half_in = (FarOf r, held_at r (instr.ReachFrom q from tag) s here refl low, refl)

    pub target_at : IsAt t (wire_in t r q) (InSlot r q)
    target_at = operand_at r (instr.ReachFrom q from tag) s here q (and_right (nat_lt 0 s) false refl) (step_in r (instr.ReachFrom q from tag) s here).slots

    pub target_in : IsInCustody p t (wire_in t r q) (pair_of (wire_of (t.parts r).taken))
    target_in = slot_in r (instr.ReachFrom q from tag) s here q (pair_of (wire_of (t.parts r).taken)) target_at low refl

    pub lent_half : source_wire p t from ≢ wire_of (t.parts r).taken
    lent_half =
        let w = taken_half.0 in
        let i = instr.ReachTo w.slot r tag in
        let offered : source_wire p t from ≡ wire_in t from w.slot = ap (wire_offered (wire_in t from)) w.here.read in
        let at : IsAt t (source_wire p t from) (InSlot from w.slot) = subst (λ v. IsAt t v (InSlot from w.slot)) (sym offered) (operand_at from i 3 w.here w.slot refl (step_in from i 3 w.here).slots) in
        two_places (source_wire p t from) (wire_of (t.parts r).taken) (InSlot from w.slot) (FarOf r) at (held_at r (instr.ReachFrom q from tag) s here refl low) (slot_not_far from w.slot r)

    pub half_target : wire_of (t.parts r).taken ≢ wire_in t r q
    half_target e =
        two_places (wire_in t r q) (wire_of (t.parts r).taken) (InSlot r q) (FarOf r) target_at (held_at r (instr.ReachFrom q from tag) s here refl low) (slot_not_far r q r) (sym e)

    reached_counted : (c j : ℕ) → pair_of (wire_of (t.parts r).taken) ≡ ByPair c j → j < (t.parts c).made
    reached_counted c j e = placed_counted (wire_of (t.parts r).taken) (FarOf r) (held_at r (instr.ReachFrom q from tag) s here refl low) c j e

  module _ (r q from tag s : ℕ) (here : IsIn p t r (instr.ReachFrom q from tag) s) (low : nat_lt 0 s ≡ true) where
    reach_safe_flip : IsSafe p t (debt (pair_of (wire_of (t.parts r).taken)) (Cx (source_wire p t from) (wire_of (t.parts r).taken) ∷ letter_if (first_bit (t.parts r).taken) (Flip (wire_of (t.parts r).taken))))
    reach_safe_flip =
        let f = wire_of (t.parts r).taken in
        let P : Wire → Type 0 = λ v. IsInCustody p t v (pair_of f) in
        record {
          named = ((lent_in r q from tag s here low, (half_in r q from tag s here low, tt)), each_if P (first_bit (t.parts r).taken) (Flip f) (half_in r q from tag s here low, tt));
          unitary = (lent_half r q from tag s here low, unitary_if (first_bit (t.parts r).taken) (Flip f) tt);
          counted = reached_counted r q from tag s here low;
          real = pair_real f;
        }

    reach_safe_plain : IsSafe p t (debt (pair_of (wire_of (t.parts r).taken)) (Cx (source_wire p t from) (wire_of (t.parts r).taken) ∷ []))
    reach_safe_plain = record {
      named = ((lent_in r q from tag s here low, (half_in r q from tag s here low, tt)), tt);
      unitary = (lent_half r q from tag s here low, tt);
      counted = reached_counted r q from tag s here low;
      real = pair_real (wire_of (t.parts r).taken);
    }

    reach_safe_cross : IsSafe p t (debt (pair_of (wire_of (t.parts r).taken)) (Cx (source_wire p t from) (wire_of (t.parts r).taken) ∷ Cx (wire_of (t.parts r).taken) (wire_in t r q) ∷ []))
    reach_safe_cross = record {
      named = ((lent_in r q from tag s here low, (half_in r q from tag s here low, tt)), ((half_in r q from tag s here low, (target_in r q from tag s here low, tt)), tt));
      unitary = (lent_half r q from tag s here low, (half_target r q from tag s here low, tt));
      counted = reached_counted r q from tag s here low;
      real = pair_real (wire_of (t.parts r).taken);
    }

    reach_safe_had : IsSafe p t (debt (pair_of (wire_of (t.parts r).taken)) (Cx (source_wire p t from) (wire_of (t.parts r).taken) ∷ Cx (wire_of (t.parts r).taken) (wire_in t r q) ∷ Had (wire_of (t.parts r).taken) ∷ []))
    reach_safe_had = record {
      named = ((lent_in r q from tag s here low, (half_in r q from tag s here low, tt)), ((half_in r q from tag s here low, (target_in r q from tag s here low, tt)), ((half_in r q from tag s here low, tt), tt)));
      unitary = (lent_half r q from tag s here low, (half_target r q from tag s here low, (tt, tt)));
      counted = reached_counted r q from tag s here low;
      real = pair_real (wire_of (t.parts r).taken);
    }

  -- ---- the debts of ranks
  pub safe_rank : (r : ℕ) (i : Instr) (s : ℕ) → IsIn p t r i s → (d : Debt) → debt_in r (t.parts r) (wire_in t r) (source_wire p t) (Some i) s ≡ Some d → IsSafe p t d
  safe_rank r (instr.CopyTo q to tag) zero here d e = no_debt d e
  safe_rank r (instr.CopyTo q to tag) (suc zero) here d e =
      let i = instr.CopyTo q to tag in
      subst (IsSafe p t) (same_Some _ _ e) (paired_safe r i 1 q to here (lane r to kind.Copy tag) refl refl refl refl (operand_at r i 1 here q refl (step_in r i 1 here).slots) refl)
  safe_rank r (instr.CopyTo q to tag) (suc (suc zero)) here d e =
      let i = instr.CopyTo q to tag in
      subst (IsSafe p t) (same_Some _ _ e) (crossed_safe r i 2 q to here (lane r to kind.Copy tag) refl refl refl refl (operand_at r i 2 here q refl (step_in r i 2 here).slots) refl)
  safe_rank r (instr.CopyTo q to tag) (suc (suc (suc s))) here d e = no_debt d e
  safe_rank r (instr.CopyFrom q from tag) zero here d e = no_debt d e
  safe_rank r (instr.CopyFrom q from tag) (suc zero) here d e =
      let i = instr.CopyFrom q from tag in
      let f = wire_of (t.parts r).taken in
      let at = settled_at r i 1 here q refl refl in
      subst (IsSafe p t) (same_Some _ _ e) (one_safe f (pair_of f) (first_bit (t.parts r).taken) (Flip f) refl tt (InSlot r q, at, engaged_so r i 1 here (pair_of f) refl refl) (placed_counted f (InSlot r q) at) (pair_real f))
  safe_rank r (instr.CopyFrom q from tag) (suc (suc s)) here d e = no_debt d e
  safe_rank r (instr.MoveTo q to tag) zero here d e = no_debt d e
  safe_rank r (instr.MoveTo q to tag) (suc zero) here d e =
      let i = instr.MoveTo q to tag in
      subst (IsSafe p t) (same_Some _ _ e) (paired_safe r i 1 q to here (lane r to kind.Move tag) refl refl refl refl (operand_at r i 1 here q refl (step_in r i 1 here).slots) refl)
  safe_rank r (instr.MoveTo q to tag) (suc (suc zero)) here d e =
      let i = instr.MoveTo q to tag in
      subst (IsSafe p t) (same_Some _ _ e) (crossed_safe r i 2 q to here (lane r to kind.Move tag) refl refl refl refl (operand_at r i 2 here q refl (step_in r i 2 here).slots) refl)
  safe_rank r (instr.MoveTo q to tag) (suc (suc (suc zero))) here d e =
      let i = instr.MoveTo q to tag in
      subst (IsSafe p t) (same_Some _ _ e) (turned_safe r i 3 q to here (lane r to kind.Move tag) refl refl refl refl (operand_at r i 3 here q refl (step_in r i 3 here).slots) refl)
  safe_rank r (instr.MoveTo q to tag) (suc (suc (suc (suc zero)))) here d e =
      let i = instr.MoveTo q to tag in
      subst (IsSafe p t) (same_Some _ _ e) (moved_safe r i 4 q to here (lane r to kind.Move tag) refl refl refl refl (operand_at r i 4 here q refl (step_in r i 4 here).slots))
  safe_rank r (instr.MoveTo q to tag) (suc (suc (suc (suc (suc s))))) here d e = no_debt d e
  safe_rank r (instr.MoveFrom q from tag) zero here d e = no_debt d e
  safe_rank r (instr.MoveFrom q from tag) (suc zero) here d e =
      let i = instr.MoveFrom q from tag in
      let f = wire_of (t.parts r).taken in
      let at = settled_at r i 1 here q refl refl in
      subst (IsSafe p t) (same_Some _ _ e) (corrections_safe f (pair_of f) (second_bit (t.parts r).taken) (first_bit (t.parts r).taken) (InSlot r q, at, engaged_so r i 1 here (pair_of f) refl refl) (placed_counted f (InSlot r q) at) (pair_real f))
  safe_rank r (instr.MoveFrom q from tag) (suc (suc zero)) here d e =
      let i = instr.MoveFrom q from tag in
      let f = wire_of (t.parts r).taken in
      let at = settled_at r i 2 here q refl refl in
      subst (IsSafe p t) (same_Some _ _ e) (one_safe f (pair_of f) (second_bit (t.parts r).taken) (Phase 4 f) refl tt (InSlot r q, at, engaged_so r i 2 here (pair_of f) refl refl) (placed_counted f (InSlot r q) at) (pair_real f))
  safe_rank r (instr.MoveFrom q from tag) (suc (suc (suc s))) here d e = no_debt d e
  safe_rank r (instr.UndoTo q to tag) zero here d e = no_debt d e
  safe_rank r (instr.UndoTo q to tag) (suc zero) here d e =
      let i = instr.UndoTo q to tag in
      let w = wire_in t r q in
      subst (IsSafe p t) (same_Some _ _ e) (record {
        named = ((slot_in r i 1 here q (BackTo to) (operand_at r i 1 here q refl (step_in r i 1 here).slots) refl refl, tt), tt);
        unitary = (tt, tt);
        counted = λ a k m. absurd (back_not_pair to a k m);
        real = λ m. let n : ⊥ = cc in n;
      })
  safe_rank r (instr.UndoTo q to tag) (suc (suc s)) here d e = no_debt d e
  safe_rank r (instr.UndoFrom q from tag) zero here d e = no_debt d e
  safe_rank r (instr.UndoFrom q from tag) (suc zero) here d e =
      let i = instr.UndoFrom q from tag in
      let w = wire_in t r q in
      subst (IsSafe p t) (same_Some _ _ e) (one_safe w (BackTo r) (first_bit (t.parts r).taken) (Phase 4 w) refl tt
      (slot_in r i 1 here q (BackTo r) (operand_at r i 1 here q refl (step_in r i 1 here).slots) refl refl) (λ a k m. absurd (back_not_pair r a k m)) (λ m. let n : ⊥ = cc in n))
  safe_rank r (instr.UndoFrom q from tag) (suc (suc s)) here d e = no_debt d e
  safe_rank r (instr.ReachTo q to tag) zero here d e = no_debt d e
  safe_rank r (instr.ReachTo q to tag) (suc zero) here d e =
      let i = instr.ReachTo q to tag in
      subst (IsSafe p t) (same_Some _ _ e) (paired_safe r i 1 q to here (lane r to kind.Reach tag) refl refl refl refl (operand_at r i 1 here q refl (step_in r i 1 here).slots) refl)
  safe_rank r (instr.ReachTo q to tag) (suc (suc zero)) here d e =
      let i = instr.ReachTo q to tag in
      subst (IsSafe p t) (same_Some _ _ e) (crossed_safe r i 2 q to here (lane r to kind.Reach tag) refl refl refl refl (operand_at r i 2 here q refl (step_in r i 2 here).slots) refl)
  safe_rank r (instr.ReachTo q to tag) (suc (suc (suc zero))) here d e = no_debt d e
  safe_rank r (instr.ReachTo q to tag) (suc (suc (suc (suc zero)))) here d e =
      let i = instr.ReachTo q to tag in
      let w = wire_in t r q in
      let k = ByPair r ((t.parts r).made - 1) in
      let some : 0 < (t.parts r).made = made_some r i 4 here refl refl in
      subst (IsSafe p t) (same_Some _ _ e) (one_safe w k (first_bit (t.parts r).taken) (Phase 4 w) refl tt
      (slot_in r i 4 here q k (operand_at r i 4 here q refl (step_in r i 4 here).slots) refl refl) (own_counted some) (λ m. let n : ⊥ = cc in n))
    where
      own_counted : 0 < (t.parts r).made → (c j : ℕ) → ByPair r ((t.parts r).made - 1) ≡ ByPair c j → j < (t.parts c).made
      own_counted some c j e =
          let parts = pair_parts r ((t.parts r).made - 1) c j e in
          let same : (t.parts r).made ≡ (t.parts c).made = ap (λ x. (t.parts x).made) parts.0 in
          let m : (t.parts r).made - 1 ≡ j = parts.1 in
          omega arith
  safe_rank r (instr.ReachTo q to tag) (suc (suc (suc (suc (suc s))))) here d e = no_debt d e
  safe_rank r (instr.ReachFrom q from tag) zero here d e = no_debt d e
  safe_rank r (instr.ReachFrom q from tag) (suc zero) here d e = subst (IsSafe p t) (same_Some _ _ e) (reach_safe_flip r q from tag 1 here refl)
  safe_rank r (instr.ReachFrom q from tag) (suc (suc zero)) here d e = subst (IsSafe p t) (same_Some _ _ e) (reach_safe_plain r q from tag 2 here refl)
  safe_rank r (instr.ReachFrom q from tag) (suc (suc (suc zero))) here d e = subst (IsSafe p t) (same_Some _ _ e) (reach_safe_cross r q from tag 3 here refl)
  safe_rank r (instr.ReachFrom q from tag) (suc (suc (suc (suc zero)))) here d e = subst (IsSafe p t) (same_Some _ _ e) (reach_safe_had r q from tag 4 here refl)
  safe_rank r (instr.ReachFrom q from tag) (suc (suc (suc (suc (suc s))))) here d e = no_debt d e
  safe_rank r _ s here d e = no_debt d e

  -- ---- the debts of parcels
  parcel_at : (a : Lane) (x : Parcel) → is_half a.kind ≡ true → Contains (t.lanes a) x → IsAt t (wire_of x) (FarOf a.to)
  parcel_at a x k (j, below, is) =
      let there : Contains (t.lanes a) x = (j, below, is) in
      let wire = some_is x.wire no_wire (All-contains HasWire (t.lanes a) x ((stood.well.lanes a).wired k) there) in
      stood.well.tidy.carried a j (wire_of x) (record { parcel = x; there = slice_get_read (t.lanes a) (length (t.lanes a)) j x refl below (sym is); wire = wire })

  apart_lane : (c : Lane) (x : Parcel) → Contains (t.lanes c) x → c.from ≢ c.to
  apart_lane c x there self = let z : length (t.lanes c) ≡ 0 = ap (λ (ys : List Parcel). length ys) (stood.selfless c self) in let some = some_there (t.lanes c) x there in omega arith

  safe_parcel : (a : Lane) (x : Parcel) (d : Debt) (k : Kind) → a.kind ≡ k → Contains (t.lanes a) x → is_some x.bits ≡ true → parcel_letters p t a k x ≡ Some d → IsSafe p t d
  safe_parcel a x d kind.Bit same there bits e = no_debt d e
  safe_parcel a x d kind.Copy same there bits e =
      let f = wire_of x in
      let at = parcel_at a x (ap is_half same) there in
      subst (IsSafe p t) (same_Some _ _ e) (one_safe f (pair_of f) (first_bit x) (Flip f) refl tt (FarOf a.to, at, refl) (placed_counted f (FarOf a.to) at) (pair_real f))
  safe_parcel a x d kind.Move same there bits e =
      let f = wire_of x in
      let at = parcel_at a x (ap is_half same) there in
      subst (IsSafe p t) (same_Some _ _ e) (corrections_safe f (pair_of f) (second_bit x) (first_bit x) (FarOf a.to, at, refl) (placed_counted f (FarOf a.to) at) (pair_real f))
  safe_parcel a x d kind.Reach same there bits e =
      let f = wire_of x in
      let at = parcel_at a x (ap is_half same) there in
      let is_lane : a ≡ lane a.from a.to kind.Reach a.tag = ap (λ k. lane a.from a.to k a.tag) same in
      let way = half_on_way p t stood a.from a.to a.tag (apart_lane a x there) x (subst (λ l. Contains (t.lanes l) x) is_lane there) bits in
      let half_in : IsInCustody p t f (pair_of f) = (FarOf a.to, at, refl) in
      let lent : IsInCustody p t (source_wire p t a.from) (pair_of f) = subst (IsInCustody p t (source_wire p t a.from)) (sym (ap pair_of way.2)) (lent_wire a.from a.to a.tag way.0) in
      let P : Wire → Type 0 = λ v. IsInCustody p t v (pair_of f) in
      subst (IsSafe p t) (same_Some _ _ e) (record {
        named = ((lent, (half_in, tt)), each_if P (first_bit x) (Flip f) (half_in, tt));
        unitary = (apart_wires a.from a.to a.tag way.0 f at, unitary_if (first_bit x) (Flip f) tt);
        counted = placed_counted f (FarOf a.to) at;
        real = pair_real f;
      })
    where
      apart_wires : (o b tag : ℕ) → Waits p t o b tag → (f : Wire) → IsAt t f (FarOf a.to) → source_wire p t o ≢ f
      apart_wires o b tag w f there =
          let i = instr.ReachTo w.slot b tag in
          let offered : source_wire p t o ≡ wire_in t o w.slot = ap (wire_offered (wire_in t o)) w.here.read in
          let at : IsAt t (source_wire p t o) (InSlot o w.slot) = subst (λ v. IsAt t v (InSlot o w.slot)) (sym offered) (operand_at o i 3 w.here w.slot refl (step_in o i 3 w.here).slots) in
          two_places (source_wire p t o) f (InSlot o w.slot) (FarOf a.to) at there (slot_not_far o w.slot a.to)
  safe_parcel a x d kind.Back same there bits e =
      let is_lane : a ≡ lane a.from a.to kind.Back a.tag = ap (λ k. lane a.from a.to k a.tag) same in
      let way = answer_on_way p t stood a.to a.from a.tag (λ f. apart_lane a x there (sym f)) (some_there _ x (subst (λ l. Contains (t.lanes l) x) is_lane there)) in
      subst (IsSafe p t) (same_Some _ _ e) (one_safe (source_wire p t a.to) (ByPair a.to ((t.parts a.to).made - 1)) (first_bit x) (Phase 4 (source_wire p t a.to)) refl tt
      (lent_wire a.to a.from a.tag way.0) (waits_counted a.to a.from a.tag way.0) (λ m. let n : ⊥ = cc in n))
  safe_parcel a x d kind.Undo same there bits e =
      let is_lane : a ≡ lane a.from a.to kind.Undo a.tag = ap (λ k. lane a.from a.to k a.tag) same in
      let link = stood.undo a.from a.to a.tag (λ f. apart_lane a x there (sym f)) in
      let ready = link.posted (some_there _ x (subst (λ l. Contains (t.lanes l) x) is_lane there)) in
      let i = instr.UndoFrom ready.0 a.from a.tag in
      let offered : source_wire p t a.to ≡ wire_in t a.to ready.0 = ap (wire_offered (wire_in t a.to)) ready.1.read in
      let at = operand_at a.to i 0 ready.1 ready.0 refl (step_in a.to i 0 ready.1).slots in
      let in_hand : IsInCustody p t (wire_in t a.to ready.0) (BackTo a.to) = (InSlot a.to ready.0, at, ap (slots_message_in a.to (t.parts a.to)) ready.1.read) in
      subst (IsSafe p t) (same_Some _ _ e) (one_safe (source_wire p t a.to) (BackTo a.to) (first_bit x) (Phase 4 (source_wire p t a.to)) refl tt
      (subst (λ v. IsInCustody p t v (BackTo a.to)) (sym offered) in_hand) (λ b k m. absurd (back_not_pair a.to b k m)) (λ m. let n : ⊥ = cc in n))

  pub safe : (h : Holder) (d : Debt) → Owes p t h d → IsSafe p t d
  safe (AtRank r) d owes = by_read (current p t r) refl owes
    where
      by_read : (o : Option Instr) → current p t r ≡ o → debt_in r (t.parts r) (wire_in t r) (source_wire p t) o (t.parts r).stage ≡ Some d → IsSafe p t d
      by_read None read e = no_debt d e
      by_read (Some i) read e = safe_rank r i (t.parts r).stage (record { read = read; stage = refl }) d e
  safe (OnLane a x) d owes = by_bits (is_some x.bits) refl owes.1
    where
      by_bits : (b : Bool) → is_some x.bits ≡ b → cond b (parcel_letters p t a a.kind x) None ≡ Some d → IsSafe p t d
      by_bits true bits e = safe_parcel a x d a.kind refl owes.0 bits e
      by_bits false bits e = no_debt d e

  pub custody : AllInCustody p t
  custody h d owes w n = each_naming (λ v. IsInCustody p t v d.message) d.letters w (safe h d owes).named n

  pub unitary_debts : (h : Holder) (d : Debt) → Owes p t h d → AllUnitary d.letters
  unitary_debts h d owes = (safe h d owes).unitary

  pub not_outside : (h : Holder) (d : Debt) → Owes p t h d → d.message ≢ NoMessage
  not_outside h d owes = (safe h d owes).real

  pub not_uncounted : (r : ℕ) (h : Holder) (d : Debt) → Owes p t h d → d.message ≢ ByPair r (t.parts r).made
  not_uncounted r h d owes e = let low = (safe h d owes).counted r (t.parts r).made e in omega arith
