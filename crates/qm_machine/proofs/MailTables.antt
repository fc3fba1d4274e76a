-- The mail as the lanes of the tables, where the parcels of one lane change
use Rattle.std.proofs.Common.{◌≡◌, ◌≢◌, ℕ, Bool, is_some, List, [], ◌∷◌, Option, Some, None, slice_get, slice_index_or, length, map, ◌<◌, refl, ap, subst, ◌∙◌, arith}
use Rattle.std.proofs.Math.Path.{fun_ext}
use Rattle.std.specs.List.{AllByRecursion}
use Rattle.std.specs.List.Sorted.{IsStrictlySortedBy}
use Rattle.std.specs.declared.cmp.Ordering.TheVariants.{Less}
use Rattle.std.proofs.lemmas.Map.Keys.{sorted_head, sorted_tail}
use Rattle.qm_denot.specs.declared.Parcel.{Parcel}
use Rattle.qm_denot.specs.Parcels.{IsFillable}
use Rattle.qm_instr.specs.declared.Lane.{Lane}
use Rattle.qm_instr.specs.Lanes.{lane_order}
use Rattle.qm_check.specs.declared.LaneCount.{LaneCount}
use Rattle.qm_mail.specs.Mails.{MailLane, parcels_on, sends_on, with_parcels, HasLane, IsBelowAll, AreRising, HasBits}
use Rattle.qm_mail.proofs.Lanes as lanes
use Rattle.qm_proto.specs.Model.State.{with_lane, no_parcel}
use Rattle.qm_machine.specs.Views.{MailView, mail_of, with_mail}

-- other parcels on a known lane
pub mail_changed : (m : List MailLane) (a : Lane) (ys : List Parcel) → HasLane m a → mail_of (with_parcels m a ys) ≡ with_mail (mail_of m) a ys
mail_changed m a ys known =
    let build : (Lane → List Parcel) → (Lane → ℕ) → MailView = λ on sends. record { lanes = on; parcels = sends } in
    let on : (b : Lane) → parcels_on (with_parcels m a ys) b ≡ with_lane (λ c. parcels_on m c) a ys b =
    λ b. lanes.parcels_on-changed m a b ys known in
    ap (λ l. build l (λ b. sends_on (with_parcels m a ys) b)) (fun_ext on)
    ∙ ap (build (with_lane (λ c. parcels_on m c) a ys)) (fun_ext (λ b. lanes.sends_on-changed m a b ys))

-- lanes on which something may be posted, filled or taken are known
pub known_to_post : (m : List MailLane) (a : Lane) → length (parcels_on m a) < sends_on m a → HasLane m a
known_to_post m a less = lanes.known_by_sends m a (omega (arith, less))

pub known_to_fill : (m : List MailLane) (a : Lane) → IsFillable (parcels_on m a) → HasLane m a
known_to_fill m a some = lanes.known_by_parcels m a (λ e. subst IsFillable e some)

-- a front parcel that has bits
pub bits_there : (xs : List Parcel) → (slice_index_or xs 0 no_parcel).bits ≢ None → HasBits (slice_get xs 0)
bits_there [] bits = absurd (bits refl)
bits_there (x ∷ xs) bits = by_bits x.bits refl
  where
    by_bits : (o : Option (Bool × Bool)) → x.bits ≡ o → HasBits (Some x)
    by_bits None e = absurd (bits e)
    by_bits (Some b) e = ap is_some e

pub known_to_take : (m : List MailLane) (a : Lane) → HasBits (slice_get (parcels_on m a) 0) → HasLane m a
known_to_take m a some = lanes.known_by_parcels m a (λ e. subst (λ xs. HasBits (slice_get xs 0)) e some)

pub front_read : (xs : List Parcel) (x : Parcel) → slice_get xs 0 ≡ Some x → x ≡ slice_index_or xs 0 no_parcel
front_read [] x e = cc
front_read (y ∷ xs) x e = cc

-- lanes that are strictly sorted rise
below_all : (a : Lane) (cs : List LaneCount) → AllByRecursion (λ y. lane_order a y ≡ Less) (map (λ (c : LaneCount). c.lane) cs) → IsBelowAll a cs
below_all a [] h = tt
below_all a (c ∷ cs) h = (h.0, below_all a cs h.1)

pub rising : (cs : List LaneCount) → IsStrictlySortedBy lane_order (map (λ (c : LaneCount). c.lane) cs) → AreRising cs
rising [] s = tt
rising (c ∷ cs) s =
    let names = map (λ (x : LaneCount). x.lane) cs in
    (below_all c.lane cs (sorted_head lane_order c.lane names s), rising cs (sorted_tail lane_order c.lane names s))
