-- Queues that are put in one after another, in the order of their lanes
use Rattle.std.proofs.Common.{◌≡◌, ◌∙◌, ℕ, List, [], ◌∷◌, ◌++◌, map, take, Some, zero, suc, refl, ap, subst, slice_get}
use Rattle.std.specs.BTreeMap.{insert_entry}
use Rattle.std.specs.List.{AllByRecursion}
use Rattle.std.specs.List.Sorted.{IsStrictlySortedBy}
use Rattle.std.specs.Ordering.{ordering_reverse, match_ordering}
use Rattle.std.specs.declared.cmp.Ordering.TheVariants.{Less, Greater}
use Rattle.std.proofs.lemmas.Map.Keys.{sorted_head, sorted_tail}
use Rattle.std.proofs.lemmas.Option.{same_Some}
use Rattle.qm_instr.specs.declared.Lane.{Lane}
use Rattle.qm_instr.specs.Lanes.{code_order, lane_order}
use Rattle.qm_instr.proofs.LaneOrder.{lane_order-derived, lane_order-total}
use Rattle.qm_check.specs.declared.LaneCount.{LaneCount}
use Rattle.qm_mail.specs.declared.Queue.{Queue}
use Rattle.qm_mail.specs.Mails.{MailLane, empty_lane, IsBelowAll, AreRising}
use Rattle.qm_mail.specs.Queues.{lane_shown}

-- a lane that is below all is below the one that is read
lane_read : (a : Lane) (cs : List LaneCount) (k : ℕ) (c : LaneCount) → IsBelowAll a cs
    → slice_get cs k ≡ Some c → lane_order a c.lane ≡ Less
lane_read a [] k c all read = cc
lane_read a (x ∷ xs) zero c all read = subst (λ (y : LaneCount). lane_order a y.lane ≡ Less) (same_Some x c read) all.0
lane_read a (x ∷ xs) (suc k) c all read = lane_read a xs k c all.1 read

-- in the code's order a later lane is greater
later : (x : LaneCount) (e : Lane × Queue) (c : Lane) → lane_shown e ≡ empty_lane x
    → lane_order x.lane c ≡ Less → code_order c e.0 ≡ Greater
later x e c same less =
    lane_order-derived c e.0
    ∙ ap (lane_order c) (ap (λ (l : MailLane). l.lane) same)
    ∙ lane_order-total.antisymm c x.lane
    ∙ ap ordering_reverse less

-- a queue for the lane that comes next is put in at the end
pub put_last : (es : List (Lane × Queue)) (cs : List LaneCount) (k : ℕ) (c : LaneCount) (q : Queue)
    → map lane_shown es ≡ map empty_lane (take k cs) → AreRising cs → slice_get cs k ≡ Some c
    → insert_entry code_order es c.lane q ≡ es ++ (c.lane, q) ∷ []
put_last es [] k c q is sorted read = cc
put_last [] (x ∷ xs) k c q is sorted read = refl
put_last (e ∷ es) (x ∷ xs) zero c q is sorted read = cc
put_last (e ∷ es) (x ∷ xs) (suc k) c q is sorted read =
    let first : lane_shown e ≡ empty_lane x = cc in
    let rest : map lane_shown es ≡ map empty_lane (take k xs) = cc in
    let less = lane_read x.lane xs k c sorted.0 read in
    ap (λ o. match_ordering o ((c.lane, q) ∷ e ∷ es) ((e.0, q) ∷ es) (e ∷ insert_entry code_order es c.lane q)) (later x e c.lane first less)
    ∙ ap (λ ys. e ∷ ys) (put_last es xs k c q rest sorted.1 read)

below_from_all : (a : Lane) (cs : List LaneCount)
    → AllByRecursion (λ l. lane_order a l ≡ Less) (map (λ (c : LaneCount). c.lane) cs)
    → IsBelowAll a cs
below_from_all a [] all = tt
below_from_all a (c ∷ cs) all = (all.0, below_from_all a cs all.1)

-- lanes that are strictly sorted rise
pub rising_from_sorted : (cs : List LaneCount)
    → IsStrictlySortedBy lane_order (map (λ (c : LaneCount). c.lane) cs) → AreRising cs
rising_from_sorted [] sorted = tt
rising_from_sorted (c ∷ cs) sorted =
    (below_from_all c.lane cs (sorted_head lane_order c.lane (map (λ (x : LaneCount). x.lane) cs) sorted), rising_from_sorted cs (sorted_tail lane_order c.lane (map (λ (x : LaneCount). x.lane) cs) sorted))
