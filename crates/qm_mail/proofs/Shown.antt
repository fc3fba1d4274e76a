-- What the lanes show of the queues, and how they show a queue that changes
use Rattle.std.proofs.Common.{◌≡◌, ◌∙◌, ℕ, Bool, true, false, cond, List, [], ◌∷◌, map, Option, Some, refl, sym, ap}
use Rattle.std.specs.BTreeMap.{BTreeMap, get, is_at}
use Rattle.std.specs.Map.{lookup, set_value}
use Rattle.std.specs.Ordering.{is_eq}
use Rattle.std.proofs.lemmas.Option.{same_Some}
use Rattle.qm_denot.specs.declared.Parcel.{Parcel}
use Rattle.qm_instr.specs.declared.Lane.{Lane}
use Rattle.qm_instr.specs.Lanes.{code_order, is_lane}
use Rattle.qm_instr.proofs.LaneOrder.{lane_order-derived, is_lane-order}
use Rattle.qm_mail.specs.declared.Queue.{Queue}
use Rattle.qm_mail.specs.Mails.{MailLane, parcels_on, sends_on, with_parcels}
use Rattle.qm_mail.specs.Queues.{lane_shown, lanes_shown, parcels_in, sends_in}

-- the code's test of a lane
tested : (a b : Lane) → is_lane a b ≡ is_at (code_order a) b
tested a b = is_lane-order a b ∙ sym (ap is_eq (lane_order-derived a b))

by_parcels : (here : Bool) (q : Queue) (o : Option Queue)
    → cond here q.parcels.items (parcels_in o) ≡ parcels_in (cond here (Some q) o)
by_parcels true q o = refl
by_parcels false q o = refl

by_sends : (here : Bool) (q : Queue) (o : Option Queue)
    → cond here q.sends (sends_in o) ≡ sends_in (cond here (Some q) o)
by_sends true q o = refl
by_sends false q o = refl

parcels-lookup : (es : List (Lane × Queue)) (a : Lane)
    → parcels_on (map lane_shown es) a ≡ parcels_in (lookup (is_at (code_order a)) es)
parcels-lookup [] a = refl
parcels-lookup (e ∷ es) a =
    ap (λ xs. cond (is_lane a e.0) e.1.parcels.items xs) (parcels-lookup es a)
    ∙ ap (λ b. cond b e.1.parcels.items (parcels_in (lookup (is_at (code_order a)) es))) (tested a e.0)
    ∙ by_parcels (is_at (code_order a) e.0) e.1 (lookup (is_at (code_order a)) es)

sends-lookup : (es : List (Lane × Queue)) (a : Lane)
    → sends_on (map lane_shown es) a ≡ sends_in (lookup (is_at (code_order a)) es)
sends-lookup [] a = refl
sends-lookup (e ∷ es) a =
    ap (λ n. cond (is_lane a e.0) e.1.sends n) (sends-lookup es a)
    ∙ ap (λ b. cond b e.1.sends (sends_in (lookup (is_at (code_order a)) es))) (tested a e.0)
    ∙ by_sends (is_at (code_order a) e.0) e.1 (lookup (is_at (code_order a)) es)

module _ (m : BTreeMap Lane Queue) (now : List MailLane) (a : Lane) (o : Option Queue) where
  -- the parcels on a lane are those of its queue
  pub shown_parcels : lanes_shown m ≡ now → o ≡ get code_order m a → parcels_on now a ≡ parcels_in o
  shown_parcels is found =
      sym (ap (λ xs. parcels_on xs a) is)
      ∙ parcels-lookup m.entries a
      ∙ sym (ap parcels_in found)

  -- and as many are sent on it
  pub shown_sends : lanes_shown m ≡ now → o ≡ get code_order m a → sends_on now a ≡ sends_in o
  shown_sends is found =
      sym (ap (λ xs. sends_on xs a) is)
      ∙ sends-lookup m.entries a
      ∙ sym (ap sends_in found)

-- a queue that is written in the place of q, which had as many sends
written : (es : List (Lane × Queue)) (a : Lane) (q w : Queue)
    → Some q ≡ lookup (is_at (code_order a)) es → w.sends ≡ q.sends
    → map lane_shown (set_value (is_at (code_order a)) es w) ≡ with_parcels (map lane_shown es) a w.parcels.items
written [] a q w found same = refl
written (e ∷ es) a q w found same =
    let there : MailLane = record (lane_shown e) { parcels = w.parcels.items } in
    let Shows : Bool → Type 0 = λ b. Some q ≡ cond b (Some e.1) (lookup (is_at (code_order a)) es)
    → map lane_shown (cond b ((e.0, w) ∷ es) (e ∷ set_value (is_at (code_order a)) es w))
    ≡ cond b (there ∷ map lane_shown es) (lane_shown e ∷ with_parcels (map lane_shown es) a w.parcels.items) in
    let cases : (b : Bool) → Shows b = λ b. elim b as Shows [
      | true ↦ λ at. ap (λ (n : ℕ). let x : MailLane = record there { sends = n } in x ∷ map lane_shown es) (same ∙ ap (λ (p : Queue). p.sends) (same_Some q e.1 at))
      | false ↦ λ later. ap (λ xs. lane_shown e ∷ xs) (written es a q w later same)
    ] in
    cases (is_at (code_order a) e.0) found
    ∙ ap (λ b. cond b (there ∷ map lane_shown es) (lane_shown e ∷ with_parcels (map lane_shown es) a w.parcels.items)) (sym (tested a e.0))

-- the lanes after a queue was written through: that lane has its parcels
pub shown_written : (m n : BTreeMap Lane Queue) (now : List MailLane) (a : Lane) (q w : Queue) (ys : List Parcel)
    → lanes_shown m ≡ now → Some q ≡ get code_order m a → w.sends ≡ q.sends → w.parcels.items ≡ ys
    → n.entries ≡ set_value (is_at (code_order a)) m.entries w → lanes_shown n ≡ with_parcels now a ys
shown_written m n now a q w ys is found same items put =
    ap (map lane_shown) put
    ∙ written m.entries a q w found same
    ∙ ap (with_parcels (lanes_shown m) a) items
    ∙ ap (λ xs. with_parcels xs a ys) is
