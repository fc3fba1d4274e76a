-- What the acts of a rank do to a lane: puts where it is not the receiver, takes where it is not the sender
use Rattle.std.proofs.Common.{◌≡◌, ◌≢◌, ℕ, ◌+◌, ◌≤◌, nat_lt, zero, suc, Bool, true, false, cond, List, [], ◌∷◌, ◌++◌, length, drop, fold, slice_index_or, refl, sym, ap, ◌∙◌, arith, append_assoc, append-nil, inl, inr}
use Rattle.std.proofs.lemmas.Bool.{lt-ltb}
use Rattle.std.proofs.lemmas.List.{drop-append-le}
use Rattle.std.proofs.lemmas.Bool.Decides.{eqb_tells}
use Rattle.qm_instr.specs.declared.Lane.{Lane}
use Rattle.qm_instr.specs.Lanes.{is_lane}
use Rattle.qm_instr.proofs.LaneOrder.{same_lane}
use Rattle.qm_proto.specs.Model.Ideal.{IdealAct, Counts, SlotSet, Puts, Takes, OwnUsed, BitSet, Load, Token}
use Rattle.qm_confluence.proofs.Confluence.Effects.{lane_act}
use Rattle.qm_confluence.proofs.Confluence.ByView.{AllFit, puts, takes}

-- ---- lists
drop_more : (n : ℕ) (xs : List Load) → drop n (drop 1 xs) ≡ drop (1 + n) xs
drop_more n [] = nothing n ∙ sym (nothing (1 + n))
  where
    nothing : (k : ℕ) → drop {A = Load} k [] ≡ []
    nothing zero = refl
    nothing (suc k) = refl
drop_more n (x ∷ xs) = let e : 1 + n ≡ suc n = omega arith in ap (λ k. drop k (x ∷ xs)) (sym e)

module _ (r : ℕ) (c : Lane) where
  -- the rank is not the receiver
  pub lane_put : c.to ≢ r → (acts : List IdealAct) → AllFit r acts → (xs : List Load) → fold (lane_act c) xs acts ≡ xs ++ puts c acts
  lane_put other [] fit xs = sym (append-nil xs)
  lane_put other (Puts a x ∷ acts) fit xs = lane_put other acts fit.1 (cond (is_lane c a) (xs ++ x ∷ []) xs) ∙ by_bool (is_lane c a)
    where
      by_bool : (b : Bool) → cond b (xs ++ x ∷ []) xs ++ puts c acts ≡ xs ++ cond b (x ∷ puts c acts) (puts c acts)
      by_bool true = append_assoc xs (x ∷ []) (puts c acts)
      by_bool false = refl
  lane_put other (Takes a ∷ acts) fit xs = ap (λ ys. fold (lane_act c) ys acts) (by_bool (is_lane c a) refl) ∙ lane_put other acts fit.1 xs
    where
      by_bool : (b : Bool) → is_lane c a ≡ b → cond b (drop 1 xs) xs ≡ xs
      by_bool true same = absurd (other (ap (λ (d : Lane). d.to) (same_lane c a same) ∙ fit.0))
      by_bool false same = refl
  lane_put other (Counts ∷ acts) fit xs = lane_put other acts fit.1 xs
  lane_put other (SlotSet q w ∷ acts) fit xs = lane_put other acts fit.1 xs
  lane_put other (OwnUsed ∷ acts) fit xs = lane_put other acts fit.1 xs
  lane_put other (BitSet b v ∷ acts) fit xs = lane_put other acts fit.1 xs

  -- the rank is not the sender
  pub lane_taken : c.from ≢ r → (acts : List IdealAct) → AllFit r acts → (xs : List Load) → fold (lane_act c) xs acts ≡ drop (takes c acts) xs
  lane_taken other [] fit xs = refl
  lane_taken other (Takes a ∷ acts) fit xs = lane_taken other acts fit.1 (cond (is_lane c a) (drop 1 xs) xs) ∙ by_bool (is_lane c a)
    where
      by_bool : (b : Bool) → drop (takes c acts) (cond b (drop 1 xs) xs) ≡ drop (cond b 1 0 + takes c acts) xs
      by_bool true = drop_more (takes c acts) xs
      by_bool false = let e : takes c acts ≡ 0 + takes c acts = omega arith in ap (λ k. drop k xs) e
  lane_taken other (Puts a x ∷ acts) fit xs = ap (λ ys. fold (lane_act c) ys acts) (by_bool (is_lane c a) refl) ∙ lane_taken other acts fit.1 xs
    where
      by_bool : (b : Bool) → is_lane c a ≡ b → cond b (xs ++ x ∷ []) xs ≡ xs
      by_bool true same = absurd (other (ap (λ (d : Lane). d.from) (same_lane c a same) ∙ fit.0))
      by_bool false same = refl
  lane_taken other (Counts ∷ acts) fit xs = lane_taken other acts fit.1 xs
  lane_taken other (SlotSet q w ∷ acts) fit xs = lane_taken other acts fit.1 xs
  lane_taken other (OwnUsed ∷ acts) fit xs = lane_taken other acts fit.1 xs
  lane_taken other (BitSet b v ∷ acts) fit xs = lane_taken other acts fit.1 xs

  -- it is neither: nothing is put
  none_put : c.from ≢ r → (acts : List IdealAct) → AllFit r acts → puts c acts ≡ []
  none_put other [] fit = refl
  none_put other (Puts a x ∷ acts) fit = by_bool (is_lane c a) refl ∙ none_put other acts fit.1
    where
      by_bool : (b : Bool) → is_lane c a ≡ b → cond b (x ∷ puts c acts) (puts c acts) ≡ puts c acts
      by_bool true same = absurd (other (ap (λ (d : Lane). d.from) (same_lane c a same) ∙ fit.0))
      by_bool false same = refl
  none_put other (Takes a ∷ acts) fit = none_put other acts fit.1
  none_put other (Counts ∷ acts) fit = none_put other acts fit.1
  none_put other (SlotSet q w ∷ acts) fit = none_put other acts fit.1
  none_put other (OwnUsed ∷ acts) fit = none_put other acts fit.1
  none_put other (BitSet b v ∷ acts) fit = none_put other acts fit.1

  pub lane_stays : c.from ≢ r → c.to ≢ r → (acts : List IdealAct) → AllFit r acts → (xs : List Load) → fold (lane_act c) xs acts ≡ xs
  lane_stays from to acts fit xs = lane_put to acts fit xs ∙ ap (λ ys. xs ++ ys) (none_put from acts fit) ∙ append-nil xs

-- ---- the front of a lane to which more is put
pub front_put : (xs ys : List Load) → nat_lt 0 (length xs) ≡ true
    → (nat_lt 0 (length (xs ++ ys)) ≡ true) × (slice_index_or (xs ++ ys) 0 Token ≡ slice_index_or xs 0 Token)
front_put [] ys e = absurd (let n : ⊥ = cc in n)
front_put (x ∷ xs) ys e = (lt-ltb 0 (length (x ∷ (xs ++ ys))) (omega arith), refl)

-- ---- two ranks at one lane, of which neither takes more than there is
module _ (a b : ℕ) (other : a ≢ b) (c : Lane) (ls : List Load) (xs ys : List IdealAct) (fit : AllFit a xs) (fits : AllFit b ys) (few : takes c ys ≤ length ls) where
  -- rank a is not the receiver
  not_receiver : c.to ≢ a → fold (lane_act c) (fold (lane_act c) ls xs) ys ≡ fold (lane_act c) (fold (lane_act c) ls ys) xs
  not_receiver to = elim (eqb_tells c.from a) [
    | inl h ↦
        let from : c.from ≢ b = λ e. other (sym h.1 ∙ e) in
        ap (λ z. fold (lane_act c) z ys) (lane_put a c to xs fit ls) ∙ lane_taken b c from ys fits (ls ++ puts c xs)
        ∙ drop-append-le (takes c ys) ls (puts c xs) few
        ∙ sym (ap (λ z. fold (lane_act c) z xs) (lane_taken b c from ys fits ls) ∙ lane_put a c to xs fit (drop (takes c ys) ls))
    | inr h ↦
        ap (λ z. fold (lane_act c) z ys) (lane_stays a c h.1 to xs fit ls) ∙ sym (lane_stays a c h.1 to xs fit (fold (lane_act c) ls ys))
  ]

pub lanes_swap : (a b : ℕ) → a ≢ b → (c : Lane) (ls : List Load) (xs ys : List IdealAct) → AllFit a xs → AllFit b ys
    → takes c xs ≤ length ls → takes c ys ≤ length ls
    → fold (lane_act c) (fold (lane_act c) ls xs) ys ≡ fold (lane_act c) (fold (lane_act c) ls ys) xs
lanes_swap a b other c ls xs ys fit fits few fewer = elim (eqb_tells c.to a) [
  | inl h ↦ sym (not_receiver b a (λ e. other (sym e)) c ls ys xs fits fit few (λ e. other (sym h.1 ∙ e)))
  | inr h ↦ not_receiver a b other c ls xs ys fit fits fewer h.1
]
