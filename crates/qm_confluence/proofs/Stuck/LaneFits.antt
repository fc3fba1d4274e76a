-- What events do to a lane, and how a lane is what its sender has told, past what its receiver has taken
use Rattle.std.proofs.Common.{◌≡◌, ◌≢◌, ℕ, zero, suc, ◌+◌, ◌≤◌, ◌<◌, Bool, true, false, cond, List, [], ◌∷◌, ◌++◌, length, map, drop, fold, Some, is_some, slice_get, slice_index_or, inl, inr, refl, sym, ap, ◌∙◌, arith}
use Rattle.std.proofs.lemmas.Bool.{cases_eq}
use Rattle.std.proofs.lemmas.List.{map-append, drop-drop, drop-append-le}
use Rattle.qm_denot.specs.Parcels.{filled}
use Rattle.qm_instr.specs.declared.Lane.{Lane}
use Rattle.qm_denot.specs.declared.Parcel.{Parcel}
use Rattle.qm_instr.specs.Lanes.{is_lane}
use Rattle.qm_instr.proofs.LaneOrder.{same_lane}
use Rattle.qm_proto.specs.declared.Rule.{Rule}
use Rattle.qm_proto.specs.declared.Rule.TheVariants.{Filled}
use Rattle.qm_proto.specs.Model.State.{Tables, with_lane, no_parcel}
use Rattle.qm_proto.specs.declared.Act.{Act}
use Rattle.qm_proto.specs.declared.Act.TheVariants.{Fresh, Twin, Apply, SlotOut, NearOut, FarOut, Settle, Posts, Fills, Receives, OwnUsed, ProtocolUsed, FirstKept, BitSet}
use Rattle.qm_proto.specs.Model.Acts.{after_act, after_acts}
use Rattle.qm_confluence.specs.Stuck.Shapes.{Move, Puts, Tells, Gets, moves}
use Rattle.qm_confluence.proofs.Stuck.Shapes.{PutsFit, MovesFit}
use Rattle.qm_confluence.proofs.Stuck.Alone.{marked, told_by, taken_by, get_append, get_marked}

-- whether a parcel has its bits
abbrev pub has_bits : Parcel → Bool
has_bits x = is_some x.bits

-- ---- what acts do to the parcels of a lane
abbrev pub seen_by : Lane → List Bool → Move → List Bool
seen_by c xs (Puts a b) = cond (is_lane c a) (xs ++ b ∷ []) xs
seen_by c xs (Tells a) = cond (is_lane c a) (marked xs) xs
seen_by c xs (Gets a) = cond (is_lane c a) (drop 1 xs) xs

lane_seen : (f : Lane → List Parcel) (a c : Lane) (g : List Parcel → List Parcel) (h : List Bool → List Bool)
    → ((xs : List Parcel) → map has_bits (g xs) ≡ h (map has_bits xs))
    → map has_bits (with_lane f a (g (f a)) c) ≡ cond (is_lane c a) (h (map has_bits (f c))) (map has_bits (f c))
lane_seen f a c g h law = by_bool (is_lane c a) refl
  where
    by_bool : (b : Bool) → is_lane c a ≡ b → map has_bits (cond b (g (f a)) (f c)) ≡ cond b (h (map has_bits (f c))) (map has_bits (f c))
    by_bool true same = law (f a) ∙ ap (λ (d : Lane). h (map has_bits (f d))) (sym (same_lane c a same))
    by_bool false other = refl

seen_filled : (b : Bool × Bool) (xs : List Parcel) → map has_bits (filled xs b) ≡ marked (map has_bits xs)
seen_filled b [] = refl
seen_filled b (x ∷ []) = refl
seen_filled b (x ∷ y ∷ xs) = ap (λ zs. has_bits x ∷ zs) (seen_filled b (y ∷ xs))

seen_drop : (xs : List Parcel) → map has_bits (drop 1 xs) ≡ drop 1 (map has_bits xs)
seen_drop [] = refl
seen_drop (x ∷ xs) = refl

module _ (r : ℕ) (c : Lane) where
  pub acts_seen : (acts : List Act) (t : Tables) → map has_bits ((after_acts r acts t).lanes c) ≡ fold (seen_by c) (map has_bits (t.lanes c)) (moves acts)
  acts_seen [] t = refl
  acts_seen (Posts a x ∷ acts) t =
      acts_seen acts (after_act r (Posts a x) t)
      ∙ ap (λ ys. fold (seen_by c) ys (moves acts)) (lane_seen t.lanes a c (λ ys. ys ++ x ∷ []) (λ ys. ys ++ has_bits x ∷ []) (λ ys. map-append has_bits ys (x ∷ [])))
  acts_seen (Fills a b ∷ acts) t =
      acts_seen acts (after_act r (Fills a b) t) ∙ ap (λ ys. fold (seen_by c) ys (moves acts)) (lane_seen t.lanes a c (λ ys. filled ys b) marked (seen_filled b))
  acts_seen (Receives a ∷ acts) t =
      acts_seen acts (after_act r (Receives a) t) ∙ ap (λ ys. fold (seen_by c) ys (moves acts)) (lane_seen t.lanes a c (drop 1) (drop 1) seen_drop)
  acts_seen (Fresh q ∷ acts) t = acts_seen acts (after_act r (Fresh q) t)
  acts_seen (Twin to ∷ acts) t = acts_seen acts (after_act r (Twin to) t)
  acts_seen (Apply l ∷ acts) t = acts_seen acts t
  acts_seen (SlotOut q m ∷ acts) t = acts_seen acts (after_act r (SlotOut q m) t)
  acts_seen (NearOut m ∷ acts) t = acts_seen acts (after_act r (NearOut m) t)
  acts_seen (FarOut f m ∷ acts) t = acts_seen acts (after_act r (FarOut f m) t)
  acts_seen (Settle f q ∷ acts) t = acts_seen acts (after_act r (Settle f q) t)
  acts_seen (OwnUsed ∷ acts) t = acts_seen acts (after_act r OwnUsed t)
  acts_seen (ProtocolUsed ∷ acts) t = acts_seen acts (after_act r ProtocolUsed t)
  acts_seen (FirstKept m ∷ acts) t = acts_seen acts (after_act r (FirstKept m) t)
  acts_seen (BitSet b v ∷ acts) t = acts_seen acts (after_act r (BitSet b v) t)

-- ---- a lane is what was told, past what was taken, and what was taken had its bits
pub record LaneFits (xs : List Bool) (k : ℕ) (hs : List Bool) : Type 0 where
  pub rest : xs ≡ drop k hs
  pub before : (j : ℕ) → j < k → slice_get hs j ≡ Some true

pub taken_few : (k : ℕ) (hs : List Bool) → ((j : ℕ) → j < k → slice_get hs j ≡ Some true) → k ≤ length hs
taken_few zero hs before = omega arith
taken_few (suc k) [] before = absurd (let e = before 0 (omega arith) in let n : ⊥ = cc in n)
taken_few (suc k) (x ∷ hs) before = let h = taken_few k hs (λ j below. before (suc j) (omega (arith, below))) in omega (arith, h)

drop_none : (k : ℕ) → drop {A = Bool} k [] ≡ []
drop_none zero = refl
drop_none (suc k) = refl

drop_marked : (k : ℕ) (hs : List Bool) → marked (drop k hs) ≡ drop k (marked hs)
drop_marked zero hs = refl
drop_marked (suc k) [] = refl
drop_marked (suc k) (x ∷ []) = ap marked (drop_none k) ∙ sym (drop_none k)
drop_marked (suc k) (x ∷ y ∷ hs) = drop_marked k (y ∷ hs)

pub get_drop : (k : ℕ) (hs : List Bool) → slice_get (drop k hs) 0 ≡ slice_get hs k
get_drop zero hs = refl
get_drop (suc k) [] = refl
get_drop (suc k) (x ∷ hs) = get_drop k hs

module _ (xs : List Bool) (k : ℕ) (hs : List Bool) (old : LaneFits xs k hs) where
  fits_put : (b v : Bool) → LaneFits (cond b (xs ++ v ∷ []) xs) k (cond b (hs ++ v ∷ []) hs)
  fits_put true v = record {
    rest = ap (λ ys. ys ++ v ∷ []) old.rest ∙ sym (drop-append-le k hs (v ∷ []) (taken_few k hs old.before));
    before = λ j below. get_append hs (v ∷ []) j (old.before j below);
  }
  fits_put false v = old

  fits_told : (b : Bool) → LaneFits (cond b (marked xs) xs) k (cond b (marked hs) hs)
  fits_told true = record { rest = ap marked old.rest ∙ drop_marked k hs; before = λ j below. get_marked hs j (old.before j below) }
  fits_told false = old

  fits_got : (b : Bool) → (b ≡ true → slice_get xs 0 ≡ Some true) → LaneFits (cond b (drop 1 xs) xs) (cond b (suc k) k) hs
  fits_got true ready = record {
    rest = ap (drop 1) old.rest ∙ drop-drop 1 k hs ∙ ap (λ n. drop n hs) (let e : k + 1 ≡ suc k = omega arith in e);
    before = λ j below. elim (cases_eq j k) [
      | inl e ↦ ap (slice_get hs) e ∙ sym (get_drop k hs) ∙ sym (ap (λ ys. slice_get ys 0) old.rest) ∙ ready refl
      | inr ne ↦ old.before j (omega (arith, below, ne))
    ];
  }
  fits_got false ready = old

module _ (c : Lane) (r : ℕ) (rule : Rule) where
  fits_puts : (ms : List Move) → PutsFit r ms → (xs : List Bool) (k : ℕ) (hs : List Bool) → LaneFits xs k hs
      → LaneFits (fold (seen_by c) xs ms) (fold (taken_by c) k ms) (fold (told_by c) hs ms)
  fits_puts [] fit xs k hs old = old
  fits_puts (Puts a v ∷ ms) fit xs k hs old = fits_puts ms fit.1 _ k _ (fits_put xs k hs old (is_lane c a) v)
  fits_puts (Tells a ∷ ms) fit xs k hs old = fits_puts ms fit.1 _ k _ (fits_told xs k hs old (is_lane c a))
  fits_puts (Gets a ∷ ms) fit xs k hs old = absurd fit

  pub fits_next : (ms : List Move) → MovesFit r rule ms → (xs : List Bool) (k : ℕ) (hs : List Bool) → LaneFits xs k hs
      → ((a : Lane) → rule ≡ Filled a → is_lane c a ≡ true → slice_get xs 0 ≡ Some true)
      → LaneFits (fold (seen_by c) xs ms) (fold (taken_by c) k ms) (fold (told_by c) hs ms)
  fits_next [] fit xs k hs old ready = old
  fits_next (Puts a v ∷ ms) fit xs k hs old ready = fits_puts (Puts a v ∷ ms) fit xs k hs old
  fits_next (Tells a ∷ ms) fit xs k hs old ready = fits_puts (Tells a ∷ ms) fit xs k hs old
  fits_next (Gets a ∷ ms) fit xs k hs old ready = fits_puts ms fit.2 _ _ hs (fits_got xs k hs old (is_lane c a) (λ same. ready a fit.1 same))

  -- a rank puts nothing on lanes of others, and takes nothing there
  unmarked : (a : Lane) → a.from ≡ r → c.from ≢ r → (hs js : List Bool) → cond (is_lane c a) js hs ≡ hs
  unmarked a from other hs js = by_bool (is_lane c a) refl
    where
      by_bool : (b : Bool) → is_lane c a ≡ b → cond b js hs ≡ hs
      by_bool true same = absurd (other (ap (λ (d : Lane). d.from) (same_lane c a same) ∙ from))
      by_bool false same = refl

  none_told : (ms : List Move) → PutsFit r ms → c.from ≢ r → (hs : List Bool) → fold (told_by c) hs ms ≡ hs
  none_told [] fit other hs = refl
  none_told (Puts a v ∷ ms) fit other hs = ap (λ js. fold (told_by c) js ms) (unmarked a fit.0 other hs (hs ++ v ∷ [])) ∙ none_told ms fit.1 other hs
  none_told (Tells a ∷ ms) fit other hs = ap (λ js. fold (told_by c) js ms) (unmarked a fit.0 other hs (marked hs)) ∙ none_told ms fit.1 other hs
  none_told (Gets a ∷ ms) fit other hs = absurd fit

  pub told_else : (ms : List Move) → MovesFit r rule ms → c.from ≢ r → (hs : List Bool) → fold (told_by c) hs ms ≡ hs
  told_else [] fit other hs = refl
  told_else (Puts a v ∷ ms) fit other hs = none_told (Puts a v ∷ ms) fit other hs
  told_else (Tells a ∷ ms) fit other hs = none_told (Tells a ∷ ms) fit other hs
  told_else (Gets a ∷ ms) fit other hs = none_told ms fit.2 other hs

  none_taken : (ms : List Move) → PutsFit r ms → (k : ℕ) → fold (taken_by c) k ms ≡ k
  none_taken [] fit k = refl
  none_taken (Puts a v ∷ ms) fit k = none_taken ms fit.1 k
  none_taken (Tells a ∷ ms) fit k = none_taken ms fit.1 k
  none_taken (Gets a ∷ ms) fit k = absurd fit

  pub taken_else : (ms : List Move) → MovesFit r rule ms → c.to ≢ r → (k : ℕ) → fold (taken_by c) k ms ≡ k
  taken_else [] fit other k = refl
  taken_else (Puts a v ∷ ms) fit other k = none_taken (Puts a v ∷ ms) fit k
  taken_else (Tells a ∷ ms) fit other k = none_taken (Tells a ∷ ms) fit k
  taken_else (Gets a ∷ ms) fit other k = ap (λ j. fold (taken_by c) j ms) (by_bool (is_lane c a) refl) ∙ none_taken ms fit.2 k
    where
      by_bool : (b : Bool) → is_lane c a ≡ b → cond b (suc k) k ≡ k
      by_bool true same = absurd (other (ap (λ (d : Lane). d.to) (same_lane c a same) ∙ fit.0))
      by_bool false same = refl

-- ---- the front parcel
pub front_seen : (xs : List Parcel) → is_some (slice_index_or xs 0 no_parcel).bits ≡ true → slice_get (map has_bits xs) 0 ≡ Some true
front_seen [] e = cc
front_seen (x ∷ xs) e = ap Some e

pub seen_front : (xs : List Parcel) → slice_get (map has_bits xs) 0 ≡ Some true → is_some (slice_index_or xs 0 no_parcel).bits ≡ true
seen_front [] e = cc
seen_front (x ∷ xs) e = cc
