-- A function of ranks, slots or lanes that is changed in one place
use Rattle.std.proofs.Common.{◌≡◌, ◌≢◌, ℕ, nat_eq, Bool, true, false, ◌&&◌, cond, Option, inl, inr, refl, sym, ap, subst, ◌∙◌}
use Rattle.std.proofs.lemmas.Bool.Decides.{eqb_tells}
use Rattle.qm_denot.specs.declared.Wire.{Wire}
use Rattle.qm_instr.specs.declared.Lane.{Lane}
use Rattle.qm_instr.specs.Lanes.{is_lane}
use Rattle.qm_instr.proofs.LaneOrder.{same_lane, lane_itself}
use Rattle.qm_proto.specs.Model.State.{with_at, with_slot, with_lane}
use Rattle.std.proofs.lemmas.Bool.{and_parts, eqb-true}

-- ---- the tests
pub number_itself : (a : ℕ) → nat_eq a a ≡ true
number_itself a = elim (eqb_tells a a) [ inl h ↦ h.0 | inr h ↦ absurd (h.1 refl) ]

-- ---- what holds of a choice, as the test decides
pub by_test : {A : Type 0} (P : A → Type 0) (b : Bool) (x y : A) → (b ≡ true → P x) → (b ≡ false → P y) → P (cond b x y)
by_test P true x y at_true at_false = at_true refl
by_test P false x y at_true at_false = at_false refl

not_itself : {A : Type 0} (test : A → A → Bool) → ((a : A) → test a a ≡ true) → (a b : A) → test a b ≡ false → a ≢ b
not_itself test itself a b e s = let h : test a b ≡ true = subst (λ c. test a c ≡ true) s (itself a) in cc

-- a number is the one, or another
pub by_number : (P : ℕ → Type 0) (r : ℕ) → P r → ((k : ℕ) → k ≢ r → P k) → (k : ℕ) → P k
by_number P r here there k = elim (eqb_tells k r) [ inl h ↦ subst P (sym h.1) here | inr h ↦ there k h.1 ]

-- ---- what holds of the changed function, at the place and elsewhere
pub by_rank : {A : Type 0} (P : A → Type 0) (f : ℕ → A) (r : ℕ) (v : A) (k : ℕ)
    → (k ≡ r → P v) → (k ≢ r → P (f k)) → P (with_at f r v k)
by_rank P f r v k at_place elsewhere =
    by_test P (nat_eq k r) v (f k) (λ e. at_place (eqb-true k r e)) (λ e. elsewhere (not_itself nat_eq number_itself k r e))

-- slot p of rank k is slot q of rank r
pub record IsSlot (k p r q : ℕ) : Type 0 where
  pub rank : k ≡ r
  pub slot : p ≡ q

slot_test : (k p r q : ℕ) → (nat_eq k r && nat_eq p q) ≡ true → IsSlot k p r q
slot_test k p r q e =
    let h = and_parts (nat_eq k r) (nat_eq p q) e in
    record { rank = eqb-true k r h.0; slot = eqb-true p q h.1 }

other_slot : (k p r q : ℕ) → (nat_eq k r && nat_eq p q) ≡ false → ¬ IsSlot k p r q
other_slot k p r q e s =
    let rank : nat_eq k r ≡ true = ap (λ j. nat_eq j r) s.rank ∙ number_itself r in
    let slot : nat_eq p q ≡ true = ap (λ j. nat_eq j q) s.slot ∙ number_itself q in
    let h : true ≡ false = rw (rank, slot) at e in cc

pub by_slot : (P : Option Wire → Type 0) (f : ℕ → ℕ → Option Wire) (r q : ℕ) (v : Option Wire) (k p : ℕ)
    → (IsSlot k p r q → P v) → (¬ IsSlot k p r q → P (f k p)) → P (with_slot f r q v k p)
by_slot P f r q v k p at_place elsewhere =
    by_test P (nat_eq k r && nat_eq p q) v (f k p) (λ e. at_place (slot_test k p r q e)) (λ e. elsewhere (other_slot k p r q e))

pub by_lane : {A : Type 0} (P : A → Type 0) (f : Lane → A) (a : Lane) (v : A) (b : Lane)
    → (b ≡ a → P v) → (b ≢ a → P (f b)) → P (with_lane f a v b)
by_lane P f a v b at_place elsewhere =
    by_test P (is_lane b a) v (f b) (λ e. at_place (same_lane b a e)) (λ e. elsewhere (not_itself is_lane lane_itself b a e))

-- ---- its values
pub with_at-here : {A : Type 0} (f : ℕ → A) (r : ℕ) (v : A) → with_at f r v r ≡ v
with_at-here f r v = by_rank (λ x. x ≡ v) f r v r (λ e. refl) (λ ne. absurd (ne refl))

pub with_at-elsewhere : {A : Type 0} (f : ℕ → A) (r : ℕ) (v : A) (k : ℕ) → k ≢ r → with_at f r v k ≡ f k
with_at-elsewhere f r v k ne = by_rank (λ x. x ≡ f k) f r v k (λ e. absurd (ne e)) (λ _. refl)

pub with_slot-here : (f : ℕ → ℕ → Option Wire) (r q : ℕ) (v : Option Wire) → with_slot f r q v r q ≡ v
with_slot-here f r q v = by_slot (λ x. x ≡ v) f r q v r q (λ e. refl) (λ ne. absurd (ne (record { rank = refl; slot = refl })))

pub with_slot-elsewhere : (f : ℕ → ℕ → Option Wire) (r q : ℕ) (v : Option Wire) (k p : ℕ) → ¬ IsSlot k p r q → with_slot f r q v k p ≡ f k p
with_slot-elsewhere f r q v k p ne = by_slot (λ x. x ≡ f k p) f r q v k p (λ e. absurd (ne e)) (λ _. refl)

pub with_lane-here : {A : Type 0} (f : Lane → A) (a : Lane) (v : A) → with_lane f a v a ≡ v
with_lane-here f a v = by_lane (λ x. x ≡ v) f a v a (λ e. refl) (λ ne. absurd (ne refl))

pub with_lane-elsewhere : {A : Type 0} (f : Lane → A) (a : Lane) (v : A) (b : Lane) → b ≢ a → with_lane f a v b ≡ f b
with_lane-elsewhere f a v b ne = by_lane (λ x. x ≡ f b) f a v b (λ e. absurd (ne e)) (λ _. refl)

-- ---- and facts of the function that the change keeps
pub with_at-keeps : {A B : Type 0} (g : A → B) (f : ℕ → A) (r : ℕ) (v : A) → g v ≡ g (f r) → (k : ℕ) → g (with_at f r v k) ≡ g (f k)
with_at-keeps g f r v e k = by_rank (λ x. g x ≡ g (f k)) f r v k (λ s. e ∙ ap (λ j. g (f j)) (sym s)) (λ _. refl)
