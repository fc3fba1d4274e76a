-- The mail as functions of the lanes: what a change of one lane's parcels leaves, and what there is at the start
use Rattle.std.proofs.Common.{◌≡◌, ◌≢◌, ◌∙◌, ◌<◌, ◌||◌, Bool, true, false, cond, List, [], ◌∷◌, map, refl, sym, ap, arith}
use Rattle.qm_denot.specs.declared.Parcel.{Parcel}
use Rattle.qm_instr.specs.declared.Lane.{Lane}
use Rattle.qm_instr.specs.Lanes.{is_lane}
use Rattle.qm_instr.proofs.LaneOrder.{same_lane, lane_turned}
use Rattle.qm_check.specs.Messages.{listed_sends}
use Rattle.qm_check.specs.declared.LaneCount.{LaneCount}
use Rattle.qm_mail.specs.Mails.{MailLane, parcels_on, sends_on, with_parcels, empty_lane, has_lane, HasLane}

-- no parcels stand on a lane at the start
pub parcels_on-start : (cs : List LaneCount) (a : Lane) → parcels_on (map empty_lane cs) a ≡ []
parcels_on-start [] a = refl
parcels_on-start (c ∷ cs) a =
    elim (is_lane a c.lane) as (λ b. cond b [] (parcels_on (map empty_lane cs) a) ≡ []) [ true ↦ refl | false ↦ parcels_on-start cs a ]

-- and as many are sent as are listed
pub sends_on-start : (cs : List LaneCount) (a : Lane)
    → sends_on (map empty_lane cs) a ≡ listed_sends cs a
sends_on-start [] a = refl
sends_on-start (c ∷ cs) a =
    ap (cond (is_lane a c.lane) c.sends) (sends_on-start cs a)
    ∙ ap (λ b. cond b c.sends (listed_sends cs a)) (lane_turned a c.lane)

put_again : (here at : Bool) (ys old rest : List Parcel) → at ≡ here
    → cond here ys rest ≡ cond here ys (cond at old rest)
put_again true at ys old rest e = refl
put_again false at ys old rest e = ap (λ t. cond t old rest) (sym e)

exchanged : (s t : Bool) (x y rest : List Parcel) → (s ≡ true → t ≡ true → ⊥)
    → cond s x (cond t y rest) ≡ cond t y (cond s x rest)
exchanged true true x y rest apart = absurd (apart refl refl)
exchanged true false x y rest apart = refl
exchanged false t x y rest apart = refl

-- other parcels on lane a leave the others' as they were
pub parcels_on-changed : (m : List MailLane) (a b : Lane) (ys : List Parcel) → HasLane m a
    → parcels_on (with_parcels m a ys) b ≡ cond (is_lane b a) ys (parcels_on m b)
parcels_on-changed [] a b ys known = cc
parcels_on-changed (x ∷ xs) a b ys known =
    let Holds : Bool → Type 0 = λ t. (t || has_lane xs a) ≡ true
    → parcels_on (cond t (record x { parcels = ys } ∷ xs) (x ∷ with_parcels xs a ys)) b ≡ cond (is_lane b a) ys (parcels_on (x ∷ xs) b) in
    elim (is_lane a x.lane) as (λ t. is_lane a x.lane ≡ t → Holds t) [
      | true ↦ λ same _.
          let e : is_lane b x.lane ≡ is_lane b a = ap (λ l. is_lane b l) (sym (same_lane a x.lane same)) in
          ap (λ t. cond t ys (parcels_on xs b)) e
          ∙ put_again (is_lane b a) (is_lane b x.lane) ys x.parcels (parcels_on xs b) e
      | false ↦ λ apart rest.
          ap (cond (is_lane b x.lane) x.parcels) (parcels_on-changed xs a b ys rest)
          ∙ exchanged (is_lane b x.lane) (is_lane b a) x.parcels ys (parcels_on xs b) (λ bx ba.
          let turned : is_lane a b ≡ true = lane_turned a b ∙ ba in
          let e : is_lane a x.lane ≡ true = ap (λ l. is_lane l x.lane) (same_lane a b turned) ∙ bx in
          let f : ⊥ = cc in f)
    ] refl known

-- no lane's sends change
pub sends_on-changed : (m : List MailLane) (a b : Lane) (ys : List Parcel)
    → sends_on (with_parcels m a ys) b ≡ sends_on m b
sends_on-changed [] a b ys = refl
sends_on-changed (x ∷ xs) a b ys =
    elim (is_lane a x.lane) as (λ t. sends_on (cond t (record x { parcels = ys } ∷ xs) (x ∷ with_parcels xs a ys)) b ≡ sends_on (x ∷ xs) b) [
      | true ↦ refl
      | false ↦ ap (cond (is_lane b x.lane) x.sends) (sends_on-changed xs a b ys)
    ]

-- a lane is known where parcels are sent on it
pub known_by_sends : (m : List MailLane) (a : Lane) → 0 < sends_on m a → HasLane m a
known_by_sends [] a some = absurd (omega arith)
known_by_sends (x ∷ xs) a some =
    elim (is_lane a x.lane) as (λ t. 0 < cond t x.sends (sends_on xs a) → (t || has_lane xs a) ≡ true) [
      | true ↦ λ _. refl
      | false ↦ λ rest. known_by_sends xs a rest
    ] some

-- and where parcels stand on it
pub known_by_parcels : (m : List MailLane) (a : Lane) → parcels_on m a ≢ [] → HasLane m a
known_by_parcels [] a some = absurd (some refl)
known_by_parcels (x ∷ xs) a some =
    elim (is_lane a x.lane) as (λ t. cond t x.parcels (parcels_on xs a) ≢ [] → (t || has_lane xs a) ≡ true) [
      | true ↦ λ _. refl
      | false ↦ λ rest. known_by_parcels xs a rest
    ] some
