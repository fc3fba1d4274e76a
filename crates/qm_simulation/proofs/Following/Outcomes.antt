-- How many outcomes of the protocol tapes are left
use Rattle.std.proofs.Common.{◌≡◌, ◌≢◌, ℕ, zero, suc, ◌+◌, ◌-◌, ◌<◌, ◌≤◌, nat_lt, Bool, true, false, if◌then◌else◌, ◌⊎◌, inl, inr, List, [], ◌∷◌, length, refl, sym, ap, subst, ◌∙◌, arith, ⊎_elim, length-drop}
use Rattle.std.proofs.lemmas.Bool.{cases_eq}
use Rattle.qm_instr.specs.declared.Instr.{Instr}
use Rattle.qm_instr.specs.declared.Instr.TheVariants as instr
use Rattle.qm_instr.specs.Counts.{events_of, protocol_of}
use Rattle.qm_instr.specs.Programs.{Programs, IsInRange}
use Rattle.qm_check.specs.Checks.{IsReady}
use Rattle.qm_proto.specs.declared.Act.{Act}
use Rattle.qm_proto.specs.declared.Act.TheVariants.{Fresh, Twin, Apply, SlotOut, NearOut, FarOut, Settle, Posts, Fills, Receives, OwnUsed, ProtocolUsed, FirstKept, BitSet}
use Rattle.qm_proto.specs.Model.State.{Part, Tables}
use Rattle.qm_proto.specs.Model.Acts.{after_act}
use Rattle.qm_safety.specs.Tables.Well.{middle_of, outcomes_in}
use Rattle.qm_safety.specs.Tables.Lines.{row_at, acts_of}
use Rattle.qm_simulation.specs.Following.Deciding.{is_outcome, outcomes}
use Rattle.qm_safety.proofs.Tables.NextEvents.{IsNext, part_elsewhere}
use Rattle.qm_proto.proofs.Sums.{sum_below-same, sum_below-one_more}
use Rattle.qm_simulation.proofs.Following.Places.{after, before_event, part_one, part_all, own_on, own_ended, letters_none_used}
use Rattle.qm_simulation.proofs.Following.Stood.{IsStood}
use Rattle.qm_simulation.proofs.Following.Safe.{step_in, stands_in}
use Rattle.qm_proto.specs.Model.Totals.{sum_below}

-- the outcomes left on all protocol tapes
abbrev pub outcomes_left : Programs → Tables → ℕ
outcomes_left p t = sum_below (λ k. length (t.parts k).protocol) (length p.ranks)

-- an act takes the outcome that it uses
one_used : (r : ℕ) (a : Act) (t : Tables) (v : Part) → length (part_one a t v).protocol ≡ length v.protocol - (if is_outcome a then 1 else 0)
one_used r ProtocolUsed t v = length-drop 1 v.protocol
one_used r (Fresh q) t v = omega arith
one_used r (Twin to) t v = omega arith
one_used r (Apply l) t v = omega arith
one_used r (SlotOut q m) t v = omega arith
one_used r (NearOut m) t v = omega arith
one_used r (FarOut f m) t v = omega arith
one_used r (Settle f q) t v = omega arith
one_used r (Posts a x) t v = omega arith
one_used r (Fills a b) t v = omega arith
one_used r (Receives a) t v = omega arith
one_used r OwnUsed t v = omega arith
one_used r (FirstKept m) t v = omega arith
one_used r (BitSet b x) t v = omega arith

all_used : (r : ℕ) (acts : List Act) (t : Tables) (v : Part) → length (part_all r acts t v).protocol ≡ length v.protocol - outcomes acts
all_used r [] t v = omega arith
all_used r (a ∷ acts) t v =
    let one = one_used r a t v in
    let later = all_used r acts (after_act r a t) (part_one a t v) in
    omega arith

module _ (p : Programs) (ready : IsReady p) (ranges : IsInRange p) (t : Tables) (r : ℕ) (stood : IsStood p t) where
  there : (i : Instr) (s : ℕ) → IsNext p t r i s → outcomes_in (middle_of i) s + 1 ≤ protocol_of i → 0 < length (t.parts r).protocol
  there i s next more =
      let here = before_event p t r i s next in
      let stands = stands_in p ready ranges t stood r i s here in
      let step = step_in p ready ranges t stood r i s here in
      omega (arith, stands.protocol, step.protocol, step.protocol_few)

  measures : (i : Instr) (s : ℕ) → IsNext p t r i s
      → (outcomes (acts_of (row_at p t r i s)) ≡ 0) ⊎ ((outcomes (acts_of (row_at p t r i s)) ≡ 1) × (0 < length (t.parts r).protocol))
  measures (instr.CopyTo q to tag) (suc (suc zero)) next = inr (refl, there (instr.CopyTo q to tag) 2 next (omega arith))
  measures (instr.UndoTo q to tag) (suc zero) next = inr (refl, there (instr.UndoTo q to tag) 1 next (omega arith))
  measures (instr.MoveTo q to tag) (suc (suc (suc zero))) next = inr (refl, there (instr.MoveTo q to tag) 3 next (omega arith))
  measures (instr.MoveTo q to tag) (suc (suc (suc (suc zero)))) next = inr (refl, there (instr.MoveTo q to tag) 4 next (omega arith))
  measures (instr.ReachTo q to tag) (suc (suc zero)) next = inr (refl, there (instr.ReachTo q to tag) 2 next (omega arith))
  measures (instr.ReachFrom q from tag) (suc (suc (suc (suc zero)))) next = inr (refl, there (instr.ReachFrom q from tag) 4 next (omega arith))
  measures (instr.When b g) zero next = inl (letters_none_used _ _)
  measures (instr.CopyFrom q from tag) (suc zero) next = inl (letters_none_used _ _)
  measures (instr.UndoFrom q from tag) (suc zero) next = inl (letters_none_used _ _)
  measures (instr.MoveFrom q from tag) (suc zero) next = inl (letters_none_used _ _)
  measures (instr.MoveFrom q from tag) (suc (suc zero)) next = inl (letters_none_used _ _)
  measures (instr.ReachTo q to tag) (suc (suc (suc (suc zero)))) next = inl (letters_none_used _ _)
  measures (instr.ReachFrom q from tag) (suc zero) next = inl (letters_none_used _ _)
  measures (instr.CopyTo q to tag) zero next = inl refl
  measures (instr.CopyTo q to tag) (suc zero) next = inl refl
  measures (instr.UndoTo q to tag) zero next = inl refl
  measures (instr.MoveTo q to tag) zero next = inl refl
  measures (instr.MoveTo q to tag) (suc zero) next = inl refl
  measures (instr.MoveTo q to tag) (suc (suc zero)) next = inl refl
  measures (instr.ReachTo q to tag) zero next = inl refl
  measures (instr.ReachTo q to tag) (suc zero) next = inl refl
  measures (instr.ReachTo q to tag) (suc (suc (suc zero))) next = inl refl
  measures (instr.ReachFrom q from tag) zero next = inl refl
  measures (instr.ReachFrom q from tag) (suc (suc zero)) next = inl refl
  measures (instr.ReachFrom q from tag) (suc (suc (suc zero))) next = inl refl
  measures (instr.CopyFrom q from tag) zero next = inl refl
  measures (instr.MoveFrom q from tag) zero next = inl refl
  measures (instr.UndoFrom q from tag) zero next = inl refl
  measures _ zero next = inl refl
  measures _ (suc s) next = absurd (let h = next.holds in let n : ⊥ = cc in n)

  module _ (i : Instr) (s : ℕ) (next : IsNext p t r i s) where
    own_left : length ((after p t r i s).parts r).protocol ≡ length (t.parts r).protocol - outcomes (acts_of (row_at p t r i s))
    own_left = by_end (nat_lt (s + 1) (events_of i)) refl
      where
        by_end : (b : Bool) → nat_lt (s + 1) (events_of i) ≡ b → length ((after p t r i s).parts r).protocol ≡ length (t.parts r).protocol - outcomes (acts_of (row_at p t r i s))
        by_end true more = ap (λ (v : Part). length v.protocol) (own_on p t r (events_of i) (acts_of (row_at p t r i s)) i s next more) ∙ all_used r (acts_of (row_at p t r i s)) t (t.parts r)
        by_end false last = ap (λ (v : Part). length v.protocol) (own_ended p t r (events_of i) (acts_of (row_at p t r i s)) i s next last) ∙ all_used r (acts_of (row_at p t r i s)) t (t.parts r)

    others_left : (k : ℕ) → k ≢ r → length ((after p t r i s).parts k).protocol ≡ length (t.parts k).protocol
    others_left k ne = ap (λ (v : Part). length v.protocol) (part_elsewhere (events_of i) r k (acts_of (row_at p t r i s)) t ne)

    pub left_after : outcomes_left p (after p t r i s) + outcomes (acts_of (row_at p t r i s)) ≡ outcomes_left p t
    left_after = by_case (measures i s next)
      where
        by_case : (outcomes (acts_of (row_at p t r i s)) ≡ 0) ⊎ ((outcomes (acts_of (row_at p t r i s)) ≡ 1) × (0 < length (t.parts r).protocol))
            → outcomes_left p (after p t r i s) + outcomes (acts_of (row_at p t r i s)) ≡ outcomes_left p t
        by_case (inl none) =
            let u = after p t r i s in
            let own : length (u.parts r).protocol ≡ length (t.parts r).protocol = omega (arith, own_left) in
            let same : sum_below (λ k. length (u.parts k).protocol) (length p.ranks) ≡ sum_below (λ k. length (t.parts k).protocol) (length p.ranks) =
            sum_below-same (λ k. length (u.parts k).protocol) (λ k. length (t.parts k).protocol) (length p.ranks)
            (λ k _. ⊎_elim (λ (e : k ≡ r). subst (λ j. length (u.parts j).protocol ≡ length (t.parts j).protocol) (sym e) own) (λ (ne : k ≢ r). others_left k ne) (cases_eq k r)) in
            omega arith
        by_case (inr (one, some)) =
            let u = after p t r i s in
            let own : length (t.parts r).protocol ≡ length (u.parts r).protocol + 1 = omega (arith, own_left) in
            let more = sum_below-one_more (λ k. length (u.parts k).protocol) (λ k. length (t.parts k).protocol) (length p.ranks) r next.known own (λ k ne. sym (others_left k ne)) in
            omega arith
