-- The wires of what a message has begun and has due: those of its debt, and the near half of its pair
use Rattle.std.proofs.Common.{◌≡◌, ℕ, zero, suc, ◌-◌, true, false, cond, Bool, ◌⊎◌, inl, inr, List, [], ◌∷◌, ◌++◌, Option, Some, None, is_some, refl, subst, ⊎_elim}
use Rattle.std.proofs.lemmas.Option.{same_Some}
use Rattle.qm_denot.specs.declared.Wire.{Wire}
use Rattle.qm_denot.specs.declared.Letter.{Letter}
use Rattle.qm_denot.specs.declared.Letter.TheVariants.{Phase, Flip, Had, Cx, Pair, Take}
use Rattle.qm_denot.specs.Protocols.{letter_if}
use Rattle.qm_denot.proofs.Partings.{AreNaming}
use Rattle.qm_instr.specs.declared.Instr.{Instr}
use Rattle.qm_instr.specs.declared.Instr.TheVariants as instr
use Rattle.qm_instr.specs.declared.Kind.{Kind}
use Rattle.qm_instr.specs.declared.Kind.TheVariants as kind
use Rattle.qm_instr.specs.declared.Lane.{Lane}
use Rattle.qm_instr.specs.Programs.{Programs, IsInRange}
use Rattle.qm_check.specs.Checks.{IsReady}
use Rattle.qm_denot.specs.declared.Parcel.{Parcel}
use Rattle.qm_proto.specs.Model.State.{Part, Tables, wire_in, wire_of, first_bit, second_bit}
use Rattle.qm_proto.specs.Model.Rows.{current, source_wire}
use Rattle.qm_simulation.specs.Following.Debts.{ByPair, BackTo, pair_of, Debt, debt, near_counted, far_counted, pair_letters, crossed_letters, debt_in, rank_debt, parcel_letters, Holder, AtRank, OnLane, Owes}
use Rattle.qm_simulation.proofs.Following.Stood.{IsStood}
use Rattle.qm_simulation.proofs.Following.SafeDebts.{EachNamed, each_naming, each_append, each_if}
use Rattle.qm_simulation.proofs.Following.Safe.{custody}
use Rattle.qm_simulation.proofs.Following.Raws.{Raw, no_raw, twin_of, raw_in, rank_raw, kind_raw, holder_raw}
use Rattle.qm_simulation.proofs.Following.Engaged.{IsEngaged}

-- the letters begun, and then those due
abbrev pub raw_letters : Raw → List Letter
raw_letters x = x.begun ++ x.pending

-- the debt names the wire, or it is the near half of its message's pair
abbrev Bears : Debt → Wire → Type 0
Bears d w = AreNaming d.letters w ⊎ ((w.near ≡ true) × (pair_of w ≡ d.message))

none_owed : {A : Type 0} {d : Debt} → None ≡ Some d → A
none_owed e = cc

owed_none : {A : Type 0} {d : Debt} → Some d ≡ None → A
owed_none e = cc

-- ---- ranks
module _ (r : ℕ) (v : Part) (w lent : ℕ → Wire) where
  abbrev Borne : Debt → List Letter → Type 0
  Borne d ls = (x : Wire) → AreNaming ls x → Bears d x

  -- the letters that a reach has begun at its second rank, and those after its first Post
  module _ (q from : ℕ) (d : Debt) (f_in : Bears d (wire_of v.taken)) (lent_in : Bears d (lent from)) (twin_in : Bears d (twin_of (wire_of v.taken))) where
    after_post : (ls : List Letter) → EachNamed (Bears d) ls → Borne d (Pair (twin_of (wire_of v.taken)) (wire_of v.taken) ∷ Cx (lent from) (twin_of (wire_of v.taken)) ∷ Take (twin_of (wire_of v.taken)) (first_bit v.taken) ∷ ls)
    after_post ls named x n =
        let e = twin_of (wire_of v.taken) in
        each_naming (Bears d) (Pair e (wire_of v.taken) ∷ Cx (lent from) e ∷ Take e (first_bit v.taken) ∷ ls) x
        ((twin_in, (f_in, tt)), ((lent_in, (twin_in, tt)), ((twin_in, tt), named))) n

    flip_in : EachNamed (Bears d) (letter_if (first_bit v.taken) (Flip (wire_of v.taken)))
    flip_in = each_if (Bears d) (first_bit v.taken) (Flip (wire_of v.taken)) (f_in, tt)

  sent_pair : (d : Debt) (ls : List Letter) → Bears d (near_counted r v) → Bears d (far_counted r v) → EachNamed (Bears d) ls → Borne d (Pair (near_counted r v) (far_counted r v) ∷ ls)
  sent_pair d ls e_in f_in named x n = each_naming (Bears d) (Pair (near_counted r v) (far_counted r v) ∷ ls) x ((e_in, (f_in, tt)), named) n

  -- the debts of a rank that sends a half, and of the second rank of a reach
  abbrev sent : List Letter → Debt
  sent ls = debt (ByPair r (v.made - 1)) ls

  abbrev reaching : ℕ → List Letter → Debt
  reaching from ls = debt (pair_of (wire_of v.taken)) (Cx (lent from) (wire_of v.taken) ∷ ls)

  abbrev RankBorne : Instr → ℕ → Debt → Type 0
  RankBorne i s d = Borne d (raw_letters (raw_in r v w lent (Some i) s))

  so : (i : Instr) (s : ℕ) {c d : Debt} → Some c ≡ Some d → RankBorne i s c → RankBorne i s d
  so i s {c} {d} e h = subst (RankBorne i s) (same_Some c d e) h

  -- what a rank owes bears all letters that its message has begun and has due
  pub rank_borne : (i : Instr) (s : ℕ) (d : Debt) → debt_in r v w lent (Some i) s ≡ Some d → (x : Wire) → AreNaming (raw_letters (raw_in r v w lent (Some i) s)) x → AreNaming d.letters x ⊎ ((x.near ≡ true) × (pair_of x ≡ d.message))
  rank_borne (instr.CopyTo q to tag) zero d e = none_owed e
  rank_borne (instr.CopyTo q to tag) (suc zero) d e = so (instr.CopyTo q to tag) 1 e (sent_pair (sent (pair_letters (near_counted r v) (far_counted r v))) [] (inr (refl, refl)) (inl (inl (inl refl))) tt)
  rank_borne (instr.CopyTo q to tag) (suc (suc zero)) d e =
      so (instr.CopyTo q to tag) 2 e (sent_pair (sent (crossed_letters (w q) (near_counted r v) (far_counted r v))) (Cx (w q) (near_counted r v) ∷ []) (inr (refl, refl)) (inl (inl (inl refl))) ((inl (inr (inr (inl (inl refl)))), (inr (refl, refl), tt)), tt))
  rank_borne (instr.CopyTo q to tag) (suc (suc (suc s))) d e = none_owed e
  rank_borne (instr.CopyFrom q from tag) zero d e = none_owed e
  rank_borne (instr.CopyFrom q from tag) (suc zero) d e = so (instr.CopyFrom q from tag) 1 e (λ x n. inl n)
  rank_borne (instr.CopyFrom q from tag) (suc (suc s)) d e = none_owed e
  rank_borne (instr.MoveTo q to tag) zero d e = none_owed e
  rank_borne (instr.MoveTo q to tag) (suc zero) d e = so (instr.MoveTo q to tag) 1 e (sent_pair (sent (pair_letters (near_counted r v) (far_counted r v))) [] (inr (refl, refl)) (inl (inl (inl refl))) tt)
  rank_borne (instr.MoveTo q to tag) (suc (suc zero)) d e =
      so (instr.MoveTo q to tag) 2 e (sent_pair (sent (crossed_letters (w q) (near_counted r v) (far_counted r v))) (Cx (w q) (near_counted r v) ∷ []) (inr (refl, refl)) (inl (inl (inl refl))) ((inl (inr (inr (inl (inl refl)))), (inr (refl, refl), tt)), tt))
  rank_borne (instr.MoveTo q to tag) (suc (suc (suc zero))) d e =
      so (instr.MoveTo q to tag) 3 e (sent_pair (sent (crossed_letters (w q) (near_counted r v) (far_counted r v) ++ Had (w q) ∷ [])) (Cx (w q) (near_counted r v) ∷ Had (w q) ∷ []) (inr (refl, refl)) (inl (inl (inl refl)))
      ((inl (inr (inr (inl (inl refl)))), (inr (refl, refl), tt)), ((inl (inr (inr (inl (inl refl)))), tt), tt)))
  rank_borne (instr.MoveTo q to tag) (suc (suc (suc (suc zero)))) d e =
      so (instr.MoveTo q to tag) 4 e (sent_pair (sent (Cx (w q) (far_counted r v) ∷ (letter_if v.first (Flip (far_counted r v)) ++ Had (w q) ∷ []))) (Cx (w q) (near_counted r v) ∷ Had (w q) ∷ Take (near_counted r v) v.first ∷ []) (inr (refl, refl)) (inl (inl (inr (inl refl))))
      ((inl (inl (inl refl)), (inr (refl, refl), tt)), ((inl (inl (inl refl)), tt), ((inr (refl, refl), tt), tt))))
  rank_borne (instr.MoveTo q to tag) (suc (suc (suc (suc (suc s))))) d e = none_owed e
  rank_borne (instr.MoveFrom q from tag) zero d e = none_owed e
  rank_borne (instr.MoveFrom q from tag) (suc zero) d e = so (instr.MoveFrom q from tag) 1 e (λ x n. inl n)
  rank_borne (instr.MoveFrom q from tag) (suc (suc zero)) d e = so (instr.MoveFrom q from tag) 2 e (λ x n. inl n)
  rank_borne (instr.MoveFrom q from tag) (suc (suc (suc s))) d e = none_owed e
  rank_borne (instr.UndoTo q to tag) zero d e = none_owed e
  rank_borne (instr.UndoTo q to tag) (suc zero) d e = so (instr.UndoTo q to tag) 1 e (λ x n. inl n)
  rank_borne (instr.UndoTo q to tag) (suc (suc s)) d e = none_owed e
  rank_borne (instr.UndoFrom q from tag) zero d e = none_owed e
  rank_borne (instr.UndoFrom q from tag) (suc zero) d e = so (instr.UndoFrom q from tag) 1 e (λ x n. inl n)
  rank_borne (instr.UndoFrom q from tag) (suc (suc s)) d e = none_owed e
  rank_borne (instr.ReachTo q to tag) zero d e = none_owed e
  rank_borne (instr.ReachTo q to tag) (suc zero) d e = so (instr.ReachTo q to tag) 1 e (sent_pair (sent (pair_letters (near_counted r v) (far_counted r v))) [] (inr (refl, refl)) (inl (inl (inl refl))) tt)
  rank_borne (instr.ReachTo q to tag) (suc (suc zero)) d e =
      so (instr.ReachTo q to tag) 2 e (sent_pair (sent (crossed_letters (w q) (near_counted r v) (far_counted r v))) (Cx (w q) (near_counted r v) ∷ []) (inr (refl, refl)) (inl (inl (inl refl))) ((inl (inr (inr (inl (inl refl)))), (inr (refl, refl), tt)), tt))
  rank_borne (instr.ReachTo q to tag) (suc (suc (suc zero))) d e = none_owed e
  rank_borne (instr.ReachTo q to tag) (suc (suc (suc (suc zero)))) d e = so (instr.ReachTo q to tag) 4 e (λ x n. inl n)
  rank_borne (instr.ReachTo q to tag) (suc (suc (suc (suc (suc s))))) d e = none_owed e
  rank_borne (instr.ReachFrom q from tag) zero d e = none_owed e
  rank_borne (instr.ReachFrom q from tag) (suc zero) d e =
      so (instr.ReachFrom q from tag) 1 e (after_post q from (reaching from (letter_if (first_bit v.taken) (Flip (wire_of v.taken)))) (inl (inl (inr (inl refl)))) (inl (inl (inl refl))) (inr (refl, refl)) [] tt)
  rank_borne (instr.ReachFrom q from tag) (suc (suc zero)) d e =
      let flip = letter_if (first_bit v.taken) (Flip (wire_of v.taken)) in
      so (instr.ReachFrom q from tag) 2 e
      (after_post q from (reaching from []) (inl (inl (inr (inl refl)))) (inl (inl (inl refl))) (inr (refl, refl)) (flip ++ [])
      (each_append (Bears (reaching from [])) flip [] (flip_in q from (reaching from []) (inl (inl (inr (inl refl)))) (inl (inl (inl refl))) (inr (refl, refl))) tt))
  rank_borne (instr.ReachFrom q from tag) (suc (suc (suc zero))) d e =
      let f = wire_of v.taken in
      let flip = letter_if (first_bit v.taken) (Flip f) in
      so (instr.ReachFrom q from tag) 3 e
      (after_post q from (reaching from (Cx (wire_of v.taken) (w q) ∷ [])) (inl (inl (inr (inl refl)))) (inl (inl (inl refl))) (inr (refl, refl)) ((flip ++ Cx f (w q) ∷ []) ++ [])
      (each_append (Bears (reaching from (Cx (wire_of v.taken) (w q) ∷ []))) (flip ++ Cx f (w q) ∷ []) []
      (each_append (Bears (reaching from (Cx (wire_of v.taken) (w q) ∷ []))) flip (Cx f (w q) ∷ []) (flip_in q from (reaching from (Cx (wire_of v.taken) (w q) ∷ [])) (inl (inl (inr (inl refl)))) (inl (inl (inl refl))) (inr (refl, refl)))
      ((inl (inl (inr (inl refl))), (inl (inr (inl (inr (inl refl)))), tt)), tt)) tt))
  rank_borne (instr.ReachFrom q from tag) (suc (suc (suc (suc zero)))) d e =
      let f = wire_of v.taken in
      let flip = letter_if (first_bit v.taken) (Flip f) in
      so (instr.ReachFrom q from tag) 4 e
      (after_post q from (reaching from (Cx (wire_of v.taken) (w q) ∷ Had (wire_of v.taken) ∷ [])) (inl (inl (inr (inl refl)))) (inl (inl (inl refl))) (inr (refl, refl)) (((flip ++ Cx f (w q) ∷ []) ++ Had f ∷ []) ++ [])
      (each_append (Bears (reaching from (Cx (wire_of v.taken) (w q) ∷ Had (wire_of v.taken) ∷ []))) ((flip ++ Cx f (w q) ∷ []) ++ Had f ∷ []) []
      (each_append (Bears (reaching from (Cx (wire_of v.taken) (w q) ∷ Had (wire_of v.taken) ∷ []))) (flip ++ Cx f (w q) ∷ []) (Had f ∷ [])
      (each_append (Bears (reaching from (Cx (wire_of v.taken) (w q) ∷ Had (wire_of v.taken) ∷ []))) flip (Cx f (w q) ∷ []) (flip_in q from (reaching from (Cx (wire_of v.taken) (w q) ∷ Had (wire_of v.taken) ∷ [])) (inl (inl (inr (inl refl)))) (inl (inl (inl refl))) (inr (refl, refl)))
      ((inl (inl (inr (inl refl))), (inl (inr (inl (inr (inl refl)))), tt)), tt)) ((inl (inl (inr (inl refl))), tt), tt)) tt))
  rank_borne (instr.ReachFrom q from tag) (suc (suc (suc (suc (suc s))))) d e = none_owed e
  rank_borne _ s d e = none_owed e

  -- and a rank that owes nothing has begun nothing, and nothing of its message is due
  empty_rank : (i : Instr) (s : ℕ) → debt_in r v w lent (Some i) s ≡ None → raw_in r v w lent (Some i) s ≡ no_raw
  empty_rank (instr.CopyTo q to tag) zero e = refl
  empty_rank (instr.CopyTo q to tag) (suc zero) e = owed_none e
  empty_rank (instr.CopyTo q to tag) (suc (suc zero)) e = owed_none e
  empty_rank (instr.CopyTo q to tag) (suc (suc (suc s))) e = refl
  empty_rank (instr.CopyFrom q from tag) zero e = refl
  empty_rank (instr.CopyFrom q from tag) (suc zero) e = owed_none e
  empty_rank (instr.CopyFrom q from tag) (suc (suc s)) e = refl
  empty_rank (instr.MoveTo q to tag) zero e = refl
  empty_rank (instr.MoveTo q to tag) (suc zero) e = owed_none e
  empty_rank (instr.MoveTo q to tag) (suc (suc zero)) e = owed_none e
  empty_rank (instr.MoveTo q to tag) (suc (suc (suc zero))) e = owed_none e
  empty_rank (instr.MoveTo q to tag) (suc (suc (suc (suc zero)))) e = owed_none e
  empty_rank (instr.MoveTo q to tag) (suc (suc (suc (suc (suc s))))) e = refl
  empty_rank (instr.MoveFrom q from tag) zero e = refl
  empty_rank (instr.MoveFrom q from tag) (suc zero) e = owed_none e
  empty_rank (instr.MoveFrom q from tag) (suc (suc zero)) e = owed_none e
  empty_rank (instr.MoveFrom q from tag) (suc (suc (suc s))) e = refl
  empty_rank (instr.UndoTo q to tag) zero e = refl
  empty_rank (instr.UndoTo q to tag) (suc zero) e = owed_none e
  empty_rank (instr.UndoTo q to tag) (suc (suc s)) e = refl
  empty_rank (instr.UndoFrom q from tag) zero e = refl
  empty_rank (instr.UndoFrom q from tag) (suc zero) e = owed_none e
  empty_rank (instr.UndoFrom q from tag) (suc (suc s)) e = refl
  empty_rank (instr.ReachTo q to tag) zero e = refl
  empty_rank (instr.ReachTo q to tag) (suc zero) e = owed_none e
  empty_rank (instr.ReachTo q to tag) (suc (suc zero)) e = owed_none e
  empty_rank (instr.ReachTo q to tag) (suc (suc (suc zero))) e = refl
  empty_rank (instr.ReachTo q to tag) (suc (suc (suc (suc zero)))) e = owed_none e
  empty_rank (instr.ReachTo q to tag) (suc (suc (suc (suc (suc s))))) e = refl
  empty_rank (instr.ReachFrom q from tag) zero e = refl
  empty_rank (instr.ReachFrom q from tag) (suc zero) e = owed_none e
  empty_rank (instr.ReachFrom q from tag) (suc (suc zero)) e = owed_none e
  empty_rank (instr.ReachFrom q from tag) (suc (suc (suc zero))) e = owed_none e
  empty_rank (instr.ReachFrom q from tag) (suc (suc (suc (suc zero)))) e = owed_none e
  empty_rank (instr.ReachFrom q from tag) (suc (suc (suc (suc (suc s))))) e = refl
  empty_rank _ s e = refl

pub nothing_begun : (p : Programs) (t : Tables) (r : ℕ) → rank_debt p t r ≡ None → rank_raw p t r ≡ no_raw
nothing_begun p t r none = by_read (current p t r) none
  where
    by_read : (o : Option Instr) → debt_in r (t.parts r) (wire_in t r) (source_wire p t) o (t.parts r).stage ≡ None
        → raw_in r (t.parts r) (wire_in t r) (source_wire p t) o (t.parts r).stage ≡ no_raw
    by_read None e = refl
    by_read (Some i) e = empty_rank r (t.parts r) (wire_in t r) (source_wire p t) i (t.parts r).stage e

-- ---- parcels
module _ (p : Programs) (t : Tables) (a : Lane) (y : Parcel) where
  parcel_borne : (k : Kind) (d : Debt) → parcel_letters p t a k y ≡ Some d → (x : Wire) → AreNaming (raw_letters (kind_raw p t a k y)) x → Bears d x
  parcel_borne kind.Bit d e x n = none_owed e
  parcel_borne kind.Copy d e x n = subst (λ c. Bears c x) (same_Some (debt (pair_of (wire_of y)) (letter_if (first_bit y) (Flip (wire_of y)))) d e) (inl n)
  parcel_borne kind.Move d e x n =
      let f = wire_of y in
      subst (λ c. Bears c x) (same_Some (debt (pair_of f) (letter_if (second_bit y) (Phase 4 f) ++ letter_if (first_bit y) (Flip f))) d e) (inl n)
  parcel_borne kind.Reach d e x n =
      let f = wire_of y in
      let s = source_wire p t a.from in
      let c = debt (pair_of f) (Cx s f ∷ letter_if (first_bit y) (Flip f)) in
      subst (λ c. Bears c x) (same_Some c d e)
      (each_naming (Bears c) (Pair (twin_of f) f ∷ Cx s (twin_of f) ∷ Take (twin_of f) (first_bit y) ∷ []) x
      ((inr (refl, refl), (inl (inl (inr (inl refl))), tt)), ((inl (inl (inl refl)), (inr (refl, refl), tt)), ((inr (refl, refl), tt), tt))) n)
  parcel_borne kind.Back d e x n =
      subst (λ c. Bears c x) (same_Some (debt (ByPair a.to ((t.parts a.to).made - 1)) (letter_if (first_bit y) (Phase 4 (source_wire p t a.to)))) d e) (inl n)
  parcel_borne kind.Undo d e x n = subst (λ c. Bears c x) (same_Some (debt (BackTo a.to) (letter_if (first_bit y) (Phase 4 (source_wire p t a.to)))) d e) (inl n)

-- ---- every wire that a message has begun to use, or has to correct, is engaged in it
module _ (p : Programs) (ready : IsReady p) (ranges : IsInRange p) (t : Tables) (stood : IsStood p t) where
  borne : (h : Holder) (d : Debt) → Owes p t h d → (x : Wire) → AreNaming (raw_letters (holder_raw p t h)) x → Bears d x
  borne (AtRank r) d owes x n = by_read (current p t r) owes n
    where
      by_read : (o : Option Instr) → debt_in r (t.parts r) (wire_in t r) (source_wire p t) o (t.parts r).stage ≡ Some d
          → AreNaming (raw_letters (raw_in r (t.parts r) (wire_in t r) (source_wire p t) o (t.parts r).stage)) x → Bears d x
      by_read None e n = none_owed e
      by_read (Some i) e n = rank_borne r (t.parts r) (wire_in t r) (source_wire p t) i (t.parts r).stage d e x n
  borne (OnLane a y) d owes x n = by_bits (is_some y.bits) owes.1
    where
      by_bits : (b : Bool) → cond b (parcel_letters p t a a.kind y) None ≡ Some d → Bears d x
      by_bits true e = parcel_borne p t a y a.kind d e x n
      by_bits false e = none_owed e

  pub raw_engaged : (h : Holder) (d : Debt) → Owes p t h d → (x : Wire) → AreNaming (raw_letters (holder_raw p t h)) x → IsEngaged p t x d.message
  raw_engaged h d owes x n =
      ⊎_elim (λ (m : AreNaming d.letters x). inl (custody p ready ranges t stood h d owes x m)) (λ (e : (x.near ≡ true) × (pair_of x ≡ d.message)). inr e) (borne h d owes x n)
