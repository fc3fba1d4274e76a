-- The two ranks of a reach wait for each other: where they stand, and instructions that have nothing to do with them
use Rattle.std.proofs.Common.{◌≡◌, ℕ, zero, suc, ◌+◌, ◌<◌, nat_eq, nat_lt, Bool, true, false, ◌&&◌, ◌⊎◌, inl, inr, List, [], ◌∷◌, ◌++◌, length, drop, Option, Some, None, is_some, slice_index_or, Contains, refl, sym, ap, ◌∙◌, arith, ⊎_elim}
use Rattle.qm_denot.specs.declared.Letter.{Letter}
use Rattle.qm_denot.specs.Parcels.{filled}
use Rattle.qm_instr.specs.declared.Instr.{Instr}
use Rattle.qm_instr.specs.declared.Instr.TheVariants as instr
use Rattle.qm_instr.specs.declared.Kind.TheVariants as kind
use Rattle.qm_instr.specs.Lanes.{lane}
use Rattle.qm_instr.specs.Programs.{Programs}
use Rattle.qm_denot.specs.declared.Parcel.{Parcel}
use Rattle.qm_proto.specs.declared.Act.{Act}
use Rattle.qm_proto.specs.Model.State.{Tables, no_parcel, wire_of}
use Rattle.qm_proto.specs.Model.Acts.{list_of}
use Rattle.qm_proto.specs.Model.Rows.{current, letter, few_if}
use Rattle.qm_safety.specs.Tables.Lines.{row_at, acts_of}
use Rattle.qm_simulation.specs.Following.Debts.{far_counted}
use Rattle.qm_simulation.proofs.Following.SeenLaws.{filled_last}
use Rattle.qm_simulation.proofs.Following.UndoLinks.{touches, letters_quiet}
use Rattle.qm_simulation.proofs.Following.Opens.{IsLast}

-- ---- how many parcels of a lane have their bits
abbrev pub one_if : Bool → ℕ
one_if true = 1
one_if false = 0

abbrev pub filled_in : List Parcel → ℕ
filled_in [] = 0
filled_in (x ∷ xs) = one_if (is_some x.bits) + filled_in xs

pub filled_in-push : (xs : List Parcel) (x : Parcel) → filled_in (xs ++ x ∷ []) ≡ filled_in xs + one_if (is_some x.bits)
filled_in-push [] x = omega arith
filled_in-push (y ∷ xs) x = let e = filled_in-push xs x in omega arith

pub filled_in-drop : (xs : List Parcel) → is_some (slice_index_or xs 0 no_parcel).bits ≡ true → filled_in (drop 1 xs) + 1 ≡ filled_in xs
filled_in-drop [] h = absurd (let n : ⊥ = cc in n)
filled_in-drop (x ∷ xs) h = let e : one_if (is_some x.bits) ≡ 1 = ap one_if h in omega arith

pub filled_in-told : (xs : List Parcel) (x : Parcel) (b : Bool × Bool) → IsLast xs x → x.bits ≡ None → filled_in (filled xs b) ≡ filled_in xs + 1
filled_in-told xs x b last none =
    let a : filled_in (filled xs b) ≡ filled_in (last.front ++ record x { bits = Some b } ∷ []) = ap (λ ys. filled_in (filled ys b)) last.is ∙ ap filled_in (filled_last last.front x b) in
    let c = filled_in-push last.front (record x { bits = Some b }) in
    let d : filled_in xs ≡ filled_in last.front + 0 = ap filled_in last.is ∙ filled_in-push last.front x ∙ ap (λ (o : Option (Bool × Bool)). filled_in last.front + one_if (is_some o)) none in
    omega arith

pub length-drop_some : (xs : List Parcel) → is_some (slice_index_or xs 0 no_parcel).bits ≡ true → length (drop 1 xs) + 1 ≡ length xs
length-drop_some [] h = absurd (let n : ⊥ = cc in n)
length-drop_some (x ∷ xs) h = omega arith

pub filled_there : (xs : List Parcel) (x : Parcel) → Contains xs x → is_some x.bits ≡ true → 0 < filled_in xs
filled_there [] x (k, below, is) bits = absurd (omega arith)
filled_there (y ∷ ys) x h bits =
    ⊎_elim (λ (one : Contains (y ∷ []) x). first one) (λ (later : Contains ys x). let low = filled_there ys x later bits in omega arith)
    (split y ys x h)
  where
    split : (y : Parcel) (ys : List Parcel) (x : Parcel) → Contains (y ∷ ys) x → Contains (y ∷ []) x ⊎ Contains ys x
    split y ys x (zero, below, is) = inl (0, omega arith, is)
    split y ys x (suc k, below, is) = inr (k, omega arith, is)

    first : Contains (y ∷ []) x → 0 < one_if (is_some y.bits) + filled_in ys
    first (k, below, is) =
        let low : k ≡ 0 = omega arith in
        let same : x ≡ y = sym is ∙ ap (λ j. slice_index_or (y ∷ []) j x) low in
        let one : one_if (is_some y.bits) ≡ 1 = ap (λ (z : Parcel). one_if (is_some z.bits)) (sym same) ∙ ap one_if bits in
        omega arith

-- ---- where the two ranks stand
-- a rank waits for the answer of rank b
abbrev pub waits_at : ℕ → ℕ → Option Instr → ℕ → Bool
waits_at b tag (Some (instr.ReachTo q to g)) s = nat_eq s 3 && (nat_eq to b && nat_eq g tag)
waits_at b tag _ s = false

-- a rank holds the half that it took from rank a
abbrev pub takes_at : ℕ → ℕ → Option Instr → ℕ → Bool
takes_at a tag (Some (instr.ReachFrom q from g)) s = nat_lt 0 s && (nat_eq from a && nat_eq g tag)
takes_at a tag _ s = false

-- a reach is with one of its two ranks or on its way, while the first rank waits, and else there is none
pub record IsChained (p : Programs) (t : Tables) (a b tag : ℕ) : Type 0 where
  pub count : (filled_in (t.lanes (lane a b kind.Reach tag)) + length (t.lanes (lane b a kind.Back tag)))
      + one_if (takes_at a tag (current p t b) (t.parts b).stage) ≡ one_if (waits_at b tag (current p t a) (t.parts a).stage)
  pub named : (x : Parcel) → Contains (t.lanes (lane a b kind.Reach tag)) x → is_some x.bits ≡ true → wire_of x ≡ far_counted a (t.parts a)
  pub taken : takes_at a tag (current p t b) (t.parts b).stage ≡ true → wire_of (t.parts b).taken ≡ far_counted a (t.parts a)

-- ---- instructions that have nothing to do with reaches
abbrev pub is_reach : Instr → Bool
is_reach (instr.ReachTo q to tag) = true
is_reach (instr.ReachFrom q from tag) = true
is_reach _ = false

pub record IsReachless (acts : List Act) : Type 0 where
  pub there : touches kind.Reach acts ≡ false
  pub back : touches kind.Back acts ≡ false

letters_reachless : (b : Bool) (l : Letter) → IsReachless (list_of (few_if b (letter l)))
letters_reachless b l = record { there = letters_quiet kind.Reach b l; back = letters_quiet kind.Back b l }

pub reachless : (p : Programs) (t : Tables) (r : ℕ) (i : Instr) (s : ℕ) → is_reach i ≡ false → IsReachless (acts_of (row_at p t r i s))
reachless p t r (instr.ReachTo q to tag) s e = cc
reachless p t r (instr.ReachFrom q from tag) s e = cc
reachless p t r (instr.CopyTo q to tag) zero e = record { there = refl; back = refl }
reachless p t r (instr.CopyTo q to tag) (suc zero) e = record { there = refl; back = refl }
reachless p t r (instr.CopyTo q to tag) (suc (suc zero)) e = record { there = refl; back = refl }
reachless p t r (instr.CopyTo q to tag) (suc (suc (suc s))) e = record { there = refl; back = refl }
reachless p t r (instr.CopyFrom q from tag) zero e = record { there = refl; back = refl }
reachless p t r (instr.CopyFrom q from tag) (suc zero) e = letters_reachless _ _
reachless p t r (instr.CopyFrom q from tag) (suc (suc s)) e = record { there = refl; back = refl }
reachless p t r (instr.UndoTo q to tag) zero e = record { there = refl; back = refl }
reachless p t r (instr.UndoTo q to tag) (suc zero) e = record { there = refl; back = refl }
reachless p t r (instr.UndoTo q to tag) (suc (suc s)) e = record { there = refl; back = refl }
reachless p t r (instr.UndoFrom q from tag) zero e = record { there = refl; back = refl }
reachless p t r (instr.UndoFrom q from tag) (suc zero) e = letters_reachless _ _
reachless p t r (instr.UndoFrom q from tag) (suc (suc s)) e = record { there = refl; back = refl }
reachless p t r (instr.MoveTo q to tag) zero e = record { there = refl; back = refl }
reachless p t r (instr.MoveTo q to tag) (suc zero) e = record { there = refl; back = refl }
reachless p t r (instr.MoveTo q to tag) (suc (suc zero)) e = record { there = refl; back = refl }
reachless p t r (instr.MoveTo q to tag) (suc (suc (suc zero))) e = record { there = refl; back = refl }
reachless p t r (instr.MoveTo q to tag) (suc (suc (suc (suc zero)))) e = record { there = refl; back = refl }
reachless p t r (instr.MoveTo q to tag) (suc (suc (suc (suc (suc s))))) e = record { there = refl; back = refl }
reachless p t r (instr.MoveFrom q from tag) zero e = record { there = refl; back = refl }
reachless p t r (instr.MoveFrom q from tag) (suc zero) e = letters_reachless _ _
reachless p t r (instr.MoveFrom q from tag) (suc (suc zero)) e = letters_reachless _ _
reachless p t r (instr.MoveFrom q from tag) (suc (suc (suc s))) e = record { there = refl; back = refl }
reachless p t r (instr.When b g) zero e = letters_reachless _ _
reachless p t r (instr.When b g) (suc s) e = record { there = refl; back = refl }
reachless p t r _ zero e = record { there = refl; back = refl }
reachless p t r _ (suc s) e = record { there = refl; back = refl }

pub not_reaching : (i : Instr) (a b tag s : ℕ) → is_reach i ≡ false → (waits_at b tag (Some i) s ≡ false) × (takes_at a tag (Some i) s ≡ false)
not_reaching (instr.ReachTo q to tag') a b tag s e = cc
not_reaching (instr.ReachFrom q from tag') a b tag s e = cc
not_reaching _ a b tag s e = (refl, refl)
