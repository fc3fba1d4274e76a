-- What the lines of the table do to lanes, and what they wait for: the same at all tables
use Rattle.std.proofs.Common.{◌≡◌, ℕ, zero, suc, Bool, true, false, List, [], ◌∷◌, map, Some, slice_get, refl, ap, ap₂, subst}
use Rattle.std.proofs.lemmas.Option.{same_Some}
use Rattle.qm_denot.specs.declared.Letter.{Letter}
use Rattle.qm_instr.specs.declared.Instr.{Instr}
use Rattle.qm_instr.specs.declared.Instr.TheVariants as instr
use Rattle.qm_instr.specs.declared.Kind.TheVariants as kind
use Rattle.qm_instr.specs.declared.Lane.{Lane}
use Rattle.qm_instr.specs.Lanes.{lane, is_lane}
use Rattle.qm_instr.specs.Programs.{Programs}
use Rattle.qm_instr.proofs.LaneOrder.{same_lane}
use Rattle.qm_proto.specs.declared.Rule.{Rule}
use Rattle.qm_proto.specs.declared.Rule.TheVariants.{Always, PairRoom, Engaged, Filled}
use Rattle.qm_proto.specs.Model.State.{Tables}
use Rattle.qm_proto.specs.Model.Acts.{list_of}
use Rattle.qm_proto.specs.Model.Rows.{rows, letter, few_if}
use Rattle.qm_proto.specs.Model.Runs.{receives_on}
use Rattle.qm_confluence.specs.Stuck.Shapes.{Move, Puts, Tells, Gets, moves, Shape, shape, shape_of, still_shape, shapes}

-- letters move no lane
pub none_moves : (b : Bool) (l : Letter) → moves (list_of (few_if b (letter l))) ≡ []
none_moves true l = refl
none_moves false l = refl

-- the lines of an instruction have its shapes
pub rows_shapes : (p : Programs) (t : Tables) (r : ℕ) (i : Instr) → map shape_of (rows p t r i) ≡ shapes r i
rows_shapes p t r (instr.When b g) = ap (λ ms. shape Always ms ∷ []) (none_moves _ _)
rows_shapes p t r (instr.CopyFrom q from tag) =
    let a = lane from r kind.Copy tag in ap (λ ms. shape (Filled a) (Gets a ∷ []) ∷ shape Always ms ∷ []) (none_moves _ _)
rows_shapes p t r (instr.UndoFrom q from tag) =
    let a = lane from r kind.Undo tag in ap (λ ms. shape (Filled a) (Gets a ∷ []) ∷ shape Always ms ∷ []) (none_moves _ _)
rows_shapes p t r (instr.MoveFrom q from tag) =
    let a = lane from r kind.Move tag in
    ap₂ (λ ms ns. shape (Filled a) (Gets a ∷ []) ∷ shape Always ms ∷ shape Always ns ∷ []) (none_moves _ _) (none_moves _ _)
rows_shapes p t r (instr.ReachTo q to tag) =
    let a = lane r to kind.Reach tag in
    let back = lane to r kind.Back tag in
    ap (λ ms. shape (PairRoom a) (Puts a false ∷ []) ∷ still_shape ∷ shape Always (Tells a ∷ []) ∷ shape (Filled back) (Gets back ∷ []) ∷ shape Always ms ∷ []) (none_moves _ _)
rows_shapes p t r (instr.ReachFrom q from tag) =
    let a = lane from r kind.Reach tag in
    let back = lane r from kind.Back tag in
    ap (λ ms. shape (Filled a) (Gets a ∷ []) ∷ shape Always ms ∷ still_shape ∷ still_shape ∷ shape Always (Puts back true ∷ []) ∷ []) (none_moves _ _)
rows_shapes p t r (instr.Alloc q) = refl
rows_shapes p t r (instr.Do g) = refl
rows_shapes p t r (instr.Free q) = refl
rows_shapes p t r (instr.Measure q b) = refl
rows_shapes p t r (instr.Set b v) = refl
rows_shapes p t r (instr.Xor b c) = refl
rows_shapes p t r (instr.SendBit b to tag) = refl
rows_shapes p t r (instr.RecvBit b from tag) = refl
rows_shapes p t r (instr.CopyTo q to tag) = refl
rows_shapes p t r (instr.UndoTo q to tag) = refl
rows_shapes p t r (instr.MoveTo q to tag) = refl

-- ---- the lanes of a rule and of a move are the rank's own, and a parcel is taken only where the rule asks for it
abbrev pub RuleFits : ℕ → Rule → Type 0
RuleFits r Always = Unit {0}
RuleFits r (PairRoom a) = a.from ≡ r
RuleFits r (Engaged a) = a.from ≡ r
RuleFits r (Filled a) = a.to ≡ r

abbrev pub PutsFit : ℕ → List Move → Type 0
PutsFit r [] = Unit {0}
PutsFit r (Puts a b ∷ ms) = (a.from ≡ r) × PutsFit r ms
PutsFit r (Tells a ∷ ms) = (a.from ≡ r) × PutsFit r ms
PutsFit r (Gets a ∷ ms) = ⊥

-- so at most one is taken, first
abbrev pub MovesFit : ℕ → Rule → List Move → Type 0
MovesFit r rule [] = Unit {0}
MovesFit r rule (Puts a b ∷ ms) = (a.from ≡ r) × PutsFit r ms
MovesFit r rule (Tells a ∷ ms) = (a.from ≡ r) × PutsFit r ms
MovesFit r rule (Gets a ∷ ms) = (a.to ≡ r) × (rule ≡ Filled a) × PutsFit r ms

pub record Fits (r : ℕ) (h : Shape) : Type 0 where
  pub rule : RuleFits r h.rule
  pub moves : MovesFit r h.rule h.moves

abbrev AllFit : ℕ → List Shape → Type 0
AllFit r [] = Unit {0}
AllFit r (h ∷ hs) = Fits r h × AllFit r hs

still_fits : (r : ℕ) → Fits r still_shape
still_fits r = record { rule = tt; moves = tt }

all_fit : (r : ℕ) (i : Instr) → AllFit r (shapes r i)
all_fit r (instr.SendBit b to tag) = (record { rule = tt; moves = (refl, tt) }, tt)
all_fit r (instr.RecvBit b from tag) = (record { rule = refl; moves = (refl, refl, tt) }, tt)
all_fit r (instr.CopyTo q to tag) = (record { rule = refl; moves = (refl, tt) }, (still_fits r, (record { rule = tt; moves = (refl, tt) }, tt)))
all_fit r (instr.CopyFrom q from tag) = (record { rule = refl; moves = (refl, refl, tt) }, (still_fits r, tt))
all_fit r (instr.UndoTo q to tag) = (record { rule = refl; moves = tt }, (record { rule = tt; moves = (refl, tt) }, tt))
all_fit r (instr.UndoFrom q from tag) = (record { rule = refl; moves = (refl, refl, tt) }, (still_fits r, tt))
all_fit r (instr.MoveTo q to tag) =
    (record { rule = refl; moves = (refl, tt) }, (still_fits r, (still_fits r, (still_fits r, (record { rule = tt; moves = (refl, tt) }, tt)))))
all_fit r (instr.MoveFrom q from tag) = (record { rule = refl; moves = (refl, refl, tt) }, (still_fits r, (still_fits r, tt)))
all_fit r (instr.ReachTo q to tag) =
    (record { rule = refl; moves = (refl, tt) }, (still_fits r, (record { rule = tt; moves = (refl, tt) }, (record { rule = refl; moves = (refl, refl, tt) }, (still_fits r, tt)))))
all_fit r (instr.ReachFrom q from tag) =
    (record { rule = refl; moves = (refl, refl, tt) }, (still_fits r, (still_fits r, (still_fits r, (record { rule = tt; moves = (refl, tt) }, tt)))))
all_fit r _ = (still_fits r, tt)

fit_at : (r : ℕ) (hs : List Shape) → AllFit r hs → (k : ℕ) (h : Shape) → slice_get hs k ≡ Some h → Fits r h
fit_at r [] fit k h e = cc
fit_at r (x ∷ hs) fit zero h e = subst (Fits r) (same_Some x h e) fit.0
fit_at r (x ∷ hs) fit (suc k) h e = fit_at r hs fit.1 k h e

pub fits : (r : ℕ) (i : Instr) (k : ℕ) (h : Shape) → slice_get (shapes r i) k ≡ Some h → Fits r h
fits r i k h e = fit_at r (shapes r i) (all_fit r i) k h e

-- the first line of a receive takes from its lane
pub record FirstGets (r : ℕ) (i : Instr) (a : Lane) : Type 0 where
  pub rule : Rule
  pub first : slice_get (shapes r i) 0 ≡ Some (shape rule (Gets a ∷ []))

gets : (r : ℕ) (i : Instr) (a b : Lane) (rule : Rule) → slice_get (shapes r i) 0 ≡ Some (shape rule (Gets b ∷ [])) → is_lane b a ≡ true → FirstGets r i a
gets r i a b rule e same = record { rule = rule; first = subst (λ c. slice_get (shapes r i) 0 ≡ Some (shape rule (Gets c ∷ []))) (same_lane b a same) e }

pub first_gets : (r : ℕ) (i : Instr) (a : Lane) → receives_on r (Some i) a ≡ true → FirstGets r i a
first_gets r (instr.RecvBit b from tag) a e = gets r (instr.RecvBit b from tag) a _ _ refl e
first_gets r (instr.CopyFrom q from tag) a e = gets r (instr.CopyFrom q from tag) a _ _ refl e
first_gets r (instr.UndoFrom q from tag) a e = gets r (instr.UndoFrom q from tag) a _ _ refl e
first_gets r (instr.MoveFrom q from tag) a e = gets r (instr.MoveFrom q from tag) a _ _ refl e
first_gets r (instr.ReachFrom q from tag) a e = gets r (instr.ReachFrom q from tag) a _ _ refl e
first_gets r _ a e = cc
