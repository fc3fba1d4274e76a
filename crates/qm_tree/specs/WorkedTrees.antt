-- Trees of few ranks that were worked out by hand
use Rattle.std.specs.Prelude.{◌≡◌, ℕ, ◌+◌, false, List, [], ◌∷◌}
use Rattle.qm_denot.specs.declared.Wire.{Wire}
use Rattle.qm_denot.specs.declared.Letter.{Letter}
use Rattle.qm_denot.specs.declared.Letter.TheVariants.{Cx, Take}
use Rattle.qm_instr.specs.declared.Instr.{Instr}
use Rattle.qm_instr.specs.declared.Instr.TheVariants.{CopyTo, CopyFrom, UndoTo, UndoFrom}
use Rattle.qm_collect.specs.Letters.{Wiring}
use Rattle.qm_tree.specs.declared.TreeOp.{TreeOp}
use Rattle.qm_tree.specs.declared.TreeOp.TheVariants.{Cast, Uncast}
use Rattle.qm_tree.specs.Trees.{place, rank_at, children, parents, IsDepth, call_of, instructions_at}
use Rattle.qm_tree.specs.Letters.{ComesDown, GoesUp, tree_letters}

-- the list of a rank among five, of which rank 3 is the root: places 0 to 4 are those of the ranks 3, 4, 0, 1 and 2
abbrev pub of_five : TreeOp → ℕ → List Instr
of_five op rank = instructions_at (call_of op 6 3 9) rank 5

pub record WorkedLists : Type 0 where
  pub second_place : place 4 3 5 ≡ 1
  pub last_place : place 2 3 5 ≡ 4
  pub back_again : rank_at 4 3 5 ≡ 2
  pub children_of_root : children 3 3 5 ≡ 4 ∷ 0 ∷ []
  pub children_of_second : children 4 3 5 ≡ 1 ∷ 2 ∷ []
  pub no_children : children 0 3 5 ≡ []
  pub one_child : children 1 0 4 ≡ 3 ∷ []
  pub no_parent : parents 3 3 5 ≡ []
  pub parent_of_last : parents 2 3 5 ≡ 4 ∷ []
  pub cast_at_root : of_five Cast 3 ≡ CopyTo 6 4 9 ∷ CopyTo 6 0 9 ∷ []
  pub cast_between : of_five Cast 4 ≡ CopyFrom 6 3 9 ∷ CopyTo 6 1 9 ∷ CopyTo 6 2 9 ∷ []
  pub cast_at_end : of_five Cast 2 ≡ CopyFrom 6 4 9 ∷ []
  pub uncast_at_root : of_five Uncast 3 ≡ UndoFrom 6 4 9 ∷ UndoFrom 6 0 9 ∷ []
  pub uncast_between : of_five Uncast 4 ≡ UndoFrom 6 1 9 ∷ UndoFrom 6 2 9 ∷ UndoTo 6 3 9 ∷ []
  pub uncast_at_end : of_five Uncast 0 ≡ UndoTo 6 3 9 ∷ []
  pub alone : instructions_at (call_of Cast 6 0 9) 0 1 ≡ []
  pub root_depth : IsDepth 0 0
  pub last_depth : IsDepth 6 2
  pub next_depth : IsDepth 7 3

-- the wire in slot q of rank r, and the one that rank r makes for rank d
abbrev pub held : ℕ → ℕ → Wire
held r q = record { rank = r; made = q; near = false }

abbrev pub made : ℕ → ℕ → Wire
made r d = record { rank = r; made = 20 + d; near = false }

abbrev pub wiring : Wiring
wiring = record { slot = held; sent = made }

-- the letters of a call that all five ranks write alike
abbrev pub letters : TreeOp → List ℕ → List Letter
letters op order = tree_letters wiring 5 (λ r. call_of op 6 3 9) order

pub record WorkedLetters : Type 0 where
  pub cast : letters Cast (4 ∷ 0 ∷ 1 ∷ 2 ∷ [])
      ≡ Cx (held 3 6) (made 3 4) ∷ Cx (held 3 6) (made 3 0) ∷ Cx (held 4 6) (made 4 1) ∷ Cx (held 4 6) (made 4 2) ∷ []
  pub uncast : letters Uncast (2 ∷ 1 ∷ 4 ∷ 0 ∷ [])
      ≡ Cx (held 4 6) (held 2 6) ∷ Take (held 2 6) false ∷ Cx (held 4 6) (held 1 6) ∷ Take (held 1 6) false
      ∷ Cx (held 3 6) (held 4 6) ∷ Take (held 4 6) false ∷ Cx (held 3 6) (held 0 6) ∷ Take (held 0 6) false ∷ []
  pub root_alone : letters Cast (3 ∷ []) ≡ []

-- the ranks but the root in orders that do, and in orders that put a rank on the wrong side of its parent
pub record WorkedOrders : Type 0 where
  pub down : ComesDown 5 3 (4 ∷ 0 ∷ 1 ∷ 2 ∷ [])
  pub before_its_parent : ¬ ComesDown 5 3 (0 ∷ 1 ∷ 2 ∷ 4 ∷ [])
  pub up : GoesUp 5 3 (2 ∷ 1 ∷ 0 ∷ 4 ∷ [])
  pub behind_its_parent : ¬ GoesUp 5 3 (4 ∷ 2 ∷ 1 ∷ 0 ∷ [])
