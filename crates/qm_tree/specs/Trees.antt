-- The tree of the ranks, and which instructions each rank does along it
use Rattle.std.specs.Prelude.{◌≢◌, ◌≡◌, ℕ, zero, suc, ◌+◌, ◌-◌, ◌*◌, ◌/◌, ◌%◌, nat_eq, nat_lt, List, [], ◌∷◌, ◌++◌, map, filter, if◌then◌else◌}
use Rattle.qm_instr.specs.declared.Instr.{Instr}
use Rattle.qm_instr.specs.declared.Instr.TheVariants as instr
use Rattle.qm_tree.specs.declared.TreeCall.{TreeCall}
use Rattle.qm_tree.specs.declared.TreeOp.{TreeOp}
use Rattle.qm_tree.specs.declared.TreeOp.TheVariants.{Cast, Uncast}

-- ---- the tree
-- how far a rank is behind the root, cyclically: its place in the tree, which at the root is 0
abbrev pub place : (rank root ranks : ℕ) → ℕ
place rank root ranks = (rank + ranks - root) % ranks

-- the rank at a place
abbrev pub rank_at : (v root ranks : ℕ) → ℕ
rank_at v root ranks = (v + root) % ranks

-- the place above a place other than 0
abbrev pub place_above : ℕ → ℕ
place_above v = (v - 1) / 2

-- the places below a place, the lower one first
abbrev pub places_below : (v ranks : ℕ) → List ℕ
places_below v ranks = filter (λ c. nat_lt c ranks) ((2 * v + 1) ∷ (2 * v + 2) ∷ [])

-- the rank from which a rank other than the root gets its copy
abbrev pub parent : (rank root ranks : ℕ) → ℕ
parent rank root ranks = rank_at (place_above (place rank root ranks)) root ranks

-- the same in a list, which is empty at the root
abbrev pub parents : (rank root ranks : ℕ) → List ℕ
parents rank root ranks = if nat_eq (place rank root ranks) 0 then [] else parent rank root ranks ∷ []

-- the ranks that get their copies from a rank, in the order of their places
abbrev pub children : (rank root ranks : ℕ) → List ℕ
children rank root ranks = map (λ c. rank_at c root ranks) (places_below (place rank root ranks) ranks)

-- a place is so many copies from the root
abbrev pub IsDepth : (v depth : ℕ) → Type 0
IsDepth v zero = v ≡ 0
IsDepth v (suc d) = (v ≢ 0) × IsDepth (place_above v) d

-- ---- the instructions
-- a call of all ranks, by its parts
abbrev pub call_of : TreeOp → (q root tag : ℕ) → TreeCall
call_of op q root tag = record { op = op; q = q; root = root; tag = tag }

-- a rank's message with its parent p, and with its child c
abbrev pub with_parent : TreeOp → (q tag p : ℕ) → Instr
with_parent Cast q tag p = instr.CopyFrom q p tag
with_parent Uncast q tag p = instr.UndoTo q p tag

abbrev pub with_child : TreeOp → (q tag c : ℕ) → Instr
with_child Cast q tag c = instr.CopyTo q c tag
with_child Uncast q tag c = instr.UndoFrom q c tag

-- a copy comes down: first from the parent, then to the children. Its undoing goes up: first from the children, then to the parent
abbrev pub in_order : TreeOp → (up down : List Instr) → List Instr
in_order Cast up down = up ++ down
in_order Uncast up down = down ++ up

-- a rank's messages with its parent, of which there is one or none, and with its children
abbrev pub messages_up : TreeCall → (rank ranks : ℕ) → List Instr
messages_up call rank ranks = map (with_parent call.op call.q call.tag) (parents rank call.root ranks)

abbrev pub messages_down : TreeCall → (rank ranks : ℕ) → List Instr
messages_down call rank ranks = map (with_child call.op call.q call.tag) (children rank call.root ranks)

-- the instructions of a rank in a call of so many ranks
abbrev pub instructions_at : TreeCall → (rank ranks : ℕ) → List Instr
instructions_at call rank ranks = in_order call.op (messages_up call rank ranks) (messages_down call rank ranks)
