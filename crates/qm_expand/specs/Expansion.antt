-- The expansion of a source tree to the programs of all ranks. A part's first token has a number, for the lines of its faults
use Rattle.std.specs.Prelude.{ℕ, zero, suc, ◌+◌, ℤ, pos, negsuc, ◌+ℤ◌, ◌-ℤ◌, nat_lt, Bool, ◌&&◌, if◌then◌else◌, List, [], ◌∷◌, ◌++◌, length, replicate, slice_index, Option, Some, None, Ok, Err}
use Rattle.qm_limits.specs.declared.TheConstants.{SLOTS}
use Rattle.qm_instr.specs.declared.Gate.{Gate}
use Rattle.qm_instr.specs.declared.Instr.{Instr}
use Rattle.qm_instr.specs.declared.Instr.TheVariants as instr
use Rattle.qm_instr.specs.Programs.{Programs, RankProgram, idle_rank, rank_of}
use Rattle.qm_collect.specs.Table.{instructions_at, root_of, slots_of}
use Rattle.qm_tree.specs.Trees as tree
use Rattle.qm_parse.specs.declared.words.Version.{Version}
use Rattle.qm_parse.specs.declared.words.Version.TheVariants as version
use Rattle.qm_parse.specs.Words.{version_number}
use Rattle.qm_parse.specs.Nodes.{head_tokens}
use Rattle.qm_parse.specs.Trees.{Call, Body, Nothing, Then, Stmt, Do, DoUnder, For, Blocks, ForAll, ForEach, TapeLine, Program}
use Rattle.qm_parse.specs.Spelling.{expr_signs, stmt_signs, body_signs}
use Rattle.qm_expand.specs.declared.joint.Joint.{Joint}
use Rattle.qm_expand.specs.declared.joint.Joint.TheVariants.{Flat, Tree}
use Rattle.qm_expand.specs.declared.made.Operation.{Operation}
use Rattle.qm_expand.specs.declared.made.Operation.TheVariants as operation
use Rattle.qm_expand.specs.Steps.{Outcome, ◌>>=◌, OutOfRange}
use Rattle.qm_expand.specs.Values.{Scope, expr_value, call_values}
use Rattle.qm_expand.specs.Table.{made, gate_made}
use Rattle.qm_expand.specs.Drafts.{Draft, draft, all_below, with_each, with_turn, with_outcomes}

-- the line of each token, by its number
abbrev pub Lines : Type 0
Lines = ℕ → ℕ

-- ---- instructions
-- a call's root is one of the ranks, and a collective's slots are ones that a rank may have (its operands were tested one by one before)
abbrev pub can_be_called : ℕ → Joint → Bool
can_be_called ranks (Flat c) = nat_lt (root_of c) ranks && all_below SLOTS (slots_of c)
can_be_called ranks (Tree c) = nat_lt c.root ranks

-- a rank's part of a call
abbrev pub part_of : Joint → (rank ranks : ℕ) → List Instr
part_of (Flat c) rank ranks = instructions_at c rank ranks
part_of (Tree c) rank ranks = tree.instructions_at c rank ranks

-- the instructions of an operation at a rank
abbrev pub instructions_made : ℕ → Scope → Operation → Outcome (List Instr)
instructions_made line s (operation.Core i) = Ok (i ∷ [])
instructions_made line s (operation.Shared c) =
    if can_be_called s.ranks c then Ok (part_of c s.rank s.ranks) else Err (OutOfRange line)
instructions_made line s operation.Nothing = Ok []

-- a gate under a bit
abbrev pub under : ℕ → Option Gate → List Instr
under b None = []
under b (Some g) = instr.When b g ∷ []

-- a draft with an operation's instructions at a rank
abbrev pub with_made_by : ℕ → Scope → Draft → Operation → Outcome Draft
with_made_by line s d m = instructions_made line s m >>= λ is. with_each line s.rank is d

-- an instruction or a collective: first all its operands, then what it makes
abbrev pub done : ℕ → Scope → Call → Draft → Outcome Draft
done line s c d =
    call_values line s c >>= λ v. with_made_by line s d (made c.verb.action (slice_index v.small) (slice_index v.wide))

abbrev pub done_under : ℕ → Scope → (call gate : Call) → Draft → Outcome Draft
done_under line s c g d =
    call_values line s c >>= λ v. call_values line s g
    >>= λ u. with_each line s.rank (under (slice_index v.small 0) (gate_made g.verb.action (slice_index u.small))) d

-- ---- loops
-- how many numbers there are from the first up to the one before the end
abbrev pub natural : ℤ → ℕ
natural (pos n) = n
natural (negsuc n) = 0

abbrev pub turn_count : ℤ → ℤ → ℕ
turn_count first end = natural (end -ℤ first)

-- so many turns from i on, each counted before its body
abbrev pub each_turn : ℕ → (ℤ → Draft → Outcome Draft) → ℕ → ℤ → Draft → Outcome Draft
each_turn line body zero i d = Ok d
each_turn line body (suc n) i d = with_turn line d >>= λ e. body i e >>= λ f. each_turn line body n (i +ℤ pos 1) f

-- what the body of a loop knows: the loop's name hides those around it
abbrev pub inside : Scope → List ℕ → ℤ → Scope
inside s name i = record s { names = s.names ++ record { name = name; value = i } ∷ [] }

abbrev mutual
  pub body_expanded : Lines → Scope → (at : ℕ) → Body → Draft → Outcome Draft
  body_expanded lines s at Nothing d = Ok d
  body_expanded lines s at (Then first more) d =
      stmt_expanded lines s at first d >>= λ e. body_expanded lines s (at + length (stmt_signs first)) more e

  pub stmt_expanded : Lines → Scope → (at : ℕ) → Stmt → Draft → Outcome Draft
  stmt_expanded lines s at (Do c) d = done (lines at) s c d
  stmt_expanded lines s at (DoUnder c g) d = done_under (lines at) s c g d
  stmt_expanded lines s at (For name a b body) d =
      expr_value (lines at) s a >>= λ first. expr_value (lines at) s b
      >>= λ end. each_turn (lines at)
      (λ i e. body_expanded lines (inside s name i) (at + 5 + length (expr_signs a) + length (expr_signs b)) body e)
      (turn_count first end) first d

-- ---- ranks
-- the body of a rank, which has slots of its own
abbrev pub rank_scope : Programs → ℕ → Scope
rank_scope p rank = record { rank = rank; ranks = length p.ranks; qubits = (rank_of p rank).qubits; names = [] }

abbrev pub rank_expanded : Lines → ℕ → (at : ℕ) → Body → Draft → Outcome Draft
rank_expanded lines rank at body d = body_expanded lines (rank_scope d.programs rank) at body d

-- one body for each of so many ranks, from this one on
abbrev pub same_expanded : Lines → (at : ℕ) → Body → ℕ → ℕ → Draft → Outcome Draft
same_expanded lines at body zero rank d = Ok d
same_expanded lines at body (suc n) rank d = rank_expanded lines rank at body d >>= λ e. same_expanded lines at body n (rank + 1) e

-- a body of its own for each rank from this one on
abbrev pub each_expanded : Lines → (at : ℕ) → List Body → ℕ → Draft → Outcome Draft
each_expanded lines at [] rank d = Ok d
each_expanded lines at (b ∷ bs) rank d =
    rank_expanded lines rank (at + 2) b d >>= λ e. each_expanded lines (at + 3 + length (body_signs b)) bs (rank + 1) e

abbrev pub blocks_expanded : Lines → (at ranks : ℕ) → Blocks → Draft → Outcome Draft
blocks_expanded lines at ranks (ForAll body) d = same_expanded lines (at + 1) body ranks 0 d
blocks_expanded lines at ranks (ForEach bodies) d = each_expanded lines at bodies 0 d

-- lines for one tape are joined in their order
abbrev pub with_tapes : List TapeLine → Programs → Programs
with_tapes [] p = p
with_tapes (t ∷ ts) p = with_tapes ts (with_outcomes t.own t.rank t.outcomes p)

-- the sizes of the ranks, where these are written: in version 1 one number is that of every rank, in version 2 each rank has its own
abbrev pub by_rank : Version → ℕ → List ℕ → List ℕ
by_rank version.One ranks sizes = replicate ranks (slice_index sizes 0)
by_rank version.Two ranks sizes = sizes

-- ranks with these slots and these buffers, and without instructions
abbrev pub sized_ranks : (qubits buffers : List ℕ) → List RankProgram
sized_ranks [] bs = []
sized_ranks (q ∷ qs) [] = []
sized_ranks (q ∷ qs) (b ∷ bs) = record idle_rank { qubits = q; buffer = b } ∷ sized_ranks qs bs

-- so many ranks of a version, where these sizes are written
abbrev pub sized_programs : Version → ℕ → (qubits buffers : List ℕ) → Programs
sized_programs v ranks qubits buffers = record {
  version = version_number v;
  ranks = sized_ranks (by_rank v ranks qubits) (by_rank v ranks buffers);
}

-- all ranks with their sizes, and without instructions
abbrev pub sized : Program → Programs
sized p = sized_programs p.version p.ranks p.qubits p.buffers

-- the programs of all ranks, or the first fault
abbrev pub expanded : Lines → Program → Outcome Programs
expanded lines p =
    blocks_expanded lines (head_tokens p) p.ranks p.blocks (draft (sized p) 0) >>= λ d. Ok (with_tapes p.tapes d.programs)
