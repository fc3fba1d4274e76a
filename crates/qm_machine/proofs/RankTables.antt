-- The tables that a list of ranks means, where one rank is changed
use Rattle.std.proofs.Common.{◌≡◌, ◌≢◌, ℕ, zero, suc, ◌<◌, List, [], ◌∷◌, Option, Some, slice_get, slice_set, slice_index_or, length, refl, sym, ap, ◌∙◌, arith}
use Rattle.std.proofs.lemmas.Option.{slice_get_read}
use mathlib.Core.Path.{fun_ext}
use Rattle.qm_denot.specs.declared.Wire.{Wire}
use Rattle.qm_denot.specs.Wires.{Wires}
use Rattle.qm_instr.specs.declared.Lane.{Lane}
use Rattle.qm_denot.specs.declared.Parcel.{Parcel}
use Rattle.qm_proto.specs.Model.State.{Part, Tables, with_at, with_part}
use Rattle.qm_proto.proofs.Changes.{by_rank}
use Rattle.qm_machine.specs.declared.rank.Rank.{Rank}
use Rattle.qm_machine.specs.declared.books.Books.{Books}
use Rattle.qm_machine.specs.Views.{part_of, part_in, part_at, mail_of, tables_of, tables, rank_count}

-- ---- tables are equal where their fields are
abbrev tables_by : (ℕ → Part) → (ℕ → ℕ → Option Wire) → (ℕ → Wires) → (ℕ → Wires) → (ℕ → ℕ) → (Lane → List Parcel) → Tables
tables_by parts slots near far held lanes = record { parts = parts; slots = slots; near = near; far = far; held = held; lanes = lanes }

pub same_tables : (t u : Tables) → t.parts ≡ u.parts → t.slots ≡ u.slots → t.near ≡ u.near → t.far ≡ u.far → t.held ≡ u.held
    → t.lanes ≡ u.lanes → t ≡ u
same_tables t u parts slots near far held lanes =
    ap (λ (x : ℕ → Part). tables_by x t.slots t.near t.far t.held t.lanes) parts
    ∙ ap (λ (x : ℕ → ℕ → Option Wire). tables_by u.parts x t.near t.far t.held t.lanes) slots
    ∙ ap (λ (x : ℕ → Wires). tables_by u.parts u.slots x t.far t.held t.lanes) near
    ∙ ap (λ (x : ℕ → Wires). tables_by u.parts u.slots u.near x t.held t.lanes) far
    ∙ ap (λ (x : ℕ → ℕ). tables_by u.parts u.slots u.near u.far x t.lanes) held
    ∙ ap (λ (x : Lane → List Parcel). tables_by u.parts u.slots u.near u.far u.held x) lanes

-- ---- a list of ranks
-- the rank that was read
pub part_read : (ranks : List Rank) (i r : ℕ) (x : Rank) → i ≡ r → r < length ranks → x ≡ slice_index_or ranks i x → part_of x ≡ part_at ranks r
part_read ranks i r x at below is =
    let read : x ≡ slice_index_or ranks r x = is ∙ ap (λ j. slice_index_or ranks j x) at in
    ap part_in (sym (slice_get_read ranks (length ranks) r x refl below read))

get_here : (ranks : List Rank) (r : ℕ) (x : Rank) → r < length ranks → slice_get (slice_set ranks r x) r ≡ Some x
get_here [] r x below = absurd (omega arith)
get_here (y ∷ ranks) zero x below = refl
get_here (y ∷ ranks) (suc r) x below = get_here ranks r x (omega arith)

get_elsewhere : (ranks : List Rank) (r k : ℕ) (x : Rank) → k ≢ r → slice_get (slice_set ranks r x) k ≡ slice_get ranks k
get_elsewhere [] r k x ne = refl
get_elsewhere (y ∷ ranks) zero zero x ne = absurd (ne refl)
get_elsewhere (y ∷ ranks) zero (suc k) x ne = refl
get_elsewhere (y ∷ ranks) (suc r) zero x ne = refl
get_elsewhere (y ∷ ranks) (suc r) (suc k) x ne = get_elsewhere ranks r k x (λ e. ne (ap suc e))

-- the parts where one rank is another
parts_set : (ranks : List Rank) (r : ℕ) (x : Rank) → r < length ranks → part_at (slice_set ranks r x) ≡ with_at (part_at ranks) r (part_of x)
parts_set ranks r x below =
    fun_ext (λ k. by_rank (λ v. part_at (slice_set ranks r x) k ≡ v) (part_at ranks) r (part_of x) k
    (λ e. ap (part_at (slice_set ranks r x)) e ∙ ap part_in (get_here ranks r x below))
    (λ ne. ap part_in (get_elsewhere ranks r k x ne)))

-- a rank that was read at i, and changed
pub parts_changed : (ranks : List Rank) (i r : ℕ) (old new : Rank) (change : Part → Part) → i ≡ r → r < length ranks
    → old ≡ slice_index_or ranks i old → part_of new ≡ change (part_of old)
    → part_at (slice_set ranks i new) ≡ with_at (part_at ranks) r (change (part_at ranks r))
parts_changed ranks i r old new change at below is changed =
    ap (λ j. part_at (slice_set ranks j new)) at
    ∙ parts_set ranks r new below
    ∙ ap (λ (x : Part). with_at (part_at ranks) r x) (changed ∙ ap change (part_read ranks i r old at below is))

-- the tables of books in which that rank is changed
pub tables_changed : (b : Books) (i r : ℕ) (old new : Rank) (change : Part → Part) → i ≡ r → r < rank_count b
    → old ≡ slice_index_or b.ranks.items i old → part_of new ≡ change (part_of old)
    → tables_of (slice_set b.ranks.items i new) b.places.placed b.halves (mail_of b.mail)
    ≡ with_part (tables b) r (change ((tables b).parts r))
unfolding tables
tables_changed b i r old new change at below is changed =
    let with : (ℕ → Part) → Tables = λ parts. let t = tables b in record t { parts = parts } in
    ap with (parts_changed b.ranks.items i r old new change at below is changed)
