-- Wires, and finite sets of wires
use Rattle.std.specs.Prelude.{ℕ, Bool, true, false, not, nat_eq}
use Rattle.std.specs.Ordering.{nat_cmp, bool_cmp, then_cmp, on, eq_by_cmp}
use Rattle.std.specs.declared.cmp.Ordering.{Ordering}
use Rattle.std.specs.FinSet as set
use Rattle.qm_denot.specs.declared.Wire.{Wire}

-- wires in order: by rank, then by number, then far before near
abbrev pub wire_cmp : Wire → Wire → Ordering
wire_cmp = then_cmp (on (λ w. w.rank) nat_cmp) (then_cmp (on (λ w. w.made) nat_cmp) (on (λ w. w.near) bool_cmp))

-- whether v is w
unfoldable pub is_wire : Wire → Wire → Bool
is_wire v w = eq_by_cmp wire_cmp v w

-- a finite set of wires: those that are one
abbrev pub Wires : Type 0
Wires = set.FinSet wire_cmp

-- the empty set: no wire is one
abbrev pub no_wires : Wires
no_wires = set.empty

-- whether w is in x
unfoldable pub has : Wires → Wire → Bool
has x w = set.contains x w

-- x with w as b: with w in it where b is true, and without w where b is false
unfoldable pub put : Wires → Wire → Bool → Wires
put x w true = set.insert x w
put x w false = set.remove x w

-- x with w toggled
abbrev pub toggled : Wires → Wire → Wires
toggled x w = put x w (not (has x w))

-- how many wires are one
unfoldable pub how_many : Wires → ℕ
how_many x = set.len x

-- whether no wire is one
unfoldable pub is_empty : Wires → Bool
is_empty x = nat_eq (set.len x) 0
