-- The values of expressions. An expression is evaluated from left to right, and the first fault decides
use Rattle.std.specs.Prelude.{ℕ, ℤ, pos, negsuc, ◌+ℤ◌, ◌-ℤ◌, ◌*ℤ◌, int_div, int_rem, unsigned_abs, nat_le, nat_lt, nat_eq, List, [], ◌∷◌, ◌++◌, fold, if◌then◌else◌, Option, Some, None, Ok, Err}
use Rattle.std.specs.Str.{bytes_eq}
use Rattle.qm_limits.specs.declared.TheConstants.{LARGEST_VALUE, BITS, PEERS, TAGS}
use Rattle.qm_parse.specs.declared.tree.What.{What}
use Rattle.qm_parse.specs.declared.tree.What.TheVariants as what
use Rattle.qm_parse.specs.declared.words.Operand.{Operand}
use Rattle.qm_parse.specs.declared.words.Operand.TheVariants as operand
use Rattle.qm_parse.specs.Trees.{Expr, Sum, Adds, NoAdd, Add, Term, Product, Muls, NoMul, Mul, Prim, Num, Name, Rank, Size, Paren, Call}
use Rattle.qm_parse.specs.Words.{operands_of}
use Rattle.qm_parse.specs.Nodes.{add_what, mul_what}
use Rattle.qm_expand.specs.Steps.{Outcome, ◌>>=◌, UnknownName, OutOfRange}

-- the value of a loop's name in one of its turns
pub record Binding : Type 0 where
  pub name : List ℕ
  pub value : ℤ

-- what an expression knows: the rank that is expanded, the number of ranks, the rank's slots, and the names of the loops around it from
-- the outermost on
pub record Scope : Type 0 where
  pub rank : ℕ
  pub ranks : ℕ
  pub qubits : ℕ
  pub names : List Binding

-- the value of a name, which is that of the innermost loop that has it
abbrev pub bound : List Binding → List ℕ → Option ℤ
bound names name = fold (λ found b. if bytes_eq b.name name then Some b.value else found) None names

-- an intermediate result, which may not leave the range
abbrev pub ranged : ℕ → ℤ → Outcome ℤ
ranged line z = if nat_le (unsigned_abs z) LARGEST_VALUE then Ok z else Err (OutOfRange line)

-- what an operator makes of its sides: nothing where it divides by zero. A quotient is truncated towards zero, and the rest has the sign
-- of the left side
abbrev pub result_of : What → ℤ → ℤ → Option ℤ
result_of what.Plus a b = Some (a +ℤ b)
result_of what.Minus a b = Some (a -ℤ b)
result_of what.Times a b = Some (a *ℤ b)
result_of what.Over a b = if nat_eq (unsigned_abs b) 0 then None else Some (int_div a b)
result_of what.Rest a b = if nat_eq (unsigned_abs b) 0 then None else Some (int_rem a b)
result_of _ a b = None

-- what becomes of a result, or what there is in its stead
abbrev pub known : (A : Type 0) → A → (ℤ → A) → Option ℤ → A
known A none some None = none
known A none some (Some z) = some z

-- the value of an operator, which may neither divide by zero nor leave the range
abbrev pub computed : ℕ → What → ℤ → ℤ → Outcome ℤ
computed line op a b = known (Outcome ℤ) (Err (OutOfRange line)) (ranged line) (result_of op a b)

-- the value of a name, which some loop around it must have
abbrev pub named : ℕ → Scope → List ℕ → Outcome ℤ
named line s name = known (Outcome ℤ) (Err (UnknownName line)) (ranged line) (bound s.names name)

-- the value of an expression; its faults have this line
abbrev mutual
  pub expr_value : ℕ → Scope → Expr → Outcome ℤ
  expr_value line s (Sum t more) = term_value line s t >>= λ left. adds_value line s left more

  pub adds_value : ℕ → Scope → ℤ → Adds → Outcome ℤ
  adds_value line s left NoAdd = Ok left
  adds_value line s left (Add op t more) =
      term_value line s t >>= λ right. computed line (add_what op) left right >>= λ z. adds_value line s z more

  pub term_value : ℕ → Scope → Term → Outcome ℤ
  term_value line s (Product p more) = prim_value line s p >>= λ left. muls_value line s left more

  pub muls_value : ℕ → Scope → ℤ → Muls → Outcome ℤ
  muls_value line s left NoMul = Ok left
  muls_value line s left (Mul op p more) =
      prim_value line s p >>= λ right. computed line (mul_what op) left right >>= λ z. muls_value line s z more

  pub prim_value : ℕ → Scope → Prim → Outcome ℤ
  prim_value line s (Num v) = ranged line (pos v)
  prim_value line s (Name bytes) = named line s bytes
  prim_value line s Rank = ranged line (pos s.rank)
  prim_value line s Size = ranged line (pos s.ranks)
  prim_value line s (Paren e) = expr_value line s e

-- each operand is below its limit
abbrev pub limit : Scope → Operand → ℕ
limit s operand.Slot = s.qubits
limit s operand.Bit = BITS
limit s operand.Truth = 2
limit s operand.Peer = PEERS
limit s operand.Root = s.ranks
limit s operand.Tag = TAGS

-- an operand with this value, which may not be negative and must be below a limit
abbrev pub within : ℕ → ℕ → ℤ → Outcome ℕ
within line most (pos n) = if nat_lt n most then Ok n else Err (OutOfRange line)
within line most (negsuc n) = Err (OutOfRange line)

-- the operands of an instruction, in two lists: slots, bits and truth values; ranks and tags
pub record Values : Type 0 where
  pub small : List ℕ
  pub wide : List ℕ

-- no operand yet
abbrev pub no_values : Values
no_values = record { small = []; wide = [] }

-- one more operand of a kind
abbrev pub with_value : Operand → ℕ → Values → Values
with_value operand.Slot n v = record v { small = v.small ++ n ∷ [] }
with_value operand.Bit n v = record v { small = v.small ++ n ∷ [] }
with_value operand.Truth n v = record v { small = v.small ++ n ∷ [] }
with_value operand.Peer n v = record v { wide = v.wide ++ n ∷ [] }
with_value operand.Root n v = record v { wide = v.wide ++ n ∷ [] }
with_value operand.Tag n v = record v { wide = v.wide ++ n ∷ [] }

-- the operands behind those that have values: each is evaluated and tested before the next
abbrev pub operands_values : ℕ → Scope → List Operand → List Expr → Values → Outcome Values
operands_values line s [] es v = Ok v
operands_values line s (k ∷ ks) [] v = Ok v
operands_values line s (k ∷ ks) (e ∷ es) v =
    expr_value line s e >>= λ z. within line (limit s k) z >>= λ n. operands_values line s ks es (with_value k n v)

-- the operands of a call
abbrev pub call_values : ℕ → Scope → Call → Outcome Values
call_values line s c = operands_values line s (operands_of c.verb) c.operands no_values
