-- The slots and bits of a step's acts are ones that there may be
use Rattle.std.proofs.Common.{◌≡◌, ℕ, ◌+◌, ◌<◌, ◌≤◌, ◌^◌, List, [], ◌∷◌, length, get_or, Some, All, subst, arith}
use Rattle.std.proofs.lemmas.List.Elements.{All-get_or, All-head}
use Rattle.std.proofs.lemmas.List.Sums.{get_or-le-sum_by}
use Rattle.std.proofs.lemmas.Option.{slice_get_within, get_or_from_slice_get}
use Rattle.qm_instr.specs.declared.Instr.{Instr}
use Rattle.qm_instr.specs.declared.Instr.TheVariants as instr
use Rattle.qm_instr.specs.Operands.{HasOperands}
use Rattle.qm_instr.specs.Programs.{Programs, rank_of, idle_rank, IsInRange, instruction_total}
use Rattle.qm_instr.proofs.Ranges.{rank_of-in_range}
use Rattle.qm_proto.specs.Model.Ideal.{IdealTables, IdealState, ideal_row_of, ideal_current, IsLowestIdeal}
use Rattle.qm_confluence.proofs.Confluence.Helpers.{next_where_able}
use Rattle.qm_ideal.specs.Meanings.{AllSmall}
use Rattle.qm_ideal.specs.OneRuns.{IsOnTheWay}
use Rattle.qm_ideal.proofs.OneRunLemmas.{few_on_the_way}

first : (n m q : ℕ) (qs : List ℕ) → n ≤ m → All (λ s. s < n) (q ∷ qs) → q < m
first n m q qs few h = let below : q < n = All-head (λ s. s < n) q qs h in omega (arith, below, few)

module _ (p : Programs) (t : IdealTables) (r n : ℕ) (few : n ≤ 16) where
  small_acts : (i : Instr) → HasOperands n i → AllSmall (ideal_row_of p t r i).acts
  small_acts (instr.Alloc q) h = (tt, (first n 16 q [] few h.slots, tt))
  small_acts (instr.Free q) h = (first n 16 q [] few h.slots, tt)
  small_acts (instr.Do g) h = tt
  small_acts (instr.Measure q b) h = (tt, (first 32 32 b [] (omega arith) h.bits, tt))
  small_acts (instr.Set b v) h = (first 32 32 b [] (omega arith) h.bits, tt)
  small_acts (instr.Xor b c) h = (first 32 32 b (c ∷ []) (omega arith) h.bits, tt)
  small_acts (instr.When b g) h = tt
  small_acts (instr.SendBit b to tag) h = (tt, tt)
  small_acts (instr.RecvBit b from tag) h = (tt, (first 32 32 b [] (omega arith) h.bits, tt))
  small_acts (instr.CopyTo q to tag) h = (tt, (tt, tt))
  small_acts (instr.CopyFrom q from tag) h = (tt, (first n 16 q [] few h.slots, tt))
  small_acts (instr.UndoTo q to tag) h = (first n 16 q [] few h.slots, (tt, tt))
  small_acts (instr.UndoFrom q from tag) h = (tt, tt)
  small_acts (instr.MoveTo q to tag) h = (tt, (first n 16 q [] few h.slots, (tt, tt)))
  small_acts (instr.MoveFrom q from tag) h = (tt, (first n 16 q [] few h.slots, tt))
  small_acts (instr.ReachTo q to tag) h = (tt, (tt, tt))
  small_acts (instr.ReachFrom q from tag) h = (tt, tt)

module _ (p : Programs) (ranges : IsInRange p) (s : IdealState) (r : ℕ) (known : r < length p.ranks) where
  pub small_step : (i : Instr) → ideal_current p s.tables r ≡ Some i → AllSmall (ideal_row_of p s.tables r i).acts
  small_step i read =
      let x = rank_of p r in
      let k = (s.tables.parts r).at in
      let range = rank_of-in_range p r known ranges in
      let operands : HasOperands x.qubits (get_or x.instructions k i) =
      All-get_or (HasOperands x.qubits) x.instructions k i (slice_get_within x.instructions k i read) range.operands in
      let here : HasOperands x.qubits i = subst (HasOperands x.qubits) (get_or_from_slice_get x.instructions k i i read) operands in
      small_acts p s.tables r x.qubits range.most_qubits i here

  -- a rank that may step has done few instructions and counted few wires
  few_done : IsLowestIdeal p s.tables r → (s.tables.parts r).at < 100000
  few_done low =
      let n = next_where_able p s.tables r low.able in
      let within : (s.tables.parts r).at < length (rank_of p r).instructions =
      slice_get_within (rank_of p r).instructions (s.tables.parts r).at n.0 n.1.read in
      let total : length (rank_of p r).instructions ≤ instruction_total p = get_or-le-sum_by (λ x. length x.instructions) p.ranks r idle_rank known in
      omega (arith, within, total, ranges.few)

  pub at_small : IsLowestIdeal p s.tables r → (s.tables.parts r).at + 1 < 2 ^ 32
  at_small low = let few = few_done low in omega (arith, few)

  pub made_small : IsOnTheWay p s → IsLowestIdeal p s.tables r → (s.tables.parts r).made + 3 < 2 ^ 32
  made_small way low = let few = few_done low in let made = few_on_the_way p s way r in omega (arith, few, made)
