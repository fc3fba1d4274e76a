-- State texts and circuit texts, by what the ranks have at the end
use Rattle.std.proofs.Common.{◌≡◌, ℕ, zero, suc, ◌+◌, ◌*◌, ◌<◌, ◌≤◌, Bool, List, [], ◌∷◌, ◌++◌, Option, length, slice_index, slice_set, sum_by, ◌⊎◌, inl, inr, refl, sym, ap, ◌∙◌, arith, codes}
use Rattle.std.proofs.lemmas.Grind.{get_or-set_at}
use Rattle.std.proofs.lemmas.List.{get_or-set_other}
use Rattle.std.proofs.lemmas.List.Sums.{sum_by-cons}
use Rattle.qm_denot.specs.declared.Wire.{Wire}
use Rattle.qm_denot.specs.Wires.{no_wires}
use Rattle.qm_denot.specs.Circuits.{Amplitudes, Circuit}
use Rattle.qm_denot.specs.Stores.{Store}
use Rattle.qm_denot.proofs.Unique.{exponent_at_most}
use Rattle.qm_eval.specs.Holding.{HoldsCircuit}
use Rattle.qm_ideal.proofs.RunBounds.{letters_bound}
use Rattle.qm_instr.specs.Bits.{number_of_bits}
use Rattle.qm_proto.specs.Model.Ideal.{ideal_replay}
use Rattle.qm_instr.specs.declared.Instr.{Instr}
use Rattle.qm_instr.specs.declared.Instr.TheVariants as instr
use Rattle.qm_instr.specs.Counts.{protocol_of}
use Rattle.qm_instr.specs.Programs.{Programs, RankProgram, IsInRange}
use Rattle.qm_proto.specs.Model.Schedules.{protocol_total}
use Rattle.qm_ideal.specs.OneCircuits.{OneView, IsOneCircuit, bits_of, slot_of}
use Rattle.qm_print.specs.declared.Head.{Head}
use Rattle.qm_print.specs.declared.Live.{Live}
use Rattle.qm_print.specs.Bits.{bits_line, bits_lines}
use Rattle.qm_print.specs.CircuitText.{circuit_head, circuit_text, letter_lines, letters_head}
use Rattle.qm_print.specs.Slots.{full_slots, slots_text, slot_lines}
use Rattle.qm_print.specs.StateText.{branch_lines, head_lines, state_lines}
use Rattle.qm_tool.specs.Ends.{HeadSays, text_under}
use Rattle.qm_tool.proofs.OneViews.{same_letters, same_bits, same_slots}
use Rattle.qm_proto.proofs.Counting.{halvings-le}

-- the lines of numbers that are the same for each rank
pub bits_lines-same : (n : ℕ) (f g : ℕ → ℕ) → ((r : ℕ) → r < n → f r ≡ g r) → bits_lines n f ≡ bits_lines n g
bits_lines-same zero f g h = refl
bits_lines-same (suc n) f g h =
    ap (λ t. t ++ bits_line n (f n)) (bits_lines-same n f g (λ r lt. h r (omega (arith, lt))))
    ∙ ap (λ k. bits_lines n g ++ bits_line n k) (h n (omega arith))

-- a head that says what the ranks have gives their state text
pub HeadSays-text : (p : Programs) (bits : ℕ → List Bool) (scale : ℕ) (head : Head) (live full : List Live) (u : Amplitudes) → HeadSays p bits scale head → live ≡ full
    → text_under head live u ≡ state_lines (length p.ranks) (protocol_total p) scale (λ r. number_of_bits (bits r)) full u
HeadSays-text p bits scale head live full u h same =
    ap (λ n. state_lines n head.protocol head.scale (slice_index head.bits) live u) h.ranks
    ∙ ap (λ n. state_lines (length p.ranks) n head.scale (slice_index head.bits) live u) h.protocol
    ∙ ap (λ n. state_lines (length p.ranks) (protocol_total p) n (slice_index head.bits) live u) h.scale_so
    ∙ ap
    (λ b. head_lines (length p.ranks) (protocol_total p) scale ++ b ++ codes "live" ++ slots_text live ++ codes "\n" ++ branch_lines u [] no_wires live ++ codes "end\n")
    (bits_lines-same (length p.ranks) (slice_index head.bits) (λ r. number_of_bits (bits r)) h.bits_so)
    ∙ ap (λ (s : List Live). state_lines (length p.ranks) (protocol_total p) scale (λ r. number_of_bits (bits r)) s u) same

-- programs have one circuit text
pub same_circuit_text : (p : Programs) (m n : OneView) → IsOneCircuit p m → IsOneCircuit p n → circuit_text p m ≡ circuit_text p n
same_circuit_text p m n a b =
    ap
    (λ x. circuit_head (length p.ranks) (protocol_total p) ++ x ++ letters_head (length m.letters) ++ letter_lines m.letters ++ slot_lines (full_slots p (slot_of m)) ++ codes "end\n")
    (bits_lines-same (length p.ranks) (λ r. number_of_bits (bits_of m r)) (λ r. number_of_bits (bits_of n r)) (λ r known. ap number_of_bits (same_bits p m n a b r known)))
    ∙ ap
    (λ (c : Circuit). circuit_head (length p.ranks) (protocol_total p) ++ bits_lines (length p.ranks) (λ r. number_of_bits (bits_of n r)) ++ letters_head (length c) ++ letter_lines c ++ slot_lines (full_slots p (slot_of m)) ++ codes "end\n")
    (same_letters p m n a b)
    ∙ ap
    (λ (f : ℕ → ℕ → Option Wire). circuit_head (length p.ranks) (protocol_total p) ++ bits_lines (length p.ranks) (λ r. number_of_bits (bits_of n r)) ++ letters_head (length n.letters) ++ letter_lines n.letters ++ slot_lines (full_slots p f) ++ codes "end\n")
    (same_slots p m n a b)

-- ---- the protocol total is small
protocol_of-few : (i : Instr) → protocol_of i ≤ 2
protocol_of-few (instr.MoveTo q to tag) = omega arith
protocol_of-few _ = omega arith

outcomes-few : (is : List Instr) → sum_by protocol_of is ≤ 2 * length is
outcomes-few [] = omega arith
outcomes-few (i ∷ is) = let rest = outcomes-few is in omega (arith, protocol_of-few i, sum_by-cons protocol_of i is)

all_outcomes-few : (xs : List RankProgram) → sum_by (λ x. sum_by protocol_of x.instructions) xs ≤ 2 * sum_by (λ x. length x.instructions) xs
all_outcomes-few [] = omega arith
all_outcomes-few (x ∷ xs) =
    let outcomes : RankProgram → ℕ = λ x. sum_by protocol_of x.instructions in
    let size : RankProgram → ℕ = λ x. length x.instructions in
    let rest = all_outcomes-few xs in
    omega (arith, outcomes-few x.instructions, sum_by-cons outcomes x xs, sum_by-cons size x xs)

pub protocol_total-few : (p : Programs) → IsInRange p → protocol_total p ≤ 200000
protocol_total-few p ranges = omega (arith, all_outcomes-few p.ranks, ranges.few)

-- ---- the exponent of the one circuit is small
pub exponent-few : (p : Programs) (m : OneView) (s : Store) → IsInRange p → IsOneCircuit p m → HoldsCircuit m s → s.exponent + protocol_total p ≤ 3400000
exponent-few p m s ranges one holds =
    let short = letters_bound p ranges (ideal_replay p one.ranks) (record { ranks = one.ranks; run = one.run; state = refl }) in
    omega (arith, exponent_at_most s.value s.exponent m.letters holds.stands.form, halvings-le m.letters, ap (λ (c : Circuit). length c) one.letters, short, protocol_total-few p ranges)

-- ---- numbers of bits, set one after another
pub bits_set : (bits : List ℕ) (i n k : ℕ) (f : ℕ → ℕ) → i ≡ n → n < length bits → k ≡ f n → ((r : ℕ) → r < n → slice_index bits r ≡ f r)
    → (r : ℕ) → r < n + 1 → slice_index (slice_set bits i k) r ≡ f r
bits_set bits i n k f same known now before r lt = elim place [
  | inl here ↦ get_or-set_at bits i r k 0 (here ∙ sym same) (omega (arith, same, known)) ∙ now ∙ ap f (sym here)
  | inr below ↦ get_or-set_other bits i r k 0 (λ e. omega (arith, e, same, below)) ∙ before r below
]
  where
    place : (r ≡ n) ⊎ (r < n)
    place = grind arith
