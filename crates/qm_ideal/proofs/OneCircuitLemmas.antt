-- The end of the run, as the answers of `mono` say it
use Rattle.std.proofs.Common.{◌≡◌, ◌≢◌, ◌∙◌, ℕ, zero, suc, ◌+◌, ◌*◌, ◌<◌, ◌≤◌, Bool, true, false, if◌then◌else◌, List, length, map, refl, sym, ap, subst, arith}
use Rattle.qm_instr.specs.Programs.{Programs}
use Rattle.qm_proto.specs.Model.Ideal as model
use Rattle.qm_proto.specs.Model.Ideal.{IdealTables, IdealState, has_instr, AllDone}
use Rattle.qm_ideal.specs.declared.run.Run.{Run}
use Rattle.qm_ideal.specs.declared.tables.IdealRank.{IdealRank}
use Rattle.qm_ideal.specs.OneCircuits.{IsOneCircuit, EndsEarly, left_from, wires_below, wires_in, slot_of}
use Rattle.qm_confluence.specs.Told.{filled}
use Rattle.qm_confluence.proofs.Confluence.Told.{filled_state}
use Rattle.qm_ideal.specs.OneRuns.{IsItsEnd}
use Rattle.qm_ideal.specs.Views.{state_of, slots_at, view_of_run, end_of, part_in, bits_in}
use Rattle.qm_ideal.proofs.NumberLemmas.{slot_at_end, bits_at_end}
use Rattle.std.proofs.Math.Path.{fun_ext}
use Rattle.std.proofs.lemmas.List.{length-map, length-append}
use Rattle.std.specs.Prelude.{option_to_list}
use Rattle.qm_denot.specs.declared.Wire.{Wire}
use Rattle.std.proofs.Common.{Option, Some, None, slice_get}

-- ---- which ranks are left
digit_none : (b : Bool) (m : ℕ) → (if b then 1 else 0) + 2 * m ≡ 0 → (b ≡ false) × (m ≡ 0)
digit_none true m e = absurd (omega arith)
digit_none false m e = (refl, omega arith)

left_none : (p : Programs) (t : IdealTables) (r n : ℕ) → left_from p t r n ≡ 0 → (k : ℕ) → k < n → has_instr p t (r + k) ≡ false
left_none p t r zero e k below = absurd (omega arith)
left_none p t r (suc n) e zero below =
    let h = digit_none (has_instr p t r) (left_from p t (r + 1) n) e in
    let z : r + 0 ≡ r = omega arith in ap (has_instr p t) z ∙ h.0
left_none p t r (suc n) e (suc k) below =
    let h = digit_none (has_instr p t r) (left_from p t (r + 1) n) e in
    let z : r + suc k ≡ r + 1 + k = omega arith in
    ap (has_instr p t) z ∙ left_none p t (r + 1) n h.1 k (omega (arith, below))

left_some : (p : Programs) (t : IdealTables) (r n : ℕ) → ((k : ℕ) → k < n → has_instr p t (r + k) ≡ false) → left_from p t r n ≡ 0
left_some p t r zero none = refl
left_some p t r (suc n) none =
    let z : r + 0 ≡ r = omega arith in
    let first : has_instr p t r ≡ false = sym (ap (has_instr p t) z) ∙ none 0 (omega arith) in
    let rest : left_from p t (r + 1) n ≡ 0 = left_some p t (r + 1) n (λ k below. let y : r + 1 + k ≡ r + suc k = omega arith in ap (has_instr p t) y ∙ none (suc k) (omega (arith, below))) in
    ap (λ b. (if b then 1 else 0) + 2 * left_from p t (r + 1) n) first ∙ omega (arith, rest)

pub done_where_none : (p : Programs) (t : IdealTables) → left_from p t 0 (length p.ranks) ≡ 0 → AllDone p t
done_where_none p t e r known = let z : 0 + r ≡ r = omega arith in sym (ap (has_instr p t) z) ∙ left_none p t 0 (length p.ranks) e r known

none_where_done : (p : Programs) (t : IdealTables) → AllDone p t → left_from p t 0 (length p.ranks) ≡ 0
none_where_done p t done = left_some p t 0 (length p.ranks) (λ k below. let z : 0 + k ≡ k = omega arith in ap (has_instr p t) z ∙ done k below)

-- ---- the run ends early
pub ends_early : (p : Programs) (s : IdealState) (left : ℕ) → IsItsEnd p s → left ≡ left_from p s.tables 0 (length p.ranks) → left ≢ 0 → EndsEarly p left
ends_early p s left end is some =
    record {
      ranks = end.ranks;
      run = end.run;
      early = λ done. some (is ∙ none_where_done p s.tables (subst (λ (u : IdealState). AllDone p u.tables) end.state done));
      left_so = is ∙ ap (λ (u : IdealState). left_from p u.tables 0 (length p.ranks)) (sym end.state);
    }

-- ---- or it doesn't
bits_are : (o : Option IdealRank) → bits_in o ≡ (part_in o).bits
bits_are None = refl
bits_are (Some k) = refl

pub circuit_at_end : (p : Programs) (x : Run) (left : ℕ → List Bool) → IsItsEnd p (filled_state left (state_of x)) → length x.tables.ranks.items ≡ length p.ranks
    → AllDone p (filled_state left (state_of x)).tables → IsOneCircuit p (view_of_run (length p.ranks) x)
circuit_at_end p x left end count done =
    let ranks = x.tables.ranks.items in
    let long : length (map end_of ranks) ≡ length p.ranks = length-map ranks end_of ∙ count in
    let v = view_of_run (length p.ranks) x in
    let slots : slots_at ranks ≡ slot_of v = fun_ext (λ r. fun_ext (λ q. sym (slot_at_end ranks r q))) in
    record {
      ranks = end.ranks;
      run = end.run;
      done = subst (λ (u : IdealState). AllDone p u.tables) (sym end.state) done;
      letters = ap (λ (u : IdealState). u.circuit) (sym end.state);
      count = long;
      bits = λ r known.
          bits_at_end ranks r (subst (λ n. r < n) (sym count) known) ∙ bits_are (slice_get ranks r)
          ∙ ap (λ (u : IdealState). (u.tables.parts r).bits) (sym end.state);
      slots = λ r q. slot_at_end ranks r q ∙ ap (λ (u : IdealState). u.tables.slots r q) (sym end.state);
      wide = ap (λ f. model.width x.letters.items (wires_in f (length p.ranks))) slots ∙ ap (λ n. model.width x.letters.items (wires_in (slot_of v) n)) (sym long);
    }

-- the tapes don't tell which ranks are left
pub left_alike : (p : Programs) (t : IdealTables) (left : ℕ → List Bool) (r n : ℕ) → left_from p (filled left t) r n ≡ left_from p t r n
left_alike p t left r zero = refl
left_alike p t left r (suc n) = ap (λ k. (if has_instr p t r then 1 else 0) + 2 * k) (left_alike p t left (r + 1) n)

-- ---- few wires stand in slots
below_few : (f : ℕ → Option Wire) (n : ℕ) → length (wires_below f n) ≤ n
below_few f zero = omega arith
below_few f (suc n) =
    let e = length-append (wires_below f n) (option_to_list (f n)) in
    let one = one_few (f n) in
    omega (arith, e, one, below_few f n)
  where
    one_few : (o : Option Wire) → length (option_to_list o) ≤ 1
    one_few None = omega arith
    one_few (Some w) = omega arith

wires_few : (f : ℕ → ℕ → Option Wire) (n : ℕ) → length (wires_in f n) ≤ 16 * n
wires_few f zero = omega arith
wires_few f (suc n) =
    let e = length-append (wires_in f n) (wires_below (f n) 16) in
    let here = below_few (f n) 16 in
    omega (arith, e, here, wires_few f n)

pub ends_few : (f : ℕ → ℕ → Option Wire) (n : ℕ) (ws : List Wire) → ws ≡ wires_in f n → n ≤ 16 → length ws ≤ 256
ends_few f n ws is few =
    let e : length ws ≡ length (wires_in f n) = ap length is in
    let h = wires_few f n in
    omega (arith, e, h, few)
