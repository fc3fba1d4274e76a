-- Programs have one circuit: two views of it have the same letters, width, bits and slots
use Rattle.std.proofs.Common.{◌≡◌, ℕ, ◌<◌, Option, sym, ap, subst, ◌∙◌, length}
use mathlib.Core.Path.{fun_ext}
use Rattle.qm_denot.specs.declared.Wire.{Wire}
use Rattle.qm_denot.specs.Circuits.{Circuit}
use Rattle.qm_instr.specs.Programs.{Programs}
use Rattle.qm_proto.specs.Model.Ideal as model
use Rattle.qm_proto.specs.Model.Ideal.{IdealTables, ideal_replay, AllDone}
use Rattle.qm_proto.proofs.Firsts.{one_run_unique}
use Rattle.qm_ideal.specs.OneCircuits.{OneView, IsOneCircuit, EndsEarly, bits_of, slot_of, wires_in, left_from}

module _ (p : Programs) (m n : OneView) (a : IsOneCircuit p m) (b : IsOneCircuit p n) where
  same_run : a.ranks ≡ b.ranks
  same_run = one_run_unique p a.ranks b.ranks a.run b.run

  same_tables : (ideal_replay p a.ranks).tables ≡ (ideal_replay p b.ranks).tables
  same_tables = ap (λ rs. (ideal_replay p rs).tables) same_run

  pub same_letters : m.letters ≡ n.letters
  same_letters = a.letters ∙ ap (λ rs. (ideal_replay p rs).circuit) same_run ∙ sym b.letters

  pub same_bits : (r : ℕ) → r < length p.ranks → bits_of m r ≡ bits_of n r
  same_bits r known = a.bits r known ∙ ap (λ (t : IdealTables). (t.parts r).bits) same_tables ∙ sym (b.bits r known)

  pub same_slots : slot_of m ≡ slot_of n
  same_slots = fun_ext (λ r. fun_ext (λ q. a.slots r q ∙ ap (λ (t : IdealTables). t.slots r q) same_tables ∙ sym (b.slots r q)))

  pub same_width : m.width ≡ n.width
  same_width =
      a.wide
      ∙ ap (λ (c : Circuit). model.width c (wires_in (slot_of m) (length m.ranks))) same_letters
      ∙ ap (λ (f : ℕ → ℕ → Option Wire). model.width n.letters (wires_in f (length m.ranks))) same_slots
      ∙ ap (λ k. model.width n.letters (wires_in (slot_of n) k)) (a.count ∙ sym b.count)
      ∙ sym b.wide

module _ (p : Programs) where
  pub ends_or_early : (m : OneView) (left : ℕ) → IsOneCircuit p m → EndsEarly p left → ⊥
  ends_or_early m left a e = e.early (subst (λ rs. AllDone p (ideal_replay p rs).tables) (one_run_unique p a.ranks e.ranks a.run e.run) a.done)

  pub same_left : (left other : ℕ) → EndsEarly p left → EndsEarly p other → left ≡ other
  same_left left other e f =
      e.left_so ∙ ap (λ rs. left_from p (ideal_replay p rs).tables 0 (length p.ranks)) (one_run_unique p e.ranks f.ranks e.run f.run) ∙ sym f.left_so
