-- At the end of a complete schedule, a wire that is in no slot is blank in the circuit
use Rattle.std.proofs.Common.{◌≡◌, ◌≢◌, ℕ, ◌<◌, ◌≤◌, Bool, true, false, ◌==◌, if◌then◌else◌, List, [], ◌∷◌, length, take, fold, Option, Some, is_some, All, Contains, sym, ap, ◌∙◌, refl, arith, subst, zero, suc, inl, inr}
use Rattle.std.proofs.lemmas.Bool.{cases_lt, ne_eqb}
use Rattle.std.proofs.lemmas.List.{get_or_past}
use Rattle.std.proofs.lemmas.List.Elements.{All-head, All-tail, All-take, All-get_or}
use Rattle.qm_denot.specs.declared.Wire.{Wire}
use Rattle.qm_denot.specs.Circuits.{IsBlank}
use Rattle.qm_denot.proofs.Transfers.{zero_where_equal}
use Rattle.qm_instr.specs.declared.Instr.{Instr}
use Rattle.qm_instr.specs.declared.Instr.TheVariants as instr
use Rattle.qm_instr.specs.declared.Gate.TheVariants as gate
use Rattle.qm_instr.specs.declared.Gate.{Gate}
use Rattle.qm_instr.specs.declared.Lane.{Lane}
use Rattle.qm_instr.specs.Operands.{HasOperands}
use Rattle.qm_instr.specs.Programs.{Programs, RankProgram, IsRankInRange, IsInRange, rank_of, idle_rank}
use Rattle.qm_check.specs.Checks.{IsReady}
use Rattle.qm_check.specs.Operands.{uses_of, gate_uses}
use Rattle.qm_check.specs.Slots.{is_full_after, full_after}
use Rattle.qm_check.proofs.Faultless.{before}
use Rattle.qm_proto.specs.Model.Schedules.{replay, IsComplete, protocol_total}
use Rattle.qm_proto.specs.Model.Ideal.{IdealTables, Carried, ideal_replay}
use Rattle.qm_simulation.specs.Following.Deciding.{ideal_of}
use Rattle.qm_confluence.proofs.Confluence.NamedWires.{state_of_run}
use Rattle.qm_confluence.proofs.Confluence.OnePlace.{InSlot, OnLane}
use Rattle.qm_confluence.proofs.Confluence.Placeless.{IsHeld, placeless_blank, nothing_in}
use Rattle.qm_simulation.proofs.Following.Complete.{complete_law}

-- ---- a slot past a rank's last one stays empty
not_filled : (n q s : ℕ) → n ≤ q → s < n → (if s == q then true else false) ≡ false
not_filled n q s past less = ap (λ b. if b then true else false) (ne_eqb s q (λ e. omega (arith, e, past, less)))

not_emptied : (b : Bool) → (if b then false else false) ≡ false
not_emptied true = refl
not_emptied false = refl

gate_fills_none : (q : ℕ) (g : Gate) → is_full_after q false (gate_uses g) ≡ false
gate_fills_none q (gate.One g s) = refl
gate_fills_none q (gate.Cx c s) = refl
gate_fills_none q (gate.Cz c s) = refl

module _ (n q : ℕ) (past : n ≤ q) where
  stays_empty : (i : Instr) → HasOperands n i → is_full_after q false (uses_of i) ≡ false
  stays_empty (instr.Alloc s) h = not_filled n q s past (All-head (λ k. k < n) s [] h.slots)
  stays_empty (instr.CopyFrom s from tag) h = not_filled n q s past (All-head (λ k. k < n) s [] h.slots)
  stays_empty (instr.MoveFrom s from tag) h = not_filled n q s past (All-head (λ k. k < n) s [] h.slots)
  stays_empty (instr.Free s) h = not_emptied (s == q)
  stays_empty (instr.UndoTo s to tag) h = not_emptied (s == q)
  stays_empty (instr.MoveTo s to tag) h = not_emptied (s == q)
  stays_empty (instr.Do g) h = gate_fills_none q g
  stays_empty (instr.When b g) h = gate_fills_none q g
  stays_empty (instr.Measure s b) h = refl
  stays_empty (instr.Set b v) h = refl
  stays_empty (instr.Xor b c) h = refl
  stays_empty (instr.SendBit b to tag) h = refl
  stays_empty (instr.RecvBit b from tag) h = refl
  stays_empty (instr.CopyTo s to tag) h = refl
  stays_empty (instr.UndoFrom s from tag) h = refl
  stays_empty (instr.ReachTo s to tag) h = refl
  stays_empty (instr.ReachFrom s from tag) h = refl

  never_full : (is : List Instr) → All (HasOperands n) is → (b : Bool) → b ≡ false → fold (λ f i. is_full_after q f (uses_of i)) b is ≡ false
  never_full [] h b e = e
  never_full (i ∷ is) h b e =
      never_full is (All-tail (HasOperands n) i is h) (is_full_after q b (uses_of i))
      (ap (λ f. is_full_after q f (uses_of i)) e ∙ stays_empty i (All-head (HasOperands n) i is h))

nothing_full : (n q : ℕ) → full_after (take n []) q ≡ false
nothing_full zero q = refl
nothing_full (suc n) q = refl

-- a slot of a rank that there is, below its last one
pub record IsSlot (p : Programs) (r q : ℕ) : Type 0 where
  pub rank : r < length p.ranks
  pub slot : q < (rank_of p r).qubits

-- so a wire stands in such a slot
full_within : (p : Programs) → IsInRange p → (r q at : ℕ) → full_after (before p r at) q ≡ true → IsSlot p r q
full_within p ranges r q at full = elim (cases_lt r (length p.ranks)) [
  | inr past ↦
      let idle : rank_of p r ≡ idle_rank = get_or_past p.ranks r idle_rank past in
      let none : full_after (before p r at) q ≡ false = ap (λ (x : RankProgram). full_after (take at x.instructions) q) idle ∙ nothing_full at q in
      absurd (let n : ⊥ = cc in n)
  | inl known ↦ elim (cases_lt q (rank_of p r).qubits) [
    | inl below ↦ record { rank = known; slot = below }
    | inr past ↦
        let x = rank_of p r in
        let its : IsRankInRange x = All-get_or IsRankInRange p.ranks r idle_rank known ranges.each in
        let none : full_after (before p r at) q ≡ false =
        never_full x.qubits q past (before p r at) (All-take (HasOperands x.qubits) at x.instructions its.operands) false refl in
        absurd (let n : ⊥ = cc in n)
  ]
]

-- ---- the end of a complete schedule
pub leftover_blank : (p : Programs) → IsReady p → IsInRange p → (schedule : List ℕ) → IsComplete p schedule → (w : Wire)
    → ((r q : ℕ) → IsSlot p r q → (replay p schedule).tables.slots r q ≢ Some w) → IsBlank (replay p schedule).circuit w
leftover_blank p ready ranges schedule complete w out x h =
    let e = complete_law p ready ranges schedule complete in
    let rs = ideal_of p schedule in
    let s = ideal_replay p rs in
    let full = (state_of_run p ready ranges rs e.run).tables.full in
    let in_no_slot : (r q : ℕ) → s.tables.slots r q ≢ Some w = λ r q here.
    let within : IsSlot p r q = full_within p ranges r q (s.tables.parts r).at (sym (full r q) ∙ ap (λ (o : Option Wire). is_some o) here) in
    out r q within (sym (e.slots r q) ∙ here) in
    let on_no_lane : (a : Lane) → ¬ Contains (s.tables.lanes a) (Carried w) = λ a c. nothing_in (Carried w) (subst (λ xs. Contains xs (Carried w)) (e.lanes a) c) in
    let blank = placeless_blank p ready ranges rs e.run w (nowhere s.tables w in_no_slot on_no_lane) x h in
    (zero_where_equal (protocol_total p) (replay p schedule).circuit s.circuit e.equal x).1 blank
  where
    nowhere : (t : IdealTables) (w : Wire) → ((r q : ℕ) → t.slots r q ≢ Some w) → ((a : Lane) → ¬ Contains (t.lanes a) (Carried w)) → ¬ IsHeld t w
    nowhere t w slots lanes (InSlot r q, u, here) = slots r q here
    nowhere t w slots lanes (OnLane a, wires, here) = lanes a here
