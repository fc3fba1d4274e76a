-- Each event of each instruction keeps the invariant: events of a rank alone, and of a message at its sender
use Rattle.std.proofs.Common.{◌≡◌, ◌≢◌, ℕ, ◌+◌, ◌-◌, nat_lt, Bool, true, false, cond, ◌⊎◌, inl, inr, List, [], ◌∷◌, ◌++◌, Some, None, is_some, refl, sym, ap, ap₂, subst, ◌∙◌, append-nil, arith, ⊎_elim}
use Rattle.qm_denot.specs.declared.Wire.{Wire}
use Rattle.qm_denot.specs.declared.Letter.{Letter}
use Rattle.qm_denot.specs.declared.Letter.TheVariants.{Cx, Take, Keep}
use Rattle.qm_denot.specs.Circuits.{Circuit, IsEqualUpTo}
use Rattle.qm_denot.specs.CircuitFacts.{IsNonzero}
use Rattle.qm_denot.specs.Protocols.{letter_if}
use Rattle.qm_denot.specs.Weights.{operands}
use Rattle.qm_denot.specs.Tags.{Tagged}
use Rattle.qm_denot.proofs.EqualUpTo.{equal_refl}
use Rattle.qm_denot.proofs.Inverses.{IsUnitary}
use Rattle.qm_denot.proofs.Weights.{IsNonzero-append_unitary}
use Rattle.qm_denot.proofs.Partings.{AreNaming, IsAmong, IsNamedBy}
use Rattle.qm_instr.specs.declared.OneGate.{OneGate}
use Rattle.qm_instr.specs.declared.OneGate.TheVariants as one
use Rattle.qm_instr.specs.declared.Gate.{Gate}
use Rattle.qm_instr.specs.declared.Gate.TheVariants as gate
use Rattle.qm_instr.specs.declared.Instr.{Instr}
use Rattle.qm_instr.specs.declared.Instr.TheVariants as instr
use Rattle.qm_instr.specs.declared.Kind.TheVariants as kind
use Rattle.qm_instr.specs.Counts.{events_of}
use Rattle.qm_instr.specs.Lanes.{lane}
use Rattle.qm_instr.specs.Programs.{Programs, IsInRange}
use Rattle.qm_check.specs.Checks.{IsReady}
use Rattle.qm_check.specs.Operands.{gate_uses}
use Rattle.qm_check.proofs.Faultless.{FindsSlots, before}
use Rattle.qm_proto.specs.Model.State.{Tables, wire_in, no_wire, bit_of, own_next}
use Rattle.qm_proto.specs.Model.Acts.{list_of, acts_letters}
use Rattle.qm_proto.specs.Model.Rows.{bit_parcel, letter, few_if, one_letter, gate_letter}
use Rattle.qm_proto.specs.Model.Runs.{NoneFails, row_checks}
use Rattle.qm_proto.specs.Model.Places.{InSlot, IsAt, IsPlaced}
use Rattle.qm_proto.specs.Model.Ideal.{IdealTables}
use Rattle.qm_safety.specs.Tables.Lines.{row_at, acts_of}
use Rattle.qm_simulation.specs.Following.Deciding.{outcomes}
use Rattle.qm_simulation.specs.Following.Seen.{tables_seen, counts_early, part_seen}
use Rattle.qm_simulation.specs.Following.Debts.{Message, ByPair, BackTo, NoMessage, message_of, far_counted, IsInCustody, slots_message, slots_message_in, custody_at}
use Rattle.qm_simulation.specs.Following.Follows.{Follows}
use Rattle.qm_confluence.specs.Counted.{IsCounted, AllCounted, NamesCounted}
use Rattle.qm_safety.proofs.Tables.RankSteps.{some_is}
use Rattle.qm_safety.proofs.Tables.NextEvents.{IsNext, event_done}
use Rattle.qm_simulation.proofs.Following.Rewritings.{IsFree, one_custody, named_in_custody}
use Rattle.qm_confluence.proofs.Confluence.IdealWires.{AreWiresCounted, CountsGrow, counted_on}
use Rattle.qm_simulation.proofs.Following.LocalTests.{measured_nonzero, freed_nonzero}
use Rattle.qm_simulation.proofs.Following.Places.{IsIn, before_event, after, letters_tables, letters_none_used}
use Rattle.qm_simulation.proofs.Following.Stood.{IsStood}
use Rattle.qm_simulation.proofs.Following.Safe.{custody, unitary_debts, not_outside, step_in, stands_in, operand_at}
use Rattle.qm_simulation.proofs.Following.Frames.{fresh_debt, debt_ended, LanesKept, same_lanes_kept, pushed_kept, bits_owe_none, bits_taken_kept, not_none}
use Rattle.qm_simulation.proofs.Following.Agreeing.{is_test, agree_kept, own_agree}
use Rattle.qm_simulation.proofs.Following.Raws.{event_at}
use Rattle.qm_simulation.proofs.Following.Deeds.{GoesOn, given_at, taken_at, ideal_after, ideal_letters, ideal_grows, Brings, follow_own}
use Rattle.qm_simulation.proofs.Following.SafeDebts.{unitary_if}

-- ---- the wires that letters name
pub one_wire : (w v : Wire) → IsAmong (w ∷ []) v → w ≡ v
one_wire w v (inl e) = e
one_wire w v (inr h) = absurd h

-- a letter with one operand, and one with two
pub one_named : (l : Letter) (w x : Wire) → operands l ≡ w ∷ [] → AreNaming (l ∷ []) x → w ≡ x
one_named l w x is (inl h) = one_wire w x (subst (λ ws. IsAmong ws x) is h)
one_named l w x is (inr h) = absurd h

pub two_named : (l : Letter) (v w x : Wire) → operands l ≡ v ∷ w ∷ [] → AreNaming (l ∷ []) x → (v ≡ x) ⊎ (w ≡ x)
two_named l v w x is (inl h) = by_among (subst (λ ws. IsAmong ws x) is h)
  where
    by_among : IsAmong (v ∷ w ∷ []) x → (v ≡ x) ⊎ (w ≡ x)
    by_among (inl e) = inl e
    by_among (inr h) = inr (one_wire w x h)
two_named l v w x is (inr h) = absurd h

pub if_named : (b : Bool) (l : Letter) (x : Wire) → AreNaming (letter_if b l) x → AreNaming (l ∷ []) x
if_named true l x h = h
if_named false l x h = absurd h

pub letters_so : (r : ℕ) (t : Tables) (b : Bool) (l : Letter) → acts_letters r (list_of (few_if b (letter l))) t ≡ letter_if b l
letters_so r t true l = refl
letters_so r t false l = refl

pub near_uncounted : (t : IdealTables) (w : Wire) → w.near ≡ true → ¬ IsCounted t w
near_uncounted t w near h = let far : w.near ≡ false = h.far in cc

pub halves_differ : (e f : Wire) → e.near ≡ true → f.near ≡ false → e ≢ f
halves_differ e f a b s = let c : e.near ≡ f.near = ap (λ (w : Wire). w.near) s in cc

same_slot : (r a b : ℕ) → InSlot r a ≡ InSlot r b → a ≡ b
same_slot r a b e = cc

pub not_back_pair : (a k d : ℕ) → ByPair a k ≢ BackTo d
not_back_pair a k d e = let n : ⊥ = cc in n

pub not_back_none : (d : ℕ) → NoMessage ≢ BackTo d
not_back_none d e = let n : ⊥ = cc in n

-- what an event keeps: after it the run still follows
abbrev pub Keeps : Programs → Tables → ℕ → Instr → ℕ → Type 0
Keeps p t r i s =
    (n : ℕ) (g c : Circuit) (ds : Tagged Message) → Follows p t n g c ds
    → tables_seen p (after p t r i s) ≡ ideal_after p t r i s → NoneFails g (row_checks (row_at p t r i s))
    → GoesOn p t r (after p t r i s) (event_at t r i s) (given_at t r i s) (taken_at r i s) (n + outcomes (acts_of (row_at p t r i s))) (g ++ acts_letters r (acts_of (row_at p t r i s)) t) (c ++ ideal_letters p t r i s)

module _ (p : Programs) (ready : IsReady p) (ranges : IsInRange p) (t : Tables) (r : ℕ) (stood : IsStood p t) (ideal : AreWiresCounted (tables_seen p t)) where
  -- ---- wires
  -- a wire in one of the rank's slots, which are not set aside for a message, is in nobody's custody
  pub slot_off : (q : ℕ) (w : Wire) → IsAt t w (InSlot r q) → slots_message p t r ≡ None → (j : Message) → IsInCustody p t w j → ⊥
  slot_off q w at free j (o, there, in_custody) =
      let same : o ≡ InSlot r q = stood.well.tidy.one_place w o (InSlot r q) there at in
      not_none (slots_message p t r) j free (subst (λ x. custody_at p t w x ≡ Some j) same in_custody)

  pub slot_free : (q : ℕ) (w : Wire) (k : Message) → IsAt t w (InSlot r q) → slots_message p t r ≡ None → IsFree p t k w
  slot_free q w k at free j h = absurd (slot_off q w at free j h)

  -- a wire with no place is in nobody's custody
  pub absent_free : (w : Wire) (k : Message) → ¬ IsPlaced t w → IsFree p t k w
  absent_free w k absent j (o, there, in_custody) = absurd (absent (o, there))

  -- a wire in a message's custody is in that of no other
  pub own_free : (w : Wire) (k : Message) → IsInCustody p t w k → IsFree p t k w
  own_free w k own j other = one_custody p t stood.well.tidy (custody p ready ranges t stood) w j k other own

  pub one_free : (l : Letter) (w : Wire) (k : Message) → operands l ≡ w ∷ [] → IsInCustody p t w k → (x : Wire) → AreNaming (l ∷ []) x → IsFree p t k x
  one_free l w k is own x h = subst (IsFree p t k) (one_named l w x is h) (own_free w k own)

  pub two_free : (l : Letter) (v w : Wire) (k : Message) → operands l ≡ v ∷ w ∷ [] → IsInCustody p t v k → IsInCustody p t w k
      → (x : Wire) → AreNaming (l ∷ []) x → IsFree p t k x
  two_free l v w k is a b x h = by_wire (two_named l v w x is h)
    where
      by_wire : (v ≡ x) ⊎ (w ≡ x) → IsFree p t k x
      by_wire (inl e) = subst (IsFree p t k) e (own_free v k a)
      by_wire (inr e) = subst (IsFree p t k) e (own_free w k b)

  -- the ideal machine has not counted the half of a pair whose message is not decided
  pub uncounted : (a : ℕ) (i : Instr) (s : ℕ) → IsIn p t a i s → counts_early (Some i) s ≡ true → ¬ IsCounted (tables_seen p t) (far_counted a (t.parts a))
  uncounted a i s here early h =
      let v = t.parts a in
      let count : ((tables_seen p t).parts a).made ≡ v.made - 1 =
      ap₂ (λ o k. (part_seen o k v).made) here.read here.stage ∙ ap (λ b. cond b (v.made - 1) v.made) early in
      let low = h.below in
      omega arith

  -- ---- what an event owes beside its frame, by its letters
  module _ (i : Instr) (s : ℕ) (next : IsNext p t r i s) (n : ℕ) (g c : Circuit) (ds : Tagged Message) (before : Follows p t n g c ds)
      (grow : CountsGrow (tables_seen p t) (tables_seen p (event_done (events_of i) r (acts_of (row_at p t r i s)) t))) (no_test : is_test i s ≡ false) where
    -- where the ideal machine does nothing
    pub quiet_brings : (k : Message) (ls : List Letter) → ((w : Wire) → AreNaming ls w → IsFree p t k w) → Brings p ready ranges t r stood i s next n g c ds before k ls []
    quiet_brings k ls free = record {
      free = free;
      grow = grow;
      named = tt;
      agree = agree_kept p ready ranges t r stood i s next c NoMessage [] (λ w h. absurd h) (λ o q d tag _ _. not_back_none d) before.agree
          (own_agree p ready ranges t r stood i s next (c ++ []) no_test);
      nonzero = subst IsNonzero (sym (append-nil c)) before.nonzero;
    }

    -- and where it does letters
    pub step_brings : (k : Message) (ls ms : List Letter) → ((d : ℕ) → k ≢ BackTo d) → ((w : Wire) → AreNaming ls w → IsFree p t k w)
        → ((w : Wire) → AreNaming ms w → IsFree p t k w) → NamesCounted (tables_seen p (event_done (events_of i) r (acts_of (row_at p t r i s)) t)) ms
        → IsNonzero (c ++ ms) → Brings p ready ranges t r stood i s next n g c ds before k ls ms
    step_brings k ls ms apart free free_ideal named nonzero = record {
      free = free;
      grow = grow;
      named = named;
      agree = agree_kept p ready ranges t r stood i s next c k ms free_ideal (λ o q d tag _ _. apart d) before.agree
          (own_agree p ready ranges t r stood i s next (c ++ ms) no_test);
      nonzero = nonzero;
    }

    -- ---- an event outside messages, whose letters are those of the ideal step
    pub local_follows : (ls : List Letter) → s ≡ 0 → nat_lt (s + 1) (events_of i) ≡ false
        → LanesKept p t (event_done (events_of i) r (acts_of (row_at p t r i s)) t)
        → ((w : Wire) → AreNaming ls w → IsFree p t NoMessage w)
        → NamesCounted (tables_seen p (event_done (events_of i) r (acts_of (row_at p t r i s)) t)) ls → IsNonzero (c ++ ls)
        → GoesOn p t r (event_done (events_of i) r (acts_of (row_at p t r i s)) t) NoMessage None None (n + 0) (g ++ ls) (c ++ ls)
    local_follows ls first last lanes free named nonzero =
        follow_own p ready ranges t r stood i s next n g c ds before NoMessage None None ls ls 0
        (fresh_debt p t r (next.stage ∙ first)) (debt_ended p t r (events_of i) (acts_of (row_at p t r i s)) i s next last) lanes
        (λ h d _ o. not_outside p ready ranges t stood h d o)
        (subst (λ m. IsEqualUpTo 0 (c ++ ls) (c ++ m)) (sym (append-nil ls)) (equal_refl (c ++ ls)))
        (step_brings NoMessage ls ls not_back_none free free named nonzero)

    pub silent_follows : s ≡ 0 → nat_lt (s + 1) (events_of i) ≡ false → LanesKept p t (event_done (events_of i) r (acts_of (row_at p t r i s)) t)
        → GoesOn p t r (event_done (events_of i) r (acts_of (row_at p t r i s)) t) NoMessage None None (n + 0) (g ++ []) (c ++ [])
    silent_follows first last lanes = local_follows [] first last lanes (λ w h. absurd h) tt (subst IsNonzero (sym (append-nil c)) before.nonzero)

  -- ---- instructions without messages
  pub alloc_follows : (q : ℕ) → IsNext p t r (instr.Alloc q) 0 → Keeps p t r (instr.Alloc q) 0
  alloc_follows q next n g c ds before seen allowed =
      silent_follows (instr.Alloc q) 0 next n g c ds before (ideal_grows p t (after p t r (instr.Alloc q) 0) r (instr.Alloc q) 0 seen) refl refl refl (same_lanes_kept p t (after p t r (instr.Alloc q) 0) refl)

  pub set_follows : (b : ℕ) (v : Bool) → IsNext p t r (instr.Set b v) 0 → Keeps p t r (instr.Set b v) 0
  set_follows b v next n g c ds before seen allowed =
      silent_follows (instr.Set b v) 0 next n g c ds before (ideal_grows p t (after p t r (instr.Set b v) 0) r (instr.Set b v) 0 seen) refl refl refl (same_lanes_kept p t (after p t r (instr.Set b v) 0) refl)

  pub xor_follows : (b e : ℕ) → IsNext p t r (instr.Xor b e) 0 → Keeps p t r (instr.Xor b e) 0
  xor_follows b e next n g c ds before seen allowed =
      silent_follows (instr.Xor b e) 0 next n g c ds before (ideal_grows p t (after p t r (instr.Xor b e) 0) r (instr.Xor b e) 0 seen) refl refl refl (same_lanes_kept p t (after p t r (instr.Xor b e) 0) refl)

  pub send_follows : (b to tag : ℕ) → IsNext p t r (instr.SendBit b to tag) 0 → Keeps p t r (instr.SendBit b to tag) 0
  send_follows b to tag next n g c ds before seen allowed =
      let a = lane r to kind.Bit tag in
      silent_follows (instr.SendBit b to tag) 0 next n g c ds before (ideal_grows p t (after p t r (instr.SendBit b to tag) 0) r (instr.SendBit b to tag) 0 seen) refl refl refl
      (pushed_kept p t (after p t r (instr.SendBit b to tag) 0) a (bit_parcel (bit_of t r b)) refl (bits_owe_none p (after p t r (instr.SendBit b to tag) 0) a (bit_parcel (bit_of t r b)) refl))

  pub receive_follows : (b from tag : ℕ) → IsNext p t r (instr.RecvBit b from tag) 0 → Keeps p t r (instr.RecvBit b from tag) 0
  receive_follows b from tag next n g c ds before seen allowed =
      silent_follows (instr.RecvBit b from tag) 0 next n g c ds before (ideal_grows p t (after p t r (instr.RecvBit b from tag) 0) r (instr.RecvBit b from tag) 0 seen) refl refl refl
      (bits_taken_kept p t (after p t r (instr.RecvBit b from tag) 0) (lane from r kind.Bit tag) refl refl)

  -- ---- gates
  pub finds_on : (g : Gate) {full : ℕ → Bool} → ((q : ℕ) → full q ≡ is_some (t.slots r q)) → FindsSlots full (gate_uses g) → FindsSlots (λ q. is_some (t.slots r q)) (gate_uses g)
  finds_on (gate.One g q) e f = sym (e q) ∙ f
  finds_on (gate.Cx a b) e f = (f.0, sym (e a) ∙ f.1, sym (e b) ∙ f.2)
  finds_on (gate.Cz a b) e f = (f.0, sym (e a) ∙ f.1, sym (e b) ∙ f.2)

  two_slots : (a b : ℕ) → a ≢ b → is_some (t.slots r a) ≡ true → is_some (t.slots r b) ≡ true → wire_in t r a ≢ wire_in t r b
  two_slots a b ne fa fb e =
      let here : IsAt t (wire_in t r a) (InSlot r a) = some_is (t.slots r a) no_wire fa in
      let there : IsAt t (wire_in t r a) (InSlot r b) = some_is (t.slots r b) no_wire fb ∙ ap (λ (w : Wire). Some w) (sym e) in
      let same : InSlot r a ≡ InSlot r b = stood.well.tidy.one_place (wire_in t r a) (InSlot r a) (InSlot r b) here there in
      ne (same_slot r a b same)

  one_unitary : (g : OneGate) (w : Wire) → IsUnitary (one_letter g w)
  one_unitary one.X w = tt
  one_unitary one.Z w = tt
  one_unitary one.H w = tt
  one_unitary one.S w = tt
  one_unitary one.Sdg w = tt
  one_unitary one.T w = tt
  one_unitary one.Tdg w = tt

  pub one_operand : (g : OneGate) (w : Wire) → operands (one_letter g w) ≡ w ∷ []
  one_operand one.X w = refl
  one_operand one.Z w = refl
  one_operand one.H w = refl
  one_operand one.S w = refl
  one_operand one.Sdg w = refl
  one_operand one.T w = refl
  one_operand one.Tdg w = refl

  gate_unitary : (g : Gate) → FindsSlots (λ q. is_some (t.slots r q)) (gate_uses g) → IsUnitary (gate_letter (wire_in t r) g)
  gate_unitary (gate.One g q) f = one_unitary g (wire_in t r q)
  gate_unitary (gate.Cx a b) f = two_slots a b f.0 f.1 f.2
  gate_unitary (gate.Cz a b) f = two_slots a b f.0 f.1 f.2

  full_free : (q : ℕ) → slots_message p t r ≡ None → is_some (t.slots r q) ≡ true → IsFree p t NoMessage (wire_in t r q)
  full_free q free full = slot_free q (wire_in t r q) NoMessage (some_is (t.slots r q) no_wire full) free

  pub gate_free : (g : Gate) → slots_message p t r ≡ None → FindsSlots (λ q. is_some (t.slots r q)) (gate_uses g) → (x : Wire) → AreNaming (gate_letter (wire_in t r) g ∷ []) x
      → IsFree p t NoMessage x
  gate_free (gate.One g q) free f x h = subst (IsFree p t NoMessage) (one_named (one_letter g (wire_in t r q)) (wire_in t r q) x (one_operand g (wire_in t r q)) h) (full_free q free f)
  gate_free (gate.Cx a b) free f x h =
      ⊎_elim (λ (e : wire_in t r a ≡ x). subst (IsFree p t NoMessage) e (full_free a free f.1)) (λ (e : wire_in t r b ≡ x). subst (IsFree p t NoMessage) e (full_free b free f.2))
      (two_named (Cx (wire_in t r a) (wire_in t r b)) (wire_in t r a) (wire_in t r b) x refl h)
  gate_free (gate.Cz a b) free f x h =
      ⊎_elim (λ (e : wire_in t r a ≡ x). subst (IsFree p t NoMessage) e (full_free a free f.1)) (λ (e : wire_in t r b ≡ x). subst (IsFree p t NoMessage) e (full_free b free f.2))
      (two_named (gate_letter (wire_in t r) (gate.Cz a b)) (wire_in t r a) (wire_in t r b) x refl h)

  slot_counted : (x : IdealTables) → CountsGrow (tables_seen p t) x → (q : ℕ) → is_some (t.slots r q) ≡ true → IsCounted x (wire_in t r q)
  slot_counted x grow q full = counted_on (tables_seen p t) x (wire_in t r q) grow (ideal.slots r q (wire_in t r q) (some_is (t.slots r q) no_wire full))

  gate_counted : (g : Gate) → FindsSlots (λ q. is_some (t.slots r q)) (gate_uses g) → (x : IdealTables) → CountsGrow (tables_seen p t) x
      → AllCounted x (operands (gate_letter (wire_in t r) g))
  gate_counted (gate.One g q) f x grow = subst (AllCounted x) (sym (one_operand g (wire_in t r q))) (slot_counted x grow q f, tt)
  gate_counted (gate.Cx a b) f x grow = (slot_counted x grow a f.1, (slot_counted x grow b f.2, tt))
  gate_counted (gate.Cz a b) f x grow = (slot_counted x grow a f.1, (slot_counted x grow b f.2, tt))

  pub fresh_slots : (i : Instr) → IsIn p t r i 0 → slots_message_in r (t.parts r) (Some i) ≡ cond (nat_lt 0 (t.parts r).stage) (message_of r (t.parts r) i) None → slots_message p t r ≡ None
  fresh_slots i here e =
      ap (slots_message_in r (t.parts r)) here.read ∙ e ∙ ap (λ s. cond (nat_lt 0 s) (message_of r (t.parts r) i) None) here.stage

  pub gate_follows : (gt : Gate) → IsNext p t r (instr.Do gt) 0 → Keeps p t r (instr.Do gt) 0
  gate_follows gt next n g c ds before seen allowed =
      let i = instr.Do gt in
      let l = gate_letter (wire_in t r) gt in
      let here = before_event p t r i 0 next in
      let slots : FindsSlots (λ q. is_some (t.slots r q)) (gate_uses gt) =
      finds_on gt (λ q. sym ((stands_in p ready ranges t stood r i 0 here).full q)) (step_in p ready ranges t stood r i 0 here).slots in
      let grow = ideal_grows p t (after p t r i 0) r i 0 seen in
      local_follows i 0 next n g c ds before grow refl (l ∷ []) refl refl (same_lanes_kept p t (after p t r i 0) refl) (gate_free gt (fresh_slots i here refl) slots)
      (gate_counted gt slots (tables_seen p (after p t r i 0)) grow, tt) (IsNonzero-append_unitary c (l ∷ []) (gate_unitary gt slots, tt) before.nonzero)

  pub gate_if_follows : (b : ℕ) (gt : Gate) → IsNext p t r (instr.When b gt) 0 → Keeps p t r (instr.When b gt) 0
  gate_if_follows b gt next n g c ds before seen allowed =
      let i = instr.When b gt in
      let set = bit_of t r b in
      let l = gate_letter (wire_in t r) gt in
      let ls = letter_if set l in
      let here = before_event p t r i 0 next in
      let slots : FindsSlots (λ q. is_some (t.slots r q)) (gate_uses gt) =
      finds_on gt (λ q. sym ((stands_in p ready ranges t stood r i 0 here).full q)) (step_in p ready ranges t stood r i 0 here).slots in
      let grow = ideal_grows p t (after p t r i 0) r i 0 seen in
      let u = event_done 1 r (list_of (few_if set (letter l))) t in
      let follows : GoesOn p t r u NoMessage None None (n + 0) (g ++ ls) (c ++ ls) =
      local_follows i 0 next n g c ds before grow refl ls refl refl (same_lanes_kept p t u (ap (λ (x : Tables). x.lanes) (letters_tables r 1 set l t)))
      (λ x h. gate_free gt (fresh_slots i here refl) slots x (if_named set l x h)) (counted_if (tables_seen p u) set l (gate_counted gt slots (tables_seen p (after p t r i 0)) grow))
      (IsNonzero-append_unitary c ls (unitary_if set l (gate_unitary gt slots)) before.nonzero) in
      subst (λ m. GoesOn p t r u NoMessage None None (n + m) (g ++ acts_letters r (list_of (few_if set (letter l))) t) (c ++ ls)) (sym (letters_none_used set l))
      (subst (λ xs. GoesOn p t r u NoMessage None None (n + 0) (g ++ xs) (c ++ ls)) (sym (letters_so r t set l)) follows)
    where
      counted_if : (x : IdealTables) (b : Bool) (l : Letter) → AllCounted x (operands l) → NamesCounted x (letter_if b l)
      counted_if x true l h = (h, tt)
      counted_if x false l h = tt

  -- ---- a measurement, and a qubit that is given up
  unnamed_debt : (q : ℕ) (w : Wire) → IsAt t w (InSlot r q) → slots_message p t r ≡ None → (n : ℕ) (g c : Circuit) (ds : Tagged Message) → Follows p t n g c ds
      → (v : Wire) → IsAmong (w ∷ []) v → (k : Message) → IsNamedBy ds v k → ⊥
  unnamed_debt q w at free n g c ds before v h k named =
      slot_off q w at free k
      (subst (λ x. IsInCustody p t x k) (sym (one_wire w v h)) (named_in_custody p t stood.well.tidy (custody p ready ranges t stood) ds before.owed v k named))

  pub measure_follows : (q b : ℕ) → IsNext p t r (instr.Measure q b) 0 → Keeps p t r (instr.Measure q b) 0
  measure_follows q b next n g c ds before seen allowed =
      let i = instr.Measure q b in
      let w = wire_in t r q in
      let m = own_next t r in
      let here = before_event p t r i 0 next in
      let there : IsAt t w (InSlot r q) = operand_at p ready ranges t stood r i 0 here q refl (step_in p ready ranges t stood r i 0 here).slots in
      let free = fresh_slots i here refl in
      let grow = ideal_grows p t (after p t r i 0) r i 0 seen in
      local_follows i 0 next n g c ds before grow refl (Keep w m ∷ []) refl refl (same_lanes_kept p t (after p t r i 0) refl)
      (λ v h. subst (IsFree p t NoMessage) (one_named (Keep w m) w v refl h) (slot_free q w NoMessage there free))
      ((counted_on (tables_seen p t) (tables_seen p (after p t r i 0)) w grow (ideal.slots r q w there), tt), tt)
      (measured_nonzero p t n g c ds before (unitary_debts p ready ranges t stood) w (unnamed_debt q w there free n g c ds before) m allowed.0)

  pub free_follows : (q : ℕ) → IsNext p t r (instr.Free q) 0 → Keeps p t r (instr.Free q) 0
  free_follows q next n g c ds before seen allowed =
      let i = instr.Free q in
      let w = wire_in t r q in
      let here = before_event p t r i 0 next in
      let there : IsAt t w (InSlot r q) = operand_at p ready ranges t stood r i 0 here q refl (step_in p ready ranges t stood r i 0 here).slots in
      let free = fresh_slots i here refl in
      let grow = ideal_grows p t (after p t r i 0) r i 0 seen in
      local_follows i 0 next n g c ds before grow refl (Take w false ∷ []) refl refl (same_lanes_kept p t (after p t r i 0) refl)
      (λ v h. subst (IsFree p t NoMessage) (one_named (Take w false) w v refl h) (slot_free q w NoMessage there free))
      ((counted_on (tables_seen p t) (tables_seen p (after p t r i 0)) w grow (ideal.slots r q w there), tt), tt)
      (freed_nonzero p t n g c ds before (unitary_debts p ready ranges t stood) w (unnamed_debt q w there free n g c ds before) allowed.0)
