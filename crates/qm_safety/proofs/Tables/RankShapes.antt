-- What each act makes of the acting rank's slots, halves, tapes and bits, what the acts of each line come to, and so how the rank stands after them
use Rattle.std.proofs.Common.{◌≡◌, ℕ, ◌+◌, ◌-◌, ◌≤◌, ◌==◌, nat_lt, Bool, true, false, cond, if◌then◌else◌, List, [], ◌∷◌, length, take, slice_get, sum_by, Option, Some, None, is_some, refl, sym, ap, subst, ◌∙◌, arith, length-drop, length-set}
use Rattle.std.proofs.lemmas.Bool.{eq-eqb, ne_eqb, ltb-false}
use Rattle.std.proofs.lemmas.List.Sums.{sum_by-cons, sum_by-take-le}
use Rattle.std.proofs.lemmas.Option.{same_Some}
use Rattle.qm_denot.specs.declared.Letter.{Letter}
use Rattle.qm_denot.specs.declared.Letter.TheVariants.{Phase, Flip}
use Rattle.qm_denot.specs.declared.Wire.{Wire}
use Rattle.qm_instr.specs.declared.Gate.{Gate}
use Rattle.qm_instr.specs.declared.Gate.TheVariants as gate
use Rattle.qm_instr.specs.declared.Instr.{Instr}
use Rattle.qm_instr.specs.declared.Instr.TheVariants as instr
use Rattle.qm_instr.specs.Counts.{events_of, protocol_of, own_of}
use Rattle.qm_instr.specs.Programs.{Programs, rank_of}
use Rattle.qm_instr.specs.declared.Kind.TheVariants as kind
use Rattle.qm_instr.specs.declared.Lane.{Lane}
use Rattle.qm_instr.specs.Lanes.{lane}
use Rattle.qm_denot.specs.Wires.{Wires, no_wires, put}
use Rattle.qm_check.specs.Operands.{uses_of, gate_uses}
use Rattle.qm_check.specs.Slots.{is_full_after, full_after}
use Rattle.qm_check.proofs.Faultless.{IsStep}
use Rattle.qm_proto.specs.declared.Check.{Check}
use Rattle.qm_proto.specs.declared.Event.{Event}
use Rattle.qm_proto.specs.declared.Few.{Few}
use Rattle.qm_proto.specs.declared.Rule.TheVariants.{Always}
use Rattle.qm_proto.specs.declared.Row.{Row}
use Rattle.qm_proto.specs.declared.Act.{Act}
use Rattle.qm_proto.specs.declared.Act.TheVariants.{Fresh, Twin, SlotOut, NearOut, Settle, Receives, OwnUsed, ProtocolUsed, FirstKept, BitSet}
use Rattle.qm_proto.specs.Model.State.{Part, Tables, with_slot, wire_in, bit_of, near_made, near_last, front, wire_of, first_bit, second_bit}
use Rattle.qm_proto.specs.Model.Acts.{list_of, with_one_counted, after_acts, after_act}
use Rattle.qm_proto.specs.Model.Rows.{instr_at, rows, row, letter, gate_letter, few_if}
use Rattle.qm_proto.proofs.Changes.{by_slot, with_at-here, with_at-keeps, with_slot-here}
use Rattle.qm_proto.proofs.Positions.{over_acts, all_at_kept, all_stage_kept}
use Rattle.qm_safety.specs.Tables.Well.{middle_of, is_settled, has_near, outcomes_in, one_if, near_of, middle_at, Stands, IsRankWell}
use Rattle.qm_safety.proofs.Tables.NextEvents.{IsNext, event_done, part_on, part_ended}
use Rattle.qm_safety.proofs.Tables.RankSteps.{standing, without_itself, rank_by}
use Rattle.qm_proto.proofs.Lines.{EachFrom, at_stage}

-- ---- by act
-- whether slot k is full after an act, by whether it was before
abbrev pub fill : Act → ℕ → Bool → Bool
fill (Fresh q) k b = if q == k then true else b
fill (Settle f q) k b = if q == k then true else b
fill (SlotOut q m) k b = if q == k then false else b
fill _ k b = b

abbrev pub fill_all : List Act → ℕ → Bool → Bool
fill_all [] k b = b
fill_all (a ∷ acts) k b = fill_all acts k (fill a k b)

-- how many outcomes of the tapes it uses
abbrev pub uses : Act → ℕ
uses ProtocolUsed = 1
uses _ = 0

abbrev pub owns : Act → ℕ
owns OwnUsed = 1
owns _ = 0

slot_is : (f : ℕ → ℕ → Option Wire) (r q : ℕ) (o : Option Wire) (b : Bool) → is_some o ≡ b → (k : ℕ)
    → is_some (with_slot f r q o r k) ≡ (if q == k then b else is_some (f r k))
slot_is f r q o b e k =
    by_slot (λ (x : Option Wire). is_some x ≡ (if q == k then b else is_some (f r k))) f r q o r k
    (λ s. e ∙ sym (ap (λ (c : Bool). if c then b else is_some (f r k)) (eq-eqb q k (sym s.slot))))
    (λ ne. sym (ap (λ (c : Bool). if c then b else is_some (f r k)) (ne_eqb q k (λ e. ne (record { rank = refl; slot = sym e })))))

less_none : {m n : ℕ} → m ≡ n → m ≡ n - 0
less_none e = omega arith

module _ (r : ℕ) where
  full_done : (act : Act) (t : Tables) (k : ℕ) → is_some ((after_act r act t).slots r k) ≡ fill act k (is_some (t.slots r k))
  full_done (Fresh q) t k = slot_is t.slots r q _ true refl k
  full_done (Settle f q) t k = slot_is t.slots r q _ true refl k
  full_done (SlotOut q m) t k = slot_is t.slots r q _ false refl k
  full_done _ t k = refl

  pub full_all : (acts : List Act) (t : Tables) (k : ℕ) → is_some ((after_acts r acts t).slots r k) ≡ fill_all acts k (is_some (t.slots r k))
  full_all [] t k = refl
  full_all (a ∷ acts) t k = full_all acts (after_act r a t) k ∙ ap (fill_all acts k) (full_done a t k)

  protocol_done : (act : Act) (t : Tables) → length ((after_act r act t).parts r).protocol ≡ length (t.parts r).protocol - uses act
  protocol_done ProtocolUsed t = ap (λ (x : Part). length x.protocol) (with_at-here t.parts r _) ∙ length-drop 1 (t.parts r).protocol
  protocol_done (Fresh q) t = less_none (with_at-keeps (λ (x : Part). length x.protocol) t.parts r _ refl r)
  protocol_done (Twin to) t = less_none (with_at-keeps (λ (x : Part). length x.protocol) t.parts r _ refl r)
  protocol_done (Receives a) t = less_none (with_at-keeps (λ (x : Part). length x.protocol) t.parts r _ refl r)
  protocol_done OwnUsed t = less_none (with_at-keeps (λ (x : Part). length x.protocol) t.parts r _ refl r)
  protocol_done (FirstKept m) t = less_none (with_at-keeps (λ (x : Part). length x.protocol) t.parts r _ refl r)
  protocol_done (BitSet b v) t = less_none (with_at-keeps (λ (x : Part). length x.protocol) t.parts r _ refl r)
  protocol_done _ t = omega arith

  pub protocol_all : (acts : List Act) (t : Tables) → length ((after_acts r acts t).parts r).protocol ≡ length (t.parts r).protocol - sum_by uses acts
  protocol_all [] t = omega arith
  protocol_all (a ∷ acts) t =
      let first = protocol_done a t in
      let rest = protocol_all acts (after_act r a t) in
      let all : sum_by uses (a ∷ acts) ≡ uses a + sum_by uses acts = sum_by-cons uses a acts in
      omega arith

  bits_done : (act : Act) (t : Tables) → length ((after_act r act t).parts r).bits ≡ length (t.parts r).bits
  bits_done (BitSet b v) t = ap (λ (x : Part). length x.bits) (with_at-here t.parts r _) ∙ length-set (t.parts r).bits b v
  bits_done (Fresh q) t = with_at-keeps (λ (x : Part). length x.bits) t.parts r _ refl r
  bits_done (Twin to) t = with_at-keeps (λ (x : Part). length x.bits) t.parts r _ refl r
  bits_done (Receives a) t = with_at-keeps (λ (x : Part). length x.bits) t.parts r _ refl r
  bits_done OwnUsed t = with_at-keeps (λ (x : Part). length x.bits) t.parts r _ refl r
  bits_done ProtocolUsed t = with_at-keeps (λ (x : Part). length x.bits) t.parts r _ refl r
  bits_done (FirstKept m) t = with_at-keeps (λ (x : Part). length x.bits) t.parts r _ refl r
  bits_done _ t = refl

  own_done : (act : Act) (t : Tables) → length ((after_act r act t).parts r).own ≡ length (t.parts r).own - owns act
  own_done OwnUsed t = ap (λ (x : Part). length x.own) (with_at-here t.parts r _) ∙ length-drop 1 (t.parts r).own
  own_done (Fresh q) t = less_none (with_at-keeps (λ (x : Part). length x.own) t.parts r _ refl r)
  own_done (Twin to) t = less_none (with_at-keeps (λ (x : Part). length x.own) t.parts r _ refl r)
  own_done (Receives a) t = less_none (with_at-keeps (λ (x : Part). length x.own) t.parts r _ refl r)
  own_done ProtocolUsed t = less_none (with_at-keeps (λ (x : Part). length x.own) t.parts r _ refl r)
  own_done (FirstKept m) t = less_none (with_at-keeps (λ (x : Part). length x.own) t.parts r _ refl r)
  own_done (BitSet b v) t = less_none (with_at-keeps (λ (x : Part). length x.own) t.parts r _ refl r)
  own_done _ t = omega arith

  pub own_all : (acts : List Act) (t : Tables) → length ((after_acts r acts t).parts r).own ≡ length (t.parts r).own - sum_by owns acts
  own_all [] t = omega arith
  own_all (a ∷ acts) t =
      let first = own_done a t in
      let rest = own_all acts (after_act r a t) in
      let all : sum_by owns (a ∷ acts) ≡ owns a + sum_by owns acts = sum_by-cons owns a acts in
      omega arith

  pub bits_all : (acts : List Act) (t : Tables) → length ((after_acts r acts t).parts r).bits ≡ length (t.parts r).bits
  bits_all acts t = over_acts (λ (t : Tables). length (t.parts r).bits) r bits_done acts t

-- whether a rank holds a near half after an act, by whether it did before
abbrev pub nears : Act → Bool → Bool
nears (Twin to) b = true
nears (NearOut m) b = false
nears _ b = b

abbrev pub nears_all : List Act → Bool → Bool
nears_all [] b = b
nears_all (a ∷ acts) b = nears_all acts (nears a b)

-- no wire is counted while a near half is held, and only one that is held goes out
abbrev pub MayNear : Act → Bool → Type 0
MayNear (Fresh q) b = b ≡ false
MayNear (Twin to) b = b ≡ false
MayNear (NearOut m) b = b ≡ true
MayNear _ b = Unit {0}

abbrev pub AllMayNear : List Act → Bool → Type 0
AllMayNear [] b = Unit {0}
AllMayNear (a ∷ acts) b = MayNear a b × AllMayNear acts (nears a b)

-- the near halves of a rank are that which it made last, or none
abbrev pub IsNear : ℕ → Bool → Part → Wires → Type 0
IsNear r b v ws = ws ≡ one_if b (near_of r v)

near_same : (r : ℕ) (b : Bool) (v x : Part) (ws : Wires) → x.made ≡ v.made → IsNear r b v ws → IsNear r b x ws
near_same r b v x ws e h = h ∙ ap (λ k. let w : Wire = record { rank = r; made = k - 1; near = true } in one_if b w) (sym e)

module _ (r : ℕ) where
  pub near_done : (act : Act) (t : Tables) (b : Bool) → MayNear act b → IsNear r b (t.parts r) (t.near r) → IsNear r (nears act b) ((after_act r act t).parts r) ((after_act r act t).near r)
  near_done (Twin to) t b may h =
      let v = t.parts r in
      let none : t.near r ≡ no_wires = h ∙ ap (λ c. one_if c (near_of r v)) may in
      let e : v.made ≡ v.made + 1 - 1 = omega arith in
      with_at-here t.near r (put (t.near r) (near_made t r) true)
      ∙ ap (λ ws. put ws (near_made t r) true) none
      ∙ ap (λ k. let w : Wire = record { rank = r; made = k; near = true } in put no_wires w true) e
      ∙ ap (λ (x : Part). put no_wires (near_of r x) true) (sym (with_at-here t.parts r (with_one_counted v)))
  near_done (NearOut m) t b may h =
      let w = near_of r (t.parts r) in
      let one : t.near r ≡ put no_wires w true = h ∙ ap (λ c. one_if c w) may in
      with_at-here t.near r (put (t.near r) (near_last t r) false) ∙ ap (λ ws. put ws w false) one ∙ without_itself w
  near_done (Fresh q) t b may h = h ∙ ap (λ c. one_if c (near_of r (t.parts r))) may ∙ ap (λ c. one_if c (near_of r ((after_act r (Fresh q) t).parts r))) (sym may)
  near_done (Receives a) t b may h = near_same r b (t.parts r) ((after_act r (Receives a) t).parts r) (t.near r) (with_at-keeps (λ (x : Part). x.made) t.parts r _ refl r) h
  near_done OwnUsed t b may h = near_same r b (t.parts r) ((after_act r OwnUsed t).parts r) (t.near r) (with_at-keeps (λ (x : Part). x.made) t.parts r _ refl r) h
  near_done ProtocolUsed t b may h = near_same r b (t.parts r) ((after_act r ProtocolUsed t).parts r) (t.near r) (with_at-keeps (λ (x : Part). x.made) t.parts r _ refl r) h
  near_done (FirstKept m) t b may h = near_same r b (t.parts r) ((after_act r (FirstKept m) t).parts r) (t.near r) (with_at-keeps (λ (x : Part). x.made) t.parts r _ refl r) h
  near_done (BitSet k v) t b may h = near_same r b (t.parts r) ((after_act r (BitSet k v) t).parts r) (t.near r) (with_at-keeps (λ (x : Part). x.made) t.parts r _ refl r) h
  near_done _ t b may h = h

  pub near_all : (acts : List Act) (t : Tables) (b : Bool) → AllMayNear acts b → IsNear r b (t.parts r) (t.near r)
      → IsNear r (nears_all acts b) ((after_acts r acts t).parts r) ((after_acts r acts t).near r)
  near_all [] t b may h = h
  near_all (a ∷ acts) t b may h = near_all acts (after_act r a t) (nears a b) may.1 (near_done a t b may.0 h)

-- ---- the table
-- whether slot k is full at a stage of an instruction, by whether it was before it
abbrev pub full_at : Instr → ℕ → ℕ → Bool → Bool
full_at i s k b = cond (is_settled (middle_of i) s) (is_full_after k b (uses_of i)) b

-- after a stage, what is so at the next one, or else at the instruction's end
abbrev pub later : {A : Type 0} → Instr → ℕ → A → A → A
later i s more ended = cond (nat_lt (s + 1) (events_of i)) more ended

-- slot k of the rank has the half that it took
abbrev pub HasHalf : Tables → ℕ → Option ℕ → Type 0
HasHalf t r settles = (q : ℕ) → settles ≡ Some q → t.slots r q ≡ Some (wire_of (t.parts r).taken)

-- what the acts of a line come to: the slots, halves and outcomes that the instruction has at its next stage, or at its end
pub record Comes (t : Tables) (r : ℕ) (i : Instr) (s : ℕ) (w : Row) : Type 0 where
  pub full : (k : ℕ) (b : Bool) → fill_all (list_of w.acts) k (full_at i s k b) ≡ cond (nat_lt (s + 1) (events_of i)) (full_at i (s + 1) k b) (is_full_after k b (uses_of i))
  pub protocol : sum_by uses (list_of w.acts) + outcomes_in (middle_of i) s ≡ cond (nat_lt (s + 1) (events_of i)) (outcomes_in (middle_of i) (s + 1)) (protocol_of i)
  pub own : sum_by owns (list_of w.acts) ≡ cond (nat_lt (s + 1) (events_of i)) 0 (own_of i)
  pub few : nat_lt (protocol_of i) (later i s (outcomes_in (middle_of i) (s + 1)) (protocol_of i)) ≡ false
  pub may_near : AllMayNear (list_of w.acts) (has_near (middle_of i) s)
  pub near : nears_all (list_of w.acts) (has_near (middle_of i) s) ≡ later i s (has_near (middle_of i) (s + 1)) false
  pub half : (nat_lt 0 s ≡ true → HasHalf t r (middle_of i).settles) → nat_lt (s + 1) (events_of i) ≡ true → HasHalf (after_acts r (list_of w.acts) t) r (middle_of i).settles

-- a line whose acts compute
comes : {t : Tables} {r : ℕ} {i : Instr} {s : ℕ} {w : Row}
    → ((k : ℕ) (b : Bool) → fill_all (list_of w.acts) k (full_at i s k b) ≡ cond (nat_lt (s + 1) (events_of i)) (full_at i (s + 1) k b) (is_full_after k b (uses_of i)))
    → sum_by uses (list_of w.acts) + outcomes_in (middle_of i) s ≡ cond (nat_lt (s + 1) (events_of i)) (outcomes_in (middle_of i) (s + 1)) (protocol_of i)
    → sum_by owns (list_of w.acts) ≡ cond (nat_lt (s + 1) (events_of i)) 0 (own_of i)
    → nat_lt (protocol_of i) (later i s (outcomes_in (middle_of i) (s + 1)) (protocol_of i)) ≡ false
    → AllMayNear (list_of w.acts) (has_near (middle_of i) s) × (nears_all (list_of w.acts) (has_near (middle_of i) s) ≡ later i s (has_near (middle_of i) (s + 1)) false)
    → (middle_of i).settles ≡ None → Comes t r i s w
comes full protocol own few near none =
    record { full = full; protocol = protocol; own = own; few = few; may_near = near.0; near = near.1; half = λ h more q e. let n : None ≡ Some q = sym none ∙ e in cc }

-- a letter that is done or not
fill_if : (b : Bool) (l : Letter) (k : ℕ) (c : Bool) → fill_all (list_of (few_if b (letter l))) k c ≡ c
fill_if true l k c = refl
fill_if false l k c = refl

none_if : (f : Act → ℕ) (b : Bool) (l : Letter) → sum_by f (list_of (letter l)) ≡ 0 → sum_by f (list_of (few_if b (letter l))) ≡ 0
none_if f true l e = e
none_if f false l e = refl

near_if : (b : Bool) (l : Letter) (c d : Bool) → c ≡ d → AllMayNear (list_of (few_if b (letter l))) c × (nears_all (list_of (few_if b (letter l))) c ≡ d)
near_if true l c d e = ((tt, tt), e)
near_if false l c d e = (tt, e)

half_if : (t : Tables) (r : ℕ) (b : Bool) (l : Letter) (o : Option ℕ) → HasHalf t r o → HasHalf (after_acts r (list_of (few_if b (letter l))) t) r o
half_if t r true l o h = h
half_if t r false l o h = h

-- a half that was taken into a slot
settled_half : (t : Tables) (r : ℕ) (a : Lane) (q : ℕ) → HasHalf (after_acts r (Receives a ∷ Settle (wire_of (front t a)) q ∷ []) t) r (Some q)
settled_half t r a q k e =
    let x = front t a in
    let after : Part = record (t.parts r) { taken = x } in
    ap (λ j. with_slot t.slots r q (Some (wire_of x)) r j) (sym (same_Some q k e)) ∙ with_slot-here t.slots r q (Some (wire_of x))
    ∙ ap (λ (v : Part). Some (wire_of v.taken)) (sym (with_at-here t.parts r after))

gate_keeps : (g : Gate) (k : ℕ) (b : Bool) → b ≡ is_full_after k b (gate_uses g)
gate_keeps (gate.One g s) k b = refl
gate_keeps (gate.Cx c s) k b = refl
gate_keeps (gate.Cz c s) k b = refl

module _ (p : Programs) (t : Tables) (r : ℕ) where
  -- a half that is taken into a slot
  settles : (i : Instr) (w : Row) (a : Lane) (q : ℕ) → (middle_of i).settles ≡ Some q → list_of w.acts ≡ Receives a ∷ Settle (wire_of (front t a)) q ∷ []
      → ((k : ℕ) (b : Bool) → fill_all (list_of w.acts) k (full_at i 0 k b) ≡ cond (nat_lt 1 (events_of i)) (full_at i 1 k b) (is_full_after k b (uses_of i)))
      → sum_by uses (list_of w.acts) + outcomes_in (middle_of i) 0 ≡ cond (nat_lt 1 (events_of i)) (outcomes_in (middle_of i) 1) (protocol_of i)
      → sum_by owns (list_of w.acts) ≡ cond (nat_lt 1 (events_of i)) 0 (own_of i)
      → nat_lt (protocol_of i) (later i 0 (outcomes_in (middle_of i) 1) (protocol_of i)) ≡ false
      → AllMayNear (list_of w.acts) (has_near (middle_of i) 0) × (nears_all (list_of w.acts) (has_near (middle_of i) 0) ≡ later i 0 (has_near (middle_of i) 1) false)
      → Comes t r i 0 w
  settles i w a q slot is full protocol own few near =
      record {
        full = full;
        protocol = protocol;
        own = own;
        few = few;
        may_near = near.0;
        near = near.1;
        half = λ h more k e. subst (λ xs. (after_acts r xs t).slots r k ≡ Some (wire_of ((after_acts r xs t).parts r).taken)) (sym is) (settled_half t r a q k (sym slot ∙ e));
      }

  -- a letter that is done or not, in the middle of an instruction or at its end
  fixes : (i : Instr) (s : ℕ) (e : Event) (b : Bool) (l : Letter)
      → ((k : ℕ) (c : Bool) → full_at i s k c ≡ cond (nat_lt (s + 1) (events_of i)) (full_at i (s + 1) k c) (is_full_after k c (uses_of i)))
      → 0 + outcomes_in (middle_of i) s ≡ cond (nat_lt (s + 1) (events_of i)) (outcomes_in (middle_of i) (s + 1)) (protocol_of i)
      → 0 ≡ cond (nat_lt (s + 1) (events_of i)) 0 (own_of i)
      → nat_lt (protocol_of i) (later i s (outcomes_in (middle_of i) (s + 1)) (protocol_of i)) ≡ false
      → has_near (middle_of i) s ≡ later i s (has_near (middle_of i) (s + 1)) false
      → nat_lt 0 s ≡ true → (checks : Few Check)
      → Comes t r i s (row e Always checks (few_if b (letter l)))
  fixes i s e b l full protocol own few near begun checks =
      record {
        full = λ k c. fill_if b l k _ ∙ full k c;
        protocol = ap (λ n. n + outcomes_in (middle_of i) s) (none_if uses b l refl) ∙ protocol;
        own = none_if owns b l refl ∙ own;
        few = few;
        may_near = (near_if b l (has_near (middle_of i) s) _ near).0;
        near = (near_if b l (has_near (middle_of i) s) _ near).1;
        half = λ h more. half_if t r b l (middle_of i).settles (h begun);
      }

  table : (i : Instr) → EachFrom (Comes t r i) 0 (rows p t r i)
  table (instr.Alloc q) = (comes (λ k b. refl) refl refl refl ((refl, tt), refl) refl, tt)
  table (instr.Free q) = (comes (λ k b. refl) refl refl refl ((tt, tt), refl) refl, tt)
  table (instr.Do g) = (comes (λ k b. gate_keeps g k b) refl refl refl ((tt, tt), refl) refl, tt)
  table (instr.Measure q b) = (comes (λ k b. refl) refl refl refl ((tt, (tt, (tt, tt))), refl) refl, tt)
  table (instr.Set b v) = (comes (λ k b. refl) refl refl refl ((tt, tt), refl) refl, tt)
  table (instr.Xor b c) = (comes (λ k b. refl) refl refl refl ((tt, tt), refl) refl, tt)
  table (instr.When b g) =
      let l = gate_letter (wire_in t r) g in
      let set = bit_of t r b in
      (comes (λ k c. fill_if set l k c ∙ gate_keeps g k c) (ap (λ n. n + 0) (none_if uses set l refl)) (none_if owns set l refl) refl (near_if set l false false refl) refl, tt)
  table (instr.SendBit b to tag) = (comes (λ k b. refl) refl refl refl ((tt, tt), refl) refl, tt)
  table (instr.RecvBit b from tag) = (comes (λ k b. refl) refl refl refl ((tt, (tt, tt)), refl) refl, tt)
  table (instr.CopyTo q to tag) = (
    comes (λ k b. refl) refl refl refl ((refl, (tt, tt)), refl) refl,
    (
      comes (λ k b. refl) refl refl refl ((tt, tt), refl) refl,
      (comes (λ k b. refl) refl refl refl ((tt, (refl, (tt, tt))), refl) refl, tt),
    ),
  )
  table (instr.CopyFrom q from tag) =
      let i = instr.CopyFrom q from tag in
      let x = (t.parts r).taken in (
        settles i _ (lane from r kind.Copy tag) q refl refl (λ k b. refl) refl refl refl ((tt, (tt, tt)), refl),
        (fixes i 1 _ (first_bit x) (Flip (wire_of x)) (λ k c. refl) refl refl refl refl refl _, tt),
      )
  table (instr.UndoTo q to tag) =
      (comes (λ k b. refl) refl refl refl ((tt, tt), refl) refl, (comes (λ k b. refl) refl refl refl ((tt, (tt, (tt, tt))), refl) refl, tt))
  table (instr.UndoFrom q from tag) =
      let i = instr.UndoFrom q from tag in (
        comes (λ k b. refl) refl refl refl ((tt, tt), refl) refl,
        (fixes i 1 _ (first_bit (t.parts r).taken) (Phase 4 (wire_in t r q)) (λ k c. refl) refl refl refl refl refl _, tt),
      )
  table (instr.MoveTo q to tag) = (
    comes (λ k b. refl) refl refl refl ((refl, (tt, tt)), refl) refl,
    (
      comes (λ k b. refl) refl refl refl ((tt, tt), refl) refl,
      (
        comes (λ k b. refl) refl refl refl ((tt, tt), refl) refl,
        (
          comes (λ k b. refl) refl refl refl ((tt, (refl, (tt, tt))), refl) refl,
          (comes (λ k b. refl) refl refl refl ((tt, (tt, (tt, tt))), refl) refl, tt),
        ),
      ),
    ),
  )
  table (instr.MoveFrom q from tag) =
      let i = instr.MoveFrom q from tag in
      let x = (t.parts r).taken in (
        settles i _ (lane from r kind.Move tag) q refl refl (λ k b. refl) refl refl refl ((tt, (tt, tt)), refl),
        (
          fixes i 1 _ (first_bit x) (Flip (wire_of x)) (λ k c. refl) refl refl refl refl refl _,
          (fixes i 2 _ (second_bit x) (Phase 4 (wire_of x)) (λ k c. refl) refl refl refl refl refl _, tt),
        ),
      )
  table (instr.ReachTo q to tag) =
      let i = instr.ReachTo q to tag in (
        comes (λ k b. refl) refl refl refl ((refl, (tt, tt)), refl) refl,
        (
          comes (λ k b. refl) refl refl refl ((tt, tt), refl) refl,
          (
            comes (λ k b. refl) refl refl refl ((tt, (refl, (tt, tt))), refl) refl,
            (
              comes (λ k b. refl) refl refl refl ((tt, tt), refl) refl,
              (fixes i 4 _ (first_bit (t.parts r).taken) (Phase 4 (wire_in t r q)) (λ k c. refl) refl refl refl refl refl _, tt),
            ),
          ),
        ),
      )
  table (instr.ReachFrom q from tag) =
      let i = instr.ReachFrom q from tag in
      let x = (t.parts r).taken in (
        comes (λ k b. refl) refl refl refl ((tt, tt), refl) refl,
        (
          fixes i 1 _ (first_bit x) (Flip (wire_of x)) (λ k c. refl) refl refl refl refl refl _,
          (
            comes (λ k b. refl) refl refl refl ((tt, tt), refl) refl,
            (
              comes (λ k b. refl) refl refl refl ((tt, tt), refl) refl,
              (comes (λ k b. refl) refl refl refl ((tt, (tt, (tt, tt))), refl) refl, tt),
            ),
          ),
        ),
      )

  -- what the acts of the line at a stage come to
  pub line_comes : (i : Instr) (s : ℕ) (w : Row) → slice_get (rows p t r i) s ≡ Some w → Comes t r i s w
  line_comes i s w line = at_stage (Comes t r i) (rows p t r i) s w (table i) line

-- ---- the rank after a line
-- slot q before stage s of instruction k, by whether it was full before the instruction
full_of : (is : List Instr) (k q : ℕ) (i : Instr) (b : Bool) → full_after (take (k + 1) is) q ≡ is_full_after q (full_after (take k is) q) (uses_of i)
    → full_after (take (cond b (k + 1) k) is) q ≡ cond b (is_full_after q (full_after (take k is) q) (uses_of i)) (full_after (take k is) q)
full_of is k q i true h = h
full_of is k q i false h = refl

module _ (p : Programs) (t : Tables) (r : ℕ) (i : Instr) (s : ℕ) (w : Row) (next : IsNext p t r i s) (line : slice_get (rows p t r i) s ≡ Some w)
    (well : IsRankWell p t r) (at : IsStep p r (t.parts r).at i) where
  pub rank_event : IsRankWell p (event_done (events_of i) r (list_of w.acts) t) r
  rank_event = by_end (nat_lt (s + 1) (events_of i)) refl
    where
      by_end : (b : Bool) → nat_lt (s + 1) (events_of i) ≡ b → IsRankWell p (event_done (events_of i) r (list_of w.acts) t) r
      by_end true more =
          let n = events_of i in
          let acts = list_of w.acts in
          let x = rank_of p r in
          let m = middle_of i in
          let k = (t.parts r).at in
          let v = (after_acts r acts t).parts r in
          let u = event_done n r acts t in
          let now : Part = record v { stage = s + 1 } in
          let here = standing p t r i s next well in
          let so = line_comes p t r i s w line in
          let part = part_on n s r acts t v refl (all_stage_kept r r acts t ∙ next.stage) more in
          let outcomes : sum_by uses acts + outcomes_in m s ≡ outcomes_in m (s + 1) = so.protocol ∙ ap (λ b. cond b (outcomes_in m (s + 1)) (protocol_of i)) more in
          let few : outcomes_in m (s + 1) ≤ protocol_of i = ltb-false (protocol_of i) (outcomes_in m (s + 1))
          (ap (λ b. nat_lt (protocol_of i) (cond b (outcomes_in m (s + 1)) (protocol_of i))) (sym more) ∙ so.few) in
          let owned : sum_by owns acts ≡ 0 = so.own ∙ ap (λ b. let j : ℕ = cond b 0 (own_of i) in j) more in
          let stands : Stands r x m k (s + 1) now (u.slots r) (u.near r) = record {
            full = λ q.
                let b = full_after (take k x.instructions) q in
                full_all r acts t q ∙ ap (fill_all acts q) (here.full q ∙ full_of x.instructions k q i (is_settled m s) (at.full q)) ∙ so.full q b
                ∙ ap (λ c. cond c (full_at i (s + 1) q b) (is_full_after q b (uses_of i))) more
                ∙ sym (full_of x.instructions k q i (is_settled m (s + 1)) (at.full q));
            near_so = near_all r acts t (has_near m s) so.may_near here.near_so
                ∙ ap (λ b. one_if b (near_of r v)) (so.near ∙ ap (λ b. cond b (has_near m (s + 1)) false) more);
            in_hand = λ q e begun. so.half (λ old q e. here.in_hand q e old) more q e;
            protocol = omega (arith, protocol_all r acts t, here.protocol, outcomes, few, at.protocol, at.protocol_few);
            own = omega (arith, own_all r acts t, here.own, owned);
            bits = bits_all r acts t ∙ here.bits;
          } in
          rank_by p u r now (u.slots r) (u.near r) part (λ q. refl) refl
          (subst (λ j. Stands r x (middle_at (instr_at p r j)) j (s + 1) now (u.slots r) (u.near r)) (sym (all_at_kept r r acts t))
          (subst (λ o. Stands r x (middle_at o) k (s + 1) now (u.slots r) (u.near r)) (sym next.read) stands))
      by_end false last =
          let n = events_of i in
          let acts = list_of w.acts in
          let x = rank_of p r in
          let m = middle_of i in
          let k = (t.parts r).at in
          let v = (after_acts r acts t).parts r in
          let u = event_done n r acts t in
          let now : Part = record v { at = v.at + 1; stage = 0 } in
          let here = standing p t r i s next well in
          let so = line_comes p t r i s w line in
          let part = part_ended n s r acts t v refl (all_stage_kept r r acts t ∙ next.stage) last in
          let outcomes : sum_by uses acts + outcomes_in m s ≡ protocol_of i = so.protocol ∙ ap (λ b. cond b (outcomes_in m (s + 1)) (protocol_of i)) last in
          let owned : sum_by owns acts ≡ own_of i = so.own ∙ ap (λ b. let j : ℕ = cond b 0 (own_of i) in j) last in
          let stands : Stands r x (middle_at (instr_at p r (k + 1))) (k + 1) 0 now (u.slots r) (u.near r) = record {
            full = λ q.
                let b = full_after (take k x.instructions) q in
                full_all r acts t q ∙ ap (fill_all acts q) (here.full q ∙ full_of x.instructions k q i (is_settled m s) (at.full q)) ∙ so.full q b
                ∙ ap (λ c. cond c (full_at i (s + 1) q b) (is_full_after q b (uses_of i))) last ∙ sym (at.full q);
            near_so = near_all r acts t (has_near m s) so.may_near here.near_so
                ∙ ap (λ b. one_if b (near_of r v)) (so.near ∙ ap (λ b. cond b (has_near m (s + 1)) false) last);
            in_hand = λ q e begun. cc;
            protocol = omega (arith, protocol_all r acts t, here.protocol, outcomes, at.protocol, at.protocol_few);
            own = omega (arith, own_all r acts t, here.own, owned, at.own, sum_by-take-le own_of x.instructions (k + 1));
            bits = bits_all r acts t ∙ here.bits;
          } in
          rank_by p u r now (u.slots r) (u.near r) part (λ q. refl) refl
          (subst (λ j. Stands r x (middle_at (instr_at p r (j + 1))) (j + 1) 0 now (u.slots r) (u.near r)) (sym (all_at_kept r r acts t)) stands)
