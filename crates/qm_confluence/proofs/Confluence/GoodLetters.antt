-- Each letter of an ideal run is one that a store can do: no pair, its operands distinct and not gone, and a new name new
use Rattle.std.proofs.Common.{◌≡◌, ◌≢◌, ◌∙◌, ℕ, suc, ◌<◌, ◌⊎◌, inl, inr, nat_eq, Bool, true, false, cond, if◌then◌else◌, List, [], ◌∷◌, ◌++◌, length, fold, Option, Some, None, Contains, refl, sym, ap, subst, append_assoc, append-nil, arith}
use Rattle.std.proofs.lemmas.List.Elements.{Contains-append_cases, Contains-push_cases}
use Rattle.qm_denot.specs.declared.Wire.{Wire}
use Rattle.qm_denot.specs.declared.Letter.{Letter}
use Rattle.qm_denot.specs.declared.Letter.TheVariants.{Cx, Pair, Keep, Take}
use Rattle.qm_denot.specs.Circuits.{Circuit}
use Rattle.qm_denot.specs.CircuitFacts.{IsProper, AllProper}
use Rattle.qm_denot.specs.Protocols.{letter_if}
use Rattle.qm_denot.specs.WireLists.{lacks}
use Rattle.qm_denot.specs.Weights.{operands, names, also}
use Rattle.qm_denot.proofs.OperandFacts.{Each, EachOperand}
use Rattle.qm_instr.specs.declared.OneGate.TheVariants as one
use Rattle.qm_instr.specs.declared.Gate.{Gate}
use Rattle.qm_instr.specs.declared.Gate.TheVariants as gate
use Rattle.qm_instr.specs.declared.Instr.{Instr}
use Rattle.qm_instr.specs.declared.Instr.TheVariants as instr
use Rattle.qm_instr.specs.Programs.{Programs, IsInRange}
use Rattle.qm_check.specs.Checks.{IsReady}
use Rattle.qm_check.specs.Operands.{uses_of}
use Rattle.qm_check.specs.Slots.{full_after}
use Rattle.qm_check.proofs.Faultless.{FindsSlots, before}
use Rattle.qm_proto.specs.Model.Rows.{gate_letter}
use Rattle.qm_proto.specs.Model.Ideal.{IdealTables, IdealState, ideal_wire_made, ideal_next, ideal_enabled, ideal_at_start, ideal_replay, IsIdealFrom, IsIdealRun}
use Rattle.qm_proto.proofs.Changes.{number_itself}
use Rattle.qm_confluence.specs.Counted.{IsCounted}
use Rattle.qm_confluence.specs.Letters.{gone_by, all_gone, new_by, IsGoodAfter, AreGoodAfter, GoodLettersLaw}
use Rattle.qm_confluence.proofs.Confluence.ByView.{View, slot_wire, bit_in, letters_by, acts_by, view}
use Rattle.qm_confluence.proofs.Confluence.Diamond.{next_is}
use Rattle.qm_confluence.proofs.Confluence.Effects.{stepped, slot_act, slot_stepped}
use Rattle.qm_confluence.proofs.Confluence.GoneWires.{still_free, free_once_emptied, not_made}
use Rattle.qm_confluence.proofs.Confluence.Helpers.{IsNextInstr, next_where_able}
use Rattle.qm_confluence.proofs.Confluence.LetterWires.{letters_where, names_made, slot_found, offered}
use Rattle.qm_confluence.proofs.Confluence.NamedWires.{IsWellState, NamesCounted, state_next}
use Rattle.qm_confluence.proofs.Confluence.OnePlace.{InSlot, IsFree}
use Rattle.qm_confluence.proofs.Confluence.ProperLetters.{letters_proper}
use Rattle.qm_confluence.proofs.Confluence.WellIdeal.{at_step, well_start}

-- ---- lists of wires
no_wire_in : (w : Wire) → Contains [] w → ⊥
no_wire_in w (k, below, is) = omega arith

first_or_rest : (v w : Wire) (ws : List Wire) → Contains (v ∷ ws) w → (v ≡ w) ⊎ Contains ws w
first_or_rest v w ws h = elim (Contains-append_cases (v ∷ []) ws w h) [
  | inl first ↦ elim (Contains-push_cases [] v w first) [ inl n ↦ absurd (no_wire_in w n) | inr e ↦ inl e ]
  | inr rest ↦ inr rest
]

each_contained : (P : Wire → Type 0) (ws : List Wire) → Each P ws → (w : Wire) → Contains ws w → P w
each_contained P [] h w c = absurd (no_wire_in w c)
each_contained P (v ∷ ws) h w c = elim (first_or_rest v w ws c) [ inl e ↦ subst P e h.0 | inr c ↦ each_contained P ws h.1 w c ]

also_cases : (ws vs : List Wire) (w : Wire) → Contains (also ws vs) w → Contains ws w ⊎ Contains vs w
also_cases ws [] w h = inl h
also_cases ws (v ∷ vs) w h = by_bool (lacks ws v) (λ c. also_cases (v ∷ ws) vs w c) (λ c. also_cases ws vs w c) h
  where
    first : Contains (v ∷ vs) v
    first = (0, omega arith, refl)

    later : Contains vs w → Contains (v ∷ vs) w
    later (k, below, is) = (suc k, omega (arith, below), is)

    by_bool : (b : Bool) → (Contains (also (v ∷ ws) vs) w → Contains (v ∷ ws) w ⊎ Contains vs w) → (Contains (also ws vs) w → Contains ws w ⊎ Contains vs w)
        → Contains (if b then also (v ∷ ws) vs else also ws vs) w → Contains ws w ⊎ Contains (v ∷ vs) w
    by_bool true more same c = elim (more c) [
      | inl x ↦ elim (first_or_rest v w ws x) [ inl e ↦ inr (subst (λ u. Contains (v ∷ vs) u) e first) | inr y ↦ inl y ]
      | inr y ↦ inr (later y)
    ]
    by_bool false more same c = elim (same c) [ inl x ↦ inl x | inr y ↦ inr (later y) ]

named_counted : (t : IdealTables) (c : Circuit) → NamesCounted t c → (w : Wire) → Contains (names c) w → IsCounted t w
named_counted t [] named w h = absurd (no_wire_in w h)
named_counted t (l ∷ ls) named w h = elim (also_cases (names ls) (operands l) w h) [
  | inl x ↦ named_counted t ls named.1 w x
  | inr y ↦ each_contained (IsCounted t) (operands l) named.0 w y
]

-- ---- circuits, one after another
gone_append : (c ls : Circuit) → all_gone (c ++ ls) ≡ all_gone c ++ all_gone ls
gone_append [] ls = refl
gone_append (l ∷ c) ls = ap (λ ws. gone_by l ++ ws) (gone_append c ls) ∙ sym (append_assoc (gone_by l) (all_gone c) (all_gone ls))

pub good_append : (b c ls : Circuit) → AreGoodAfter b c → AreGoodAfter (b ++ c) ls → AreGoodAfter b (c ++ ls)
good_append b [] ls h k = subst (λ d. AreGoodAfter d ls) (append-nil b) k
good_append b (l ∷ c) ls h k = (h.0, good_append (b ++ l ∷ []) c ls h.1 (subst (λ d. AreGoodAfter d ls) (sym (append_assoc b (l ∷ []) c)) k))

pub good_rest : (b c ls : Circuit) → AreGoodAfter b (c ++ ls) → AreGoodAfter (b ++ c) ls
good_rest b [] ls h = subst (λ d. AreGoodAfter d ls) (sym (append-nil b)) h
good_rest b (l ∷ c) ls h = subst (λ d. AreGoodAfter d ls) (append_assoc b (l ∷ []) c) (good_rest (b ++ l ∷ []) c ls h.1)

-- ---- the letters of a step
-- a letter that gives no new name
record IsPlain (l : Letter) : Type 0 where
  no_pair : (a b : Wire) → l ≢ Pair a b
  new : new_by l ≡ []
  gone : gone_by l ≡ []

gate_plain : (g : Gate) (wire : ℕ → Wire) → IsPlain (gate_letter wire g)
gate_plain (gate.One one.X q) wire = record { no_pair = λ a b e. cc; new = refl; gone = refl }
gate_plain (gate.One one.Z q) wire = record { no_pair = λ a b e. cc; new = refl; gone = refl }
gate_plain (gate.One one.H q) wire = record { no_pair = λ a b e. cc; new = refl; gone = refl }
gate_plain (gate.One one.S q) wire = record { no_pair = λ a b e. cc; new = refl; gone = refl }
gate_plain (gate.One one.Sdg q) wire = record { no_pair = λ a b e. cc; new = refl; gone = refl }
gate_plain (gate.One one.T q) wire = record { no_pair = λ a b e. cc; new = refl; gone = refl }
gate_plain (gate.One one.Tdg q) wire = record { no_pair = λ a b e. cc; new = refl; gone = refl }
gate_plain (gate.Cx c q) wire = record { no_pair = λ a b e. cc; new = refl; gone = refl }
gate_plain (gate.Cz c q) wire = record { no_pair = λ a b e. cc; new = refl; gone = refl }

module _ (c : Circuit) where
  abbrev Here : Wire → Type 0
  Here w = ¬ Contains (all_gone c) w

  good_where : (l : Letter) → Each Here (operands l) → IsProper l → ((a b : Wire) → l ≢ Pair a b) → ((w : Wire) → Contains (new_by l) w → ¬ Contains (names c) w) → IsGoodAfter c l
  good_where l here proper no_pair new = record { here = each_contained Here (operands l) here; no_pair = no_pair; proper = proper; new = new }

  old_name : (l : Letter) → new_by l ≡ [] → (w : Wire) → Contains (new_by l) w → ¬ Contains (names c) w
  old_name l e w h = absurd (no_wire_in w (subst (λ ws. Contains ws w) e h))

  gate_good : (g : Gate) (wire : ℕ → Wire) → Each Here (operands (gate_letter wire g)) → IsProper (gate_letter wire g) → IsGoodAfter c (gate_letter wire g)
  gate_good g wire here proper =
      let plain = gate_plain g wire in
      good_where (gate_letter wire g) here proper plain.no_pair (old_name (gate_letter wire g) plain.new)

  if_good : (b : Bool) (g : Gate) (wire : ℕ → Wire) → EachOperand Here (letter_if b (gate_letter wire g)) → AllProper (letter_if b (gate_letter wire g)) → AreGoodAfter c (letter_if b (gate_letter wire g))
  if_good true g wire here proper = (gate_good g wire here.0 proper.0, tt)
  if_good false g wire here proper = tt

  after_cx : (x y w : Wire) → Here w → ¬ Contains (all_gone (c ++ Cx x y ∷ [])) w
  after_cx x y w here h = here (subst (λ ws. Contains ws w) (gone_append c (Cx x y ∷ []) ∙ append-nil (all_gone c)) h)

  letters_good : (r : ℕ) (i : Instr) (v : View) → EachOperand Here (letters_by r i v) → AllProper (letters_by r i v)
      → (names_made i ≡ true → ¬ Contains (names c) (record { rank = r; made = v.part.made; near = false })) → AreGoodAfter c (letters_by r i v)
  letters_good r (instr.Do g) v here proper made = (gate_good g (slot_wire v) here.0 proper.0, tt)
  letters_good r (instr.When b g) v here proper made = if_good (bit_in v b) g (slot_wire v) here proper
  letters_good r (instr.Free q) v here proper made = (good_where _ here.0 proper.0 (λ a b e. cc) (old_name (Take (slot_wire v q) false) refl), tt)
  letters_good r (instr.Measure q b) v here proper made = (good_where _ here.0 proper.0 (λ a b e. cc) (old_name (letters_head r q b v) refl), tt)
    where
      letters_head : ℕ → ℕ → ℕ → View → Letter
      letters_head r q b v = Keep (slot_wire v q) false
  letters_good r (instr.CopyTo q to tag) v here proper made = (good_where _ here.0 proper.0 (λ a b e. cc) (λ w h. absurd (no_wire_in w h)), tt)
  letters_good r (instr.ReachFrom q from tag) v here proper made = (good_where _ here.0 proper.0 (λ a b e. cc) (λ w h. absurd (no_wire_in w h)), tt)
  letters_good r (instr.MoveTo q to tag) v here proper made = (
    good_where _ here.0 proper.0 (λ a b e. cc)
        (λ w h named. elim (first_or_rest _ w [] h) [ inl e ↦ made refl (subst (λ u. Contains (names c) u) (sym e) named) | inr n ↦ no_wire_in w n ]),
    tt,
  )
  letters_good r (instr.UndoTo q to tag) v here proper made = (
    good_where _ here.0 proper.0 (λ a b e. cc) (λ w h. absurd (no_wire_in w h)),
    (
      record {
        here = λ w h. (let e : slot_wire v q ≡ w = elim (first_or_rest (slot_wire v q) w [] h) [ inl e ↦ e | inr n ↦ absurd (no_wire_in w n) ] in
            after_cx (v.offered to) (slot_wire v q) w (subst Here e here.1.0.0));
        no_pair = λ a b e. cc;
        proper = proper.1.0;
        new = λ w h. absurd (no_wire_in w h);
      },
      tt,
    ),
  )
  letters_good r _ v here proper made = tt

-- ---- the wires that a step's letters take away
record IsGivenUp (r : ℕ) (i : Instr) (v : View) (full : ℕ → Bool) (w : Wire) : Type 0 where
  q : ℕ
  is : slot_wire v q ≡ w
  found : full q ≡ true
  empty : fold (slot_act q) (v.slots q) (acts_by r i v) ≡ None

none_plain : (l : Letter) (w : Wire) → gone_by l ≡ [] → Contains (all_gone (l ∷ [])) w → ⊥
none_plain l w e h = no_wire_in w (subst (λ ws. Contains (ws ++ []) w) e h)

if_plain : (b : Bool) (g : Gate) (wire : ℕ → Wire) (w : Wire) → Contains (all_gone (letter_if b (gate_letter wire g))) w → ⊥
if_plain true g wire w h = none_plain (gate_letter wire g) w (gate_plain g wire).gone h
if_plain false g wire w h = no_wire_in w h

emptied_here : (q : ℕ) (o : Option Wire) → cond (nat_eq q q) None o ≡ None
emptied_here q o = ap (λ b. cond b None o) (number_itself q)

only : (v w : Wire) → Contains (v ∷ []) w → v ≡ w
only v w h = elim (first_or_rest v w [] h) [ inl e ↦ e | inr n ↦ absurd (no_wire_in w n) ]

given_up : (r : ℕ) (i : Instr) (v : View) (full : ℕ → Bool) (w : Wire) → FindsSlots full (uses_of i) → Contains (all_gone (letters_by r i v)) w → IsGivenUp r i v full w
given_up r (instr.Free q) v full w found h = record { q = q; is = only (slot_wire v q) w h; found = found; empty = emptied_here q (v.slots q) }
given_up r (instr.UndoTo q to tag) v full w found h = record { q = q; is = only (slot_wire v q) w h; found = found; empty = emptied_here q (v.slots q) }
given_up r (instr.MoveTo q to tag) v full w found h = record { q = q; is = only (slot_wire v q) w h; found = found; empty = emptied_here q (v.slots q) }
given_up r (instr.Do g) v full w found h = absurd (none_plain (gate_letter (slot_wire v) g) w (gate_plain g (slot_wire v)).gone h)
given_up r (instr.When b g) v full w found h = absurd (if_plain (bit_in v b) g (slot_wire v) w h)
given_up r (instr.Measure q b) v full w found h = absurd (no_wire_in w h)
given_up r (instr.CopyTo q to tag) v full w found h = absurd (no_wire_in w h)
given_up r (instr.ReachFrom q from tag) v full w found h = absurd (no_wire_in w h)
given_up r _ v full w found h = absurd (no_wire_in w h)

-- ---- a step
module _ (p : Programs) (ready : IsReady p) (ranges : IsInRange p) where
  -- the letters so far are good, and what they took away is counted and has no place
  record IsGoodState (s : IdealState) : Type 0 where
    well : IsWellState p ready ranges s
    good : AreGoodAfter [] s.circuit
    gone : (w : Wire) → Contains (all_gone s.circuit) w → IsFree s.tables w

  module _ (s : IdealState) (h : IsGoodState s) (r : ℕ) (known : r < length p.ranks) (i : Instr) (next : IsNextInstr p s.tables r i) where
    abbrev t : IdealTables
    t = s.tables

    abbrev v : View
    v = view p t r i

    abbrev full : ℕ → Bool
    full = full_after (before p r (t.parts r).at)

    abbrev after : IdealTables
    after = stepped r (acts_by r i v) t

    placed_here : (w : Wire) (k q : ℕ) → t.slots k q ≡ Some w → Here s.circuit w
    placed_here w k q there gone = (h.gone w gone).nowhere (InSlot k q) there

    all_here : EachOperand (Here s.circuit) (letters_by r i v)
    all_here =
        letters_where (Here s.circuit) r i v full (at_step p ready ranges t h.well.tables r known i next).slots
        (λ q f. placed_here (slot_wire v q) r q (slot_found p ready ranges t h.well.tables r q f))
        (λ e gone. not_made p t r h.well.tables.placed (ideal_wire_made t r) (h.gone (ideal_wire_made t r) gone).counted refl)
        (λ k e. let o = offered p ready ranges t h.well.tables r known i next k e in placed_here (v.offered k) k o.q o.there)

    step_good : AreGoodAfter s.circuit (letters_by r i v)
    step_good =
        letters_good s.circuit r i v all_here (letters_proper p ready ranges t h.well.tables r known i next)
        (λ e named. not_made p t r h.well.tables.placed (ideal_wire_made t r) (named_counted t s.circuit h.well.named (ideal_wire_made t r) named) refl)

    step_gone : (w : Wire) → Contains (all_gone (s.circuit ++ letters_by r i v)) w → IsFree after w
    step_gone w c = elim (Contains-append_cases (all_gone s.circuit) (all_gone (letters_by r i v)) w (subst (λ ws. Contains ws w) (gone_append s.circuit (letters_by r i v)) c)) [
      | inl old ↦ still_free p t r h.well.tables.placed w i next (h.gone w old)
      | inr new ↦ (
          let g = given_up r i v full w (at_step p ready ranges t h.well.tables r known i next).slots new in
          let there : t.slots r g.q ≡ Some w = slot_found p ready ranges t h.well.tables r g.q g.found ∙ ap (λ u. Some u) g.is in
          free_once_emptied p t r h.well.tables.placed w i next g.q there (slot_stepped r (acts_by r i v) t g.q ∙ g.empty))
    ]

  good_next : (s : IdealState) (r : ℕ) → IsGoodState s → r < length p.ranks → ideal_enabled p s.tables r ≡ true → IsGoodState (ideal_next p s r)
  good_next s r h known able =
      let n = next_where_able p s.tables r able in
      let is = next_is p s r n.0 n.1.read in
      record {
        well = state_next p ready ranges s r h.well known able;
        good = subst (λ (u : IdealState). AreGoodAfter [] u.circuit) (sym is) (good_append [] s.circuit _ h.good (step_good s h r known n.0 n.1));
        gone = subst (λ (u : IdealState). (w : Wire) → Contains (all_gone u.circuit) w → IsFree u.tables w) (sym is) (step_gone s h r known n.0 n.1);
      }

  good_along : (rs : List ℕ) (s : IdealState) → IsGoodState s → IsIdealFrom p s rs → AreGoodAfter [] (fold (ideal_next p) s rs).circuit
  good_along [] s h run = h.good
  good_along (r ∷ rs) s h run = good_along rs (ideal_next p s r) (good_next s r h run.0 run.1) run.2

pub good_letters : GoodLettersLaw
unfolding ideal_replay IsIdealRun
good_letters p ready ranges rs run =
    good_along p ready ranges rs (ideal_at_start p)
    (record { well = record { tables = well_start p; proper = tt; named = tt }; good = tt; gone = λ w h. absurd (no_wire_in w h) }) run
