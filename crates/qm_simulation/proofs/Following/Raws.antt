-- What a message in progress has begun, and which corrections of it are due, beside what it owes
use Rattle.std.proofs.Common.{◌≡◌, ◌≢◌, ℕ, zero, suc, ◌+◌, nat_eq, nat_lt, Bool, true, false, cond, if◌then◌else◌, List, [], ◌∷◌, ◌++◌, Option, Some, None, slice_index_or, filter, refl, sym, ap, ap₂, subst, ◌∙◌, append-nil, arith}
use Rattle.std.proofs.lemmas.Bool.{lt-ltb}
use Rattle.qm_denot.specs.declared.Wire.{Wire}
use Rattle.qm_denot.specs.declared.Letter.{Letter}
use Rattle.qm_denot.specs.declared.Letter.TheVariants.{Phase, Flip, Had, Cx, Pair, Take}
use Rattle.qm_denot.specs.Circuits.{IsEqualUpTo}
use Rattle.qm_denot.specs.Protocols.{letter_if}
use Rattle.qm_denot.proofs.EqualUpTo.{equal_refl}
use Rattle.qm_instr.specs.declared.Instr.{Instr}
use Rattle.qm_instr.specs.declared.Instr.TheVariants as instr
use Rattle.qm_instr.specs.declared.Kind.{Kind}
use Rattle.qm_instr.specs.declared.Kind.TheVariants as kind
use Rattle.qm_instr.specs.declared.Lane.{Lane}
use Rattle.qm_instr.specs.Programs.{Programs}
use Rattle.qm_denot.specs.declared.Parcel.{Parcel}
use Rattle.qm_proto.specs.declared.Row.{Row}
use Rattle.qm_proto.specs.declared.Act.{Act}
use Rattle.qm_proto.specs.Model.State.{Part, Tables, wire_in, wire_of, first_bit, second_bit}
use Rattle.qm_proto.specs.Model.Rows.{current, instr_at, source_wire}
use Rattle.qm_simulation.specs.Following.Debts.{Message, message_of, near_counted, far_counted, Holder, AtRank, OnLane}
use Rattle.qm_simulation.specs.Following.Simulation.{message_from, message_begun, event_message, is_due_after}
use Rattle.qm_safety.proofs.Tables.NextEvents.{IsNext, event_done, part_elsewhere}
use Rattle.qm_simulation.proofs.Following.Places.{IsIn, part_all, own_on, read_on, fresh_stage, other_wires}
use Rattle.qm_simulation.proofs.Following.Lending.{lender_of, lane_lender}
use Rattle.qm_simulation.proofs.Following.Frames.{offered_same}

-- the message of event s of instruction i
abbrev pub event_at : Tables → ℕ → Instr → ℕ → Message
event_at t r i s = message_from (if nat_eq s 0 then message_begun t r i else message_of r (t.parts r) i)

pub event_message_at : (p : Programs) (t : Tables) (r : ℕ) (i : Instr) (s : ℕ) → IsIn p t r i s → event_message t r (current p t r) ≡ event_at t r i s
event_message_at p t r i s here =
    ap (event_message t r) here.read ∙ ap (λ k. message_from (if nat_eq k 0 then message_begun t r i else message_of r (t.parts r) i)) here.stage

-- the letters begun of a message that is not decided, and the corrections due of one that is
pub record Raw : Type 0 where
  pub begun : List Letter
  pub pending : List Letter

abbrev pub raw : List Letter → List Letter → Raw
raw b q = record { begun = b; pending = q }

abbrev pub no_raw : Raw
no_raw = record { begun = []; pending = [] }

-- the near half of a far one
abbrev pub twin_of : Wire → Wire
twin_of f = record { rank = f.rank; made = f.made; near = true }

-- the letters of a reach up to its first Post
abbrev pub reached : Wire → Wire → Bool → List Letter
reached q f m = Pair (twin_of f) f ∷ Cx q (twin_of f) ∷ Take (twin_of f) m ∷ []

-- beside the table of the debts
abbrev pub raws : ℕ → Part → (ℕ → Wire) → (ℕ → Wire) → Instr → List Raw
raws r v w lent (instr.CopyTo q to tag) =
    let e = near_counted r v in
    let f = far_counted r v in
    no_raw ∷ raw (Pair e f ∷ []) [] ∷ raw (Pair e f ∷ Cx (w q) e ∷ []) [] ∷ []
raws r v w lent (instr.CopyFrom q from tag) = no_raw ∷ raw [] (letter_if (first_bit v.taken) (Flip (wire_of v.taken))) ∷ []
raws r v w lent (instr.MoveTo q to tag) =
    let e = near_counted r v in
    let f = far_counted r v in
    no_raw
    ∷ raw (Pair e f ∷ []) []
    ∷ raw (Pair e f ∷ Cx (w q) e ∷ []) []
    ∷ raw (Pair e f ∷ Cx (w q) e ∷ Had (w q) ∷ []) []
    ∷ raw (Pair e f ∷ Cx (w q) e ∷ Had (w q) ∷ Take e v.first ∷ []) []
    ∷ []
raws r v w lent (instr.MoveFrom q from tag) =
    let f = wire_of v.taken in
    no_raw
    ∷ raw [] (letter_if (second_bit v.taken) (Phase 4 f) ++ letter_if (first_bit v.taken) (Flip f))
    ∷ raw [] (letter_if (second_bit v.taken) (Phase 4 f))
    ∷ []
raws r v w lent (instr.UndoTo q to tag) = no_raw ∷ raw (Had (w q) ∷ []) [] ∷ []
raws r v w lent (instr.UndoFrom q from tag) = no_raw ∷ raw [] (letter_if (first_bit v.taken) (Phase 4 (w q))) ∷ []
raws r v w lent (instr.ReachTo q to tag) =
    let e = near_counted r v in
    let f = far_counted r v in
    no_raw
    ∷ raw (Pair e f ∷ []) []
    ∷ raw (Pair e f ∷ Cx (w q) e ∷ []) []
    ∷ no_raw
    ∷ raw [] (letter_if (first_bit v.taken) (Phase 4 (w q)))
    ∷ []
raws r v w lent (instr.ReachFrom q from tag) =
    let f = wire_of v.taken in
    let b = first_bit v.taken in
    let before = reached (lent from) f b in
    no_raw
    ∷ raw before []
    ∷ raw (before ++ letter_if b (Flip f)) []
    ∷ raw ((before ++ letter_if b (Flip f)) ++ Cx f (w q) ∷ []) []
    ∷ raw (((before ++ letter_if b (Flip f)) ++ Cx f (w q) ∷ []) ++ Had f ∷ []) []
    ∷ []
raws r v w lent _ = []

abbrev pub raw_in : ℕ → Part → (ℕ → Wire) → (ℕ → Wire) → Option Instr → ℕ → Raw
raw_in r v w lent None stage = no_raw
raw_in r v w lent (Some i) stage = slice_index_or (raws r v w lent i) stage no_raw

abbrev pub rank_raw : Programs → Tables → ℕ → Raw
rank_raw p t r = let v = t.parts r in raw_in r v (wire_in t r) (source_wire p t) (current p t r) v.stage

-- what has been begun of a parcel's message, or is due
abbrev pub kind_raw : Programs → Tables → Lane → Kind → Parcel → Raw
kind_raw p t a kind.Bit x = no_raw
kind_raw p t a kind.Copy x = raw [] (letter_if (first_bit x) (Flip (wire_of x)))
kind_raw p t a kind.Move x = raw [] (letter_if (second_bit x) (Phase 4 (wire_of x)) ++ letter_if (first_bit x) (Flip (wire_of x)))
kind_raw p t a kind.Reach x = raw (reached (source_wire p t a.from) (wire_of x) (first_bit x)) []
kind_raw p t a kind.Back x = raw [] (letter_if (first_bit x) (Phase 4 (source_wire p t a.to)))
kind_raw p t a kind.Undo x = raw [] (letter_if (first_bit x) (Phase 4 (source_wire p t a.to)))

abbrev pub holder_raw : Programs → Tables → Holder → Raw
holder_raw p t (AtRank r) = rank_raw p t r
holder_raw p t (OnLane a x) = kind_raw p t a a.kind x

-- ---- where it stands
pub raw_at : (p : Programs) (t : Tables) (r : ℕ) (i : Instr) (s : ℕ) → IsIn p t r i s
    → rank_raw p t r ≡ raw_in r (t.parts r) (wire_in t r) (source_wire p t) (Some i) s
raw_at p t r i s here = ap₂ (λ o k. raw_in r (t.parts r) (wire_in t r) (source_wire p t) o k) here.read here.stage

raw_fresh : (r : ℕ) (v : Part) (w lent : ℕ → Wire) (o : Option Instr) → raw_in r v w lent o 0 ≡ no_raw
raw_fresh r v w lent None = refl
raw_fresh r v w lent (Some i) = by_instr i
  where
    by_instr : (i : Instr) → raw_in r v w lent (Some i) 0 ≡ no_raw
    by_instr (instr.CopyTo q to tag) = refl
    by_instr (instr.CopyFrom q from tag) = refl
    by_instr (instr.MoveTo q to tag) = refl
    by_instr (instr.MoveFrom q from tag) = refl
    by_instr (instr.UndoTo q to tag) = refl
    by_instr (instr.UndoFrom q from tag) = refl
    by_instr (instr.ReachTo q to tag) = refl
    by_instr (instr.ReachFrom q from tag) = refl
    by_instr _ = refl

pub fresh_raw : (p : Programs) (t : Tables) (r : ℕ) → (t.parts r).stage ≡ 0 → rank_raw p t r ≡ no_raw
fresh_raw p t r stage =
    ap (raw_in r (t.parts r) (wire_in t r) (source_wire p t) (current p t r)) stage
    ∙ raw_fresh r (t.parts r) (wire_in t r) (source_wire p t) (current p t r)

module _ (p : Programs) (t : Tables) (r n : ℕ) (acts : List Act) (i : Instr) (s : ℕ) (next : IsNext p t r i s) where
  pub raw_on : nat_lt (s + 1) n ≡ true
      → (let u = event_done n r acts t in
      rank_raw p u r ≡ raw_in r (record (part_all r acts t (t.parts r)) { stage = s + 1 }) (wire_in u r) (source_wire p u) (Some i) (s + 1))
  raw_on more =
      let u = event_done n r acts t in
      let v = part_all r acts t (t.parts r) in
      ap (λ (x : Part). raw_in r x (wire_in u r) (source_wire p u) (instr_at p r x.at) x.stage) (own_on p t r n acts i s next more)
      ∙ ap (λ o. raw_in r (record v { stage = s + 1 }) (wire_in u r) (source_wire p u) o (s + 1)) (read_on p t r n acts i s next)

  pub raw_ended : nat_lt (s + 1) n ≡ false → rank_raw p (event_done n r acts t) r ≡ no_raw
  raw_ended last = fresh_raw p (event_done n r acts t) r (fresh_stage p t r n acts i s next last)

-- ---- holders that an event leaves alone
module _ (p : Programs) (t : Tables) (r n : ℕ) (acts : List Act) where
  by_lender : (k : ℕ) (v : Part) (w lent other : ℕ → Wire) (s : ℕ) (o : Option Instr) → (nat_lt 0 s ≡ true → (d : ℕ) → lender_of o ≡ Some d → lent d ≡ other d)
      → raw_in k v w lent o s ≡ raw_in k v w other o s
  by_lender k v w lent other s None same = refl
  by_lender k v w lent other zero (Some (instr.ReachFrom q from tag)) same = refl
  by_lender k v w lent other (suc s) (Some (instr.ReachFrom q from tag)) same =
      let e = same (lt-ltb 0 (suc s) (omega arith)) from refl in
      ap (λ l. raw_in k v w (λ d. l) (Some (instr.ReachFrom q from tag)) (suc s)) e
  by_lender k v w lent other s (Some _) same = refl

  pub rank_raw_same : (k : ℕ) → k ≢ r → (nat_lt 0 (t.parts k).stage ≡ true → lender_of (current p t k) ≡ Some r → ⊥) → rank_raw p (event_done n r acts t) k ≡ rank_raw p t k
  rank_raw_same k other apart =
      let u = event_done n r acts t in
      let same = part_elsewhere n r k acts t other in
      ap (λ (v : Part). raw_in k v (wire_in u k) (source_wire p u) (instr_at p k v.at) v.stage) same
      ∙ ap (λ w. raw_in k (t.parts k) w (source_wire p u) (current p t k) (t.parts k).stage) (other_wires r k other n acts t)
      ∙ by_lender k (t.parts k) (wire_in t k) (source_wire p u) (source_wire p t) (t.parts k).stage (current p t k)
      (λ low d e. offered_same p t r n acts d (λ same. apart low (e ∙ ap (λ j. Some j) same)))

  pub parcel_raw_same : (a : Lane) (x : Parcel) → (lane_lender a a.kind ≡ Some r → ⊥) → kind_raw p (event_done n r acts t) a a.kind x ≡ kind_raw p t a a.kind x
  parcel_raw_same a x apart = by_kind a.kind apart
    where
      by_kind : (k : Kind) → (lane_lender a k ≡ Some r → ⊥) → kind_raw p (event_done n r acts t) a k x ≡ kind_raw p t a k x
      by_kind kind.Bit ne = refl
      by_kind kind.Copy ne = refl
      by_kind kind.Move ne = refl
      by_kind kind.Reach ne = ap (λ s. raw (reached s (wire_of x) (first_bit x)) []) (offered_same p t r n acts a.from (λ e. ne (ap (λ j. Some j) e)))
      by_kind kind.Back ne = ap (λ s. raw [] (letter_if (first_bit x) (Phase 4 s))) (offered_same p t r n acts a.to (λ e. ne (ap (λ j. Some j) e)))
      by_kind kind.Undo ne = ap (λ s. raw [] (letter_if (first_bit x) (Phase 4 s))) (offered_same p t r n acts a.to (λ e. ne (ap (λ j. Some j) e)))

-- ---- what an event makes of its message's letters
-- the corrections that are still due after an event
abbrev pub due_letters : Option Row → List Letter → List Letter
due_letters None ls = ls
due_letters (Some w) ls = filter (is_due_after w.event) ls

-- ---- laws of events that add to what is begun, leave it, or stand outside messages
pub early_law : (c b ls : List Letter) → IsEqualUpTo 0 (c ++ ((b ++ []) ++ ls)) (c ++ ([] ++ ((b ++ ls) ++ [])))
early_law c b ls =
    subst (λ x. IsEqualUpTo 0 (c ++ (x ++ ls)) (c ++ ((b ++ ls) ++ []))) (sym (append-nil b))
    (subst (λ x. IsEqualUpTo 0 (c ++ (b ++ ls)) (c ++ x)) (sym (append-nil (b ++ ls))) (equal_refl (c ++ (b ++ ls))))

pub take_law : (c b : List Letter) → IsEqualUpTo 0 (c ++ (b ++ [])) (c ++ ([] ++ b))
take_law c b = subst (λ x. IsEqualUpTo 0 (c ++ x) (c ++ b)) (sym (append-nil b)) (equal_refl (c ++ b))

pub local_law : (c ls : List Letter) → IsEqualUpTo 0 (c ++ (([] ++ []) ++ ls)) (c ++ (ls ++ ([] ++ [])))
local_law c ls = subst (λ x. IsEqualUpTo 0 (c ++ ls) (c ++ x)) (sym (append-nil ls)) (equal_refl (c ++ ls))

-- letters that all stay due
pub all_due : (f : Letter → Bool) → ((l : Letter) → f l ≡ true) → (ls : List Letter) → ls ≡ filter f ls
all_due f each [] = refl
all_due f each (l ∷ ls) = ap (λ ms. l ∷ ms) (all_due f each ls) ∙ ap (λ b. cond b (l ∷ filter f ls) (filter f ls)) (sym (each l))
