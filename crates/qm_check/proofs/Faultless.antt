-- What programs without a fault are, at each instruction and on each tape
use Rattle.std.proofs.Common.{◌≡◌, ◌≢◌, ℕ, ◌+◌, ◌<◌, ◌≤◌, Bool, true, false, ◌&&◌, cond, if◌then◌else◌, nat_lt, ◌==◌, List, length, take, sum_by, Option, Some, None, slice_get, refl, subst, ltb-true}
use Rattle.std.proofs.lemmas.Bool.{and_parts, eqb-true, eqb-false}
use Rattle.std.proofs.lemmas.List.Sums.{sum_by-take-le}
use Rattle.std.specs.Option.{option_or}
use Rattle.qm_instr.specs.declared.Instr.{Instr}
use Rattle.qm_instr.specs.declared.Lane.{Lane}
use Rattle.qm_instr.specs.Counts.{protocol_of, own_of}
use Rattle.qm_instr.specs.Programs.{Programs, rank_of, IsInRange}
use Rattle.qm_check.specs.declared.Fault.{Fault}
use Rattle.qm_check.specs.declared.Fault.TheVariants as fault
use Rattle.qm_check.specs.declared.Uses.{Uses}
use Rattle.qm_check.specs.declared.Uses.TheVariants.{Nothing, Fills, Keeps, Empties, Joins}
use Rattle.qm_check.specs.Checks.{IsReady, AtInstr, OnTape}
use Rattle.qm_check.specs.Messages.{posts_on, posts_in}
use Rattle.qm_check.specs.Operands.{uses_of, partner_of}
use Rattle.qm_check.specs.Slots.{HasFewSlots, is_full_after, full_after, partner_fault, slot_fault, fault_if_any}
use Rattle.qm_check.specs.Tapes.{length_fault}
use Rattle.qm_check.proofs.SlotLemmas.{instruction_slots-few, full_after_more}
use Rattle.qm_check.proofs.TotalLemmas.{sum_more}

-- ---- no fault among two, and which facts the lack of one says
neither : {A : Type 0} (x y : Option A) → option_or x y ≡ None → (x ≡ None) × (y ≡ None)
neither None y e = (refl, e)
neither (Some v) y e = cc

-- a fault that a test gives, or spares
false_where_none : (f : Fault) (b : Bool) → (if b then Some f else None) ≡ None → b ≡ false
false_where_none f true e = cc
false_where_none f false e = refl

true_where_none : (f : Fault) (b : Bool) → (if b then None else Some f) ≡ None → b ≡ true
true_where_none f true e = refl
true_where_none f false e = cc

-- a rank that is named is another one
pub record IsOtherRank (n r d : ℕ) : Type 0 where
  pub known : d < n
  pub other : d ≢ r

partner_sound : (n r k d : ℕ) → partner_fault n r k (Some d) ≡ None → IsOtherRank n r d
partner_sound n r k d e = by_known (nat_lt d n) refl e
  where
    by_known : (b : Bool) → nat_lt d n ≡ b
        → (if b then (if d == r then Some (fault.SelfMessage r k) else None) else Some (fault.BadRank r k)) ≡ None → IsOtherRank n r d
    by_known true s e = record { known = ltb-true d n s; other = eqb-false d r (false_where_none (fault.SelfMessage r k) (d == r) e) }
    by_known false s e = cc

-- what an instruction finds in its slots, where full says which have a wire
abbrev pub FindsSlots : (ℕ → Bool) → Uses → Type 0
FindsSlots full Nothing = Unit {0}
FindsSlots full (Fills q) = full q ≡ false
FindsSlots full (Keeps q) = full q ≡ true
FindsSlots full (Empties q) = full q ≡ true
FindsSlots full (Joins c t) = (c ≢ t) × (full c ≡ true) × (full t ≡ true)

slots_sound : (r k : ℕ) (full : ℕ → Bool) (u : Uses) → slot_fault r k full u ≡ None
    → FindsSlots full u
slots_sound r k full Nothing e = tt
slots_sound r k full (Fills q) e = false_where_none (fault.SlotFull r k) (full q) e
slots_sound r k full (Keeps q) e = true_where_none (fault.SlotEmpty r k) (full q) e
slots_sound r k full (Empties q) e = true_where_none (fault.SlotEmpty r k) (full q) e
slots_sound r k full (Joins c t) e = by_same (c == t) refl e
  where
    by_same : (b : Bool) → (c == t) ≡ b
        → (if b then Some (fault.SameSlot r k) else (if full c && full t then None else Some (fault.SlotEmpty r k))) ≡ None
        → (c ≢ t) × (full c ≡ true) × (full t ≡ true)
    by_same true s e = cc
    by_same false s e =
        let both = and_parts (full c) (full t) (true_where_none (fault.SlotEmpty r k) (full c && full t) e) in
        (eqb-false c t s, both.0, both.1)

pub posts-take-le : (r : ℕ) (a : Lane) (is : List Instr) (k : ℕ)
    → posts_in r a (take k is) ≤ posts_in r a is
posts-take-le r a is k = sum_by-take-le (λ i. cond (posts_on r i a) 1 0) is k

-- ---- instruction k of rank r
-- the instructions before it
abbrev pub before : Programs → ℕ → ℕ → List Instr
before p r k = take k (rank_of p r).instructions

-- it names another rank that there is, finds its slots as it needs them, and adds to what the instructions before it fill, take and post
pub record IsStep (p : Programs) (r k : ℕ) (i : Instr) : Type 0 where
  pub partner : (d : ℕ) → partner_of i ≡ Some d → IsOtherRank (length p.ranks) r d
  pub slots : FindsSlots (full_after (before p r k)) (uses_of i)
  pub few : HasFewSlots (uses_of i)
  pub full : (q : ℕ)
      → full_after (before p r (k + 1)) q ≡ is_full_after q (full_after (before p r k) q) (uses_of i)
  pub protocol : sum_by protocol_of (before p r (k + 1)) ≡ sum_by protocol_of (before p r k) + protocol_of i
  pub protocol_few : sum_by protocol_of (before p r (k + 1)) ≤ sum_by protocol_of (rank_of p r).instructions
  pub own : sum_by own_of (before p r (k + 1)) ≡ sum_by own_of (before p r k) + own_of i
  pub posts : (a : Lane)
      → posts_in r a (before p r (k + 1)) ≡ posts_in r a (before p r k) + cond (posts_on r i a) 1 0

pub step_of : (p : Programs) (r k : ℕ) (i : Instr) → IsReady p → IsInRange p → r < length p.ranks
    → slice_get (rank_of p r).instructions k ≡ Some i → IsStep p r k i
step_of p r k i ready ranges known read =
    let is = (rank_of p r).instructions in
    let full = full_after (before p r k) in
    let sound : fault_if_any (length p.ranks) r k full (Some i) ≡ None =
    subst (λ o. fault_if_any (length p.ranks) r k full o ≡ None) read (ready (AtInstr r k)) in
    let parts = neither (partner_fault (length p.ranks) r k (partner_of i)) (slot_fault r k full (uses_of i)) sound in
    record {
      partner = λ d e. partner_sound (length p.ranks) r k d (subst (λ o. partner_fault (length p.ranks) r k o ≡ None) e parts.0);
      slots = slots_sound r k full (uses_of i) parts.1;
      few = instruction_slots-few p r k i known ranges read;
      full = λ q. full_after_more is k q i read;
      protocol = sum_more protocol_of is k i read;
      protocol_few = sum_by-take-le protocol_of is (k + 1);
      own = sum_more own_of is k i read;
      posts = λ a. sum_more (λ j. cond (posts_on r j a) 1 0) is k i read;
    }

-- ---- tapes are as long as their needs
tape_sound : (r : ℕ) (own : Bool) (needs has : ℕ) → length_fault r own needs has ≡ None
    → needs ≡ has
tape_sound r own needs has e = eqb-true needs has (true_where_none (fault.TapeLength r own needs has) (needs == has) e)

pub own_length : (p : Programs) (r : ℕ) → IsReady p
    → sum_by own_of (rank_of p r).instructions ≡ length (rank_of p r).own
own_length p r ready = tape_sound r true (sum_by own_of (rank_of p r).instructions) (length (rank_of p r).own) (ready (OnTape r true))

pub protocol_length : (p : Programs) (r : ℕ) → IsReady p
    → sum_by protocol_of (rank_of p r).instructions ≡ length (rank_of p r).protocol
protocol_length p r ready = tape_sound r false (sum_by protocol_of (rank_of p r).instructions) (length (rank_of p r).protocol) (ready (OnTape r false))
