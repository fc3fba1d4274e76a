-- What the tallies say of the lanes: the lowest that doesn't match, and how many sends each has
use Rattle.std.proofs.Common.{◌≡◌, ◌<◌, nat_lt, Bool, true, false, cond, ◌||◌, List, [], ◌∷◌, map, Option, Some, None, unwrap_or, refl, sym, ap, subst, ◌∙◌, arith, All}
use Rattle.std.specs.BTreeMap.{BTreeMap, is_at, IsOrdered}
use Rattle.std.specs.Map.{lookup, keys_of}
use Rattle.std.specs.Option.{option_or}
use Rattle.std.specs.declared.cmp.Ordering.{Ordering}
use Rattle.std.specs.declared.cmp.Ordering.TheVariants.{Less}
use Rattle.std.specs.Ordering.{is_eq}
use Rattle.std.specs.Cmp.{eq_by_cmp_equiv}
use Rattle.std.specs.List.Sorted.{IsStrictlySortedBy}
use Rattle.std.specs.List.{AllByRecursion}
use Rattle.std.proofs.lemmas.Map.{NonePasses, lookup-none}
use Rattle.std.proofs.lemmas.Map.Entries.{none_below_head, none_past_head}
use Rattle.std.proofs.lemmas.Map.Keys.{sorted_head, sorted_tail, IsDistinct-from_sorted}
use Rattle.std.proofs.lemmas.Cmp.{tied_itself}
use Rattle.std.proofs.lemmas.Bool.{cond_both}
use Rattle.std.proofs.lemmas.Bool.Decides.{nat_tests}
use Rattle.std.proofs.lemmas.List.Elements.{All-nil, All-cons}
use Rattle.qm_instr.specs.declared.Lane.{Lane}
use Rattle.qm_instr.specs.Lanes.{code_order, is_lane}
use Rattle.qm_instr.specs.Programs.{Programs}
use Rattle.qm_instr.proofs.LaneOrder.{lane_order-derived, lane_order-equal, is_lane-order, equal_from_test}
use Rattle.qm_check.specs.declared.Fault.{Fault}
use Rattle.qm_check.specs.declared.LaneCount.{LaneCount}
use Rattle.qm_check.specs.declared.messages.Tally.{Tally}
use Rattle.qm_check.specs.Faults.{IsFirst}
use Rattle.qm_check.specs.Messages.{is_back, match_fault, lane_fault, IsLower, listed_sends, IsLaneTable}
use Rattle.qm_check.specs.Tallies.{tally, tally_in, lane_tally, first_mismatch, sends_listed}
use Rattle.qm_check.proofs.TallyLemmas.{code_order-total, code_order-lane_order}

-- the tally of a lane in a list of entries
abbrev tally_among : List (Lane × Tally) → Lane → Tally
tally_among es a = unwrap_or (lookup (is_at (code_order a)) es) (tally 0 0)

-- the fault of a lane with this tally
abbrev tally_fault : Lane → Tally → Option Fault
tally_fault a t = match_fault a t.sends t.receives

abbrev fault_among : List (Lane × Tally) → Lane → Option Fault
fault_among es a = tally_fault a (tally_among es a)

-- a lane without messages has no fault
even : (b : Bool) (f : Fault) → cond (b || true) None (Some f) ≡ None
even true f = refl
even false f = refl

-- no entry has the lane
absent : (es : List (Lane × Tally)) (a : Lane) → NonePasses (is_at (code_order a)) es
    → tally_among es a ≡ tally 0 0
absent es a none = ap (λ (o : Option Tally). unwrap_or o (tally 0 0)) (lookup-none (is_at (code_order a)) es none)

absent-fault : (es : List (Lane × Tally)) (a : Lane) → NonePasses (is_at (code_order a)) es
    → fault_among es a ≡ None
absent-fault es a none = ap (tally_fault a) (absent es a none) ∙ even (is_back a.kind) _

-- the tally by the first entry, or by the others
tally-here : (e : Lane × Tally) (es : List (Lane × Tally)) (a : Lane)
    → is_at (code_order a) e.0 ≡ true → tally_among (e ∷ es) a ≡ e.1
tally-here e es a here =
    ap (λ (b : Bool). unwrap_or (cond b (Some e.1) (lookup (is_at (code_order a)) es)) (tally 0 0)) here

tally-elsewhere : (e : Lane × Tally) (es : List (Lane × Tally)) (a : Lane)
    → is_at (code_order a) e.0 ≡ false → tally_among (e ∷ es) a ≡ tally_among es a
tally-elsewhere e es a apart =
    ap (λ (b : Bool). unwrap_or (cond b (Some e.1) (lookup (is_at (code_order a)) es)) (tally 0 0)) apart

-- a lane that the first entry has is the entry's lane
same_key : (e : Lane × Tally) (a : Lane) → is_at (code_order a) e.0 ≡ true → a ≡ e.0
same_key e a here =
    lane_order-equal a e.0 (sym (lane_order-derived a e.0) ∙ equal_from_test (code_order a e.0) here)

-- no later entry has the lane of the first
later_apart : (e : Lane × Tally) (es : List (Lane × Tally)) (a : Lane)
    → IsStrictlySortedBy code_order (keys_of (e ∷ es)) → is_at (code_order a) e.0 ≡ true
    → NonePasses (is_at (code_order a)) es
later_apart e es a sorted here =
    none_past_head (eq_by_cmp_equiv code_order-total) a e es (IsDistinct-from_sorted code_order (keys_of (e ∷ es)) sorted) here

-- the fault of a lane by the first entry, which has none, or by the others
no_fault-first : (e : Lane × Tally) (es : List (Lane × Tally)) (a : Lane) (here : Bool)
    → is_at (code_order a) e.0 ≡ here → tally_fault e.0 e.1 ≡ None
    → (here ≡ false → fault_among es a ≡ None) → fault_among (e ∷ es) a ≡ None
no_fault-first e es a true here sound rest =
    ap (tally_fault a) (tally-here e es a here)
    ∙ ap (λ (b : Lane). tally_fault b e.1) (same_key e a here)
    ∙ sound
no_fault-first e es a false here sound rest =
    ap (tally_fault a) (tally-elsewhere e es a here) ∙ rest refl

-- a fault of the others is a fault of all
fault-rest : (e : Lane × Tally) (es : List (Lane × Tally)) (a : Lane) (f : Fault) (here : Bool)
    → IsStrictlySortedBy code_order (keys_of (e ∷ es)) → is_at (code_order a) e.0 ≡ here
    → fault_among es a ≡ Some f → fault_among (e ∷ es) a ≡ Some f
fault-rest e es a f true sorted here found =
    let none : fault_among es a ≡ None = absent-fault es a (later_apart e es a sorted here) in cc
fault-rest e es a f false sorted here found =
    ap (tally_fault a) (tally-elsewhere e es a here)
    ∙ found

-- an entry without a fault in front
mismatch-past : (e : Lane × Tally) (es : List (Lane × Tally)) (o : Option Fault)
    → IsStrictlySortedBy code_order (keys_of (e ∷ es)) → tally_fault e.0 e.1 ≡ None
    → IsFirst IsLower (fault_among es) o → IsFirst IsLower (fault_among (e ∷ es)) o
mismatch-past e es None sorted sound first =
    λ a. no_fault-first e es a (is_at (code_order a) e.0) refl sound (λ _. first a)
mismatch-past e es (Some f) sorted sound first =
    (first.0, fault-rest e es first.0 f (is_at (code_order first.0) e.0) sorted refl first.1, λ b lower. no_fault-first e es b (is_at (code_order b) e.0) refl sound (λ _. first.2 b lower))

mismatch-step : (e : Lane × Tally) (es : List (Lane × Tally)) (o : Option Fault)
    → tally_fault e.0 e.1 ≡ o → IsStrictlySortedBy code_order (keys_of (e ∷ es))
    → IsFirst IsLower (fault_among es) (first_mismatch es)
    → IsFirst IsLower (fault_among (e ∷ es)) (option_or o (first_mismatch es))
mismatch-step e es None found sorted rest = mismatch-past e es (first_mismatch es) sorted found rest
mismatch-step e es (Some f) found sorted rest =
    let itself : is_at (code_order e.0) e.0 ≡ true = ap is_eq (tied_itself code_order-total e.0) in
    let below : (b : Lane) → IsLower b e.0 → fault_among (e ∷ es) b ≡ None = λ b lower. absent-fault (e ∷ es) b (none_below_head code_order-total b e es sorted (lane_order-derived b e.0 ∙ lower)) in
    (e.0, ap (tally_fault e.0) (tally-here e es e.0 itself) ∙ found, below)

-- the lowest lane that doesn't match, among entries in order
first_mismatch-first : (es : List (Lane × Tally)) → IsStrictlySortedBy code_order (keys_of es)
    → IsFirst IsLower (fault_among es) (first_mismatch es)
first_mismatch-first [] sorted = λ a. even (is_back a.kind) _
first_mismatch-first (e ∷ es) sorted =
    mismatch-step e es (tally_fault e.0 e.1) refl sorted (first_mismatch-first es (sorted_tail code_order e.0 (keys_of es) sorted))

-- the first of faults that are the same at each site
first-along : (f g : Lane → Option Fault) (o : Option Fault) → ((a : Lane) → f a ≡ g a)
    → IsFirst IsLower f o → IsFirst IsLower g o
first-along f g None same first = λ a. sym (same a) ∙ first a
first-along f g (Some x) same first =
    (first.0, sym (same first.0) ∙ first.1, λ b lower. sym (same b) ∙ first.2 b lower)

-- the lowest lane whose sends and receives don't match
pub lane_fault-first : (p : Programs) (m : BTreeMap Lane Tally) (o : Option Fault)
    → IsOrdered code_order m → ((a : Lane) → tally_in m a ≡ lane_tally p a)
    → o ≡ first_mismatch m.entries → IsFirst IsLower (lane_fault p) o
lane_fault-first p m o sorted counted found =
    subst (IsFirst IsLower (lane_fault p)) (sym found) (first-along (fault_among m.entries) (lane_fault p) (first_mismatch m.entries) (λ a. ap (tally_fault a) (counted a)) (first_mismatch-first m.entries sorted))

-- the lanes of a list of counts
abbrev lanes_of : List LaneCount → List Lane
lanes_of cs = map (λ c. c.lane) cs

-- an entry as a count, and the list with an entry in front, if it has sends
abbrev count_of : Lane × Tally → LaneCount
count_of e = record { lane = e.0; sends = e.1.sends }

abbrev listed_with : Bool → Lane × Tally → List LaneCount → List LaneCount
listed_with b e cs = cond b (count_of e ∷ cs) cs

-- what holds of each key holds of each lane that is listed
all_listed : (P : Lane → Type 0) (es : List (Lane × Tally)) → AllByRecursion P (keys_of es)
    → AllByRecursion P (lanes_of (sends_listed es))
all_listed P [] h = tt
all_listed P (e ∷ es) h =
    let cs = sends_listed es in
    let rest = all_listed P es h.1 in
    cond_both (nat_lt 0 e.1.sends) (count_of e ∷ cs) cs (λ xs. AllByRecursion P (lanes_of xs)) (λ _. (h.0, rest)) (λ _. rest)

-- the lanes listed rise
rising-listed : (es : List (Lane × Tally)) → IsStrictlySortedBy code_order (keys_of es)
    → IsStrictlySortedBy code_order (lanes_of (sends_listed es))
unfolding IsStrictlySortedBy
rising-listed [] sorted = sorted
rising-listed (e ∷ es) sorted =
    let cs = sends_listed es in
    let rest = rising-listed es (sorted_tail code_order e.0 (keys_of es) sorted) in
    let above = all_listed (λ y. code_order e.0 y ≡ Less) es (sorted_head code_order e.0 (keys_of es) sorted) in
    cond_both (nat_lt 0 e.1.sends) (count_of e ∷ cs) cs (λ xs. IsStrictlySortedBy code_order (lanes_of xs)) (λ _. (above, rest)) (λ _. rest)

-- each lane listed has sends
some-listed : (es : List (Lane × Tally)) → All (λ (c : LaneCount). 0 < c.sends) (sends_listed es)
some-listed [] = All-nil (λ (c : LaneCount). 0 < c.sends)
some-listed (e ∷ es) =
    let P : LaneCount → Type 0 = λ c. 0 < c.sends in
    let cs = sends_listed es in
    cond_both (nat_lt 0 e.1.sends) (count_of e ∷ cs) cs (All P) (λ yes. All-cons P (count_of e) cs (grind (arith, nat_tests)) (some-listed es)) (λ _. some-listed es)

-- the code's test for a lane is the one of the fields
test-same : (e : Lane × Tally) (a : Lane) → is_lane e.0 a ≡ is_at (code_order a) e.0
test-same e a =
    is_lane-order e.0 a
    ∙ ap is_eq (sym (lane_order-derived e.0 a))
    ∙ (eq_by_cmp_equiv code_order-total).symm e.0 a

exact_with : (b here : Bool) (e : Lane × Tally) (es : List (Lane × Tally)) (a : Lane)
    → nat_lt 0 e.1.sends ≡ b → is_at (code_order a) e.0 ≡ here
    → IsStrictlySortedBy code_order (keys_of (e ∷ es))
    → listed_sends (sends_listed es) a ≡ (tally_among es a).sends
    → listed_sends (listed_with b e (sends_listed es)) a ≡ (tally_among (e ∷ es) a).sends
exact_with true true e es a test here sorted rest =
    ap (λ (h : Bool). cond h e.1.sends (listed_sends (sends_listed es) a)) (test-same e a ∙ here)
    ∙ sym (ap (λ (t : Tally). t.sends) (tally-here e es a here))
exact_with true false e es a test here sorted rest =
    ap (λ (h : Bool). cond h e.1.sends (listed_sends (sends_listed es) a)) (test-same e a ∙ here)
    ∙ rest
    ∙ sym (ap (λ (t : Tally). t.sends) (tally-elsewhere e es a here))
exact_with false true e es a test here sorted rest =
    let none : (tally_among es a).sends ≡ 0 = ap (λ (t : Tally). t.sends) (absent es a (later_apart e es a sorted here)) in
    let all : (tally_among (e ∷ es) a).sends ≡ e.1.sends = ap (λ (t : Tally). t.sends) (tally-here e es a here) in
    grind (arith, nat_tests)
exact_with false false e es a test here sorted rest =
    rest ∙ sym (ap (λ (t : Tally). t.sends) (tally-elsewhere e es a here))

-- the sends listed are those of the tallies
exact-listed : (es : List (Lane × Tally)) → IsStrictlySortedBy code_order (keys_of es)
    → (a : Lane) → listed_sends (sends_listed es) a ≡ (tally_among es a).sends
exact-listed [] sorted a = refl
exact-listed (e ∷ es) sorted a =
    exact_with (nat_lt 0 e.1.sends) (is_at (code_order a) e.0) e es a refl refl sorted (exact-listed es (sorted_tail code_order e.0 (keys_of es) sorted) a)

-- the table of the lanes
pub sends_listed-table : (p : Programs) (m : BTreeMap Lane Tally) → IsOrdered code_order m
    → ((a : Lane) → tally_in m a ≡ lane_tally p a) → IsLaneTable p (sends_listed m.entries)
sends_listed-table p m sorted counted = record {
  rising =
      subst (λ (R : Lane → Lane → Ordering). IsStrictlySortedBy R (lanes_of (sends_listed m.entries))) code_order-lane_order (rising-listed m.entries sorted);
  some = some-listed m.entries;
  exact =
      λ a. exact-listed m.entries sorted a ∙ ap (λ (t : Tally). t.sends) (counted a);
}
