-- Deeds without a fault at their slot or their partner
use Rattle.std.proofs.Common.{◌≡◌, ℕ, zero, suc, nat_lt, Bool, true, false, not, ◌&&◌, List, [], ◌∷◌, ◌++◌, map, take, fold, Option, Some, None, slice_get, refl, ap, ◌∙◌}
use Rattle.std.specs.Prelude.{if◌then◌else◌, ◌==◌}
use Rattle.std.specs.Option.{option_or}
use Rattle.std.proofs.lemmas.Bool.{and_parts, not-true}
use Rattle.qm_instr.specs.declared.Instr.{Instr}
use Rattle.qm_check.specs.declared.Fault.{Fault}
use Rattle.qm_check.specs.Operands.{uses_of, partner_of}
use Rattle.qm_check.specs.Slots.{is_full_after, partner_fault, slot_fault, instruction_fault, fault_if_any}
use Rattle.qm_gen.proofs.Deeds.{Deed, Alloc, Gate, Measure, WhenX, MoveTo, MoveFrom, CopyTo, CopyFrom, ReachTo, ReachFrom, peer_of, instr_of, Part}
use Rattle.qm_gen.proofs.Growth.{repeated}

-- ---- one deed
-- whether a deed needs slot 0 empty, and fills it
abbrev pub fills : Deed → Bool
fills Alloc = true
fills (MoveFrom r) = true
fills (CopyFrom r) = true
fills _ = false

abbrev pub empties : Deed → Bool
empties (MoveTo r) = true
empties _ = false

-- whether slot 0 is full after a deed
abbrev pub after : Deed → Bool → Bool
after x full = if fills x then true else if empties x then false else full

abbrev pub slot_fits : Deed → Bool → Bool
slot_fits x full = if fills x then not full else full

abbrev pub peer_fits : ℕ → ℕ → Option ℕ → Bool
peer_fits ranks rank None = true
peer_fits ranks rank (Some other) = nat_lt other ranks && not (other == rank)

partner-none : (ranks rank k : ℕ) (p : Option ℕ) → peer_fits ranks rank p ≡ true → partner_fault ranks rank k p ≡ None
partner-none ranks rank k None h = refl
partner-none ranks rank k (Some other) h =
    let parts = and_parts (nat_lt other ranks) (not (other == rank)) h in
    rw (parts.0, not-true (other == rank) parts.1) refl

none_where_false : (f : Fault) (b : Bool) → not b ≡ true → (if b then Some f else None) ≡ None
none_where_false f true h = cc
none_where_false f false h = refl

none_where_true : (f : Fault) (b : Bool) → b ≡ true → (if b then None else Some f) ≡ None
none_where_true f true h = refl
none_where_true f false h = cc

slot-none : (rank k : ℕ) (full : ℕ → Bool) (x : Deed) → slot_fits x (full 0) ≡ true → slot_fault rank k full (uses_of (instr_of x)) ≡ None
slot-none rank k full Alloc h = none_where_false _ (full 0) h
slot-none rank k full (Gate g) h = none_where_true _ (full 0) h
slot-none rank k full Measure h = none_where_true _ (full 0) h
slot-none rank k full WhenX h = none_where_true _ (full 0) h
slot-none rank k full (MoveTo r) h = none_where_true _ (full 0) h
slot-none rank k full (MoveFrom r) h = none_where_false _ (full 0) h
slot-none rank k full (CopyTo r) h = none_where_true _ (full 0) h
slot-none rank k full (CopyFrom r) h = none_where_false _ (full 0) h
slot-none rank k full (ReachTo r) h = none_where_true _ (full 0) h
slot-none rank k full (ReachFrom r) h = none_where_true _ (full 0) h

partner-is : (x : Deed) → partner_of (instr_of x) ≡ peer_of x
partner-is Alloc = refl
partner-is (Gate g) = refl
partner-is Measure = refl
partner-is WhenX = refl
partner-is (MoveTo r) = refl
partner-is (MoveFrom r) = refl
partner-is (CopyTo r) = refl
partner-is (CopyFrom r) = refl
partner-is (ReachTo r) = refl
partner-is (ReachFrom r) = refl

after-is : (x : Deed) (full : Bool) → is_full_after 0 full (uses_of (instr_of x)) ≡ after x full
after-is Alloc full = refl
after-is (Gate g) full = refl
after-is Measure full = refl
after-is WhenX full = refl
after-is (MoveTo r) full = refl
after-is (MoveFrom r) full = refl
after-is (CopyTo r) full = refl
after-is (CopyFrom r) full = refl
after-is (ReachTo r) full = refl
after-is (ReachFrom r) full = refl

abbrev pub fits : ℕ → ℕ → Bool → Deed → Bool
fits ranks rank full x = slot_fits x full && peer_fits ranks rank (peer_of x)

deed-none : (ranks rank k : ℕ) (full : ℕ → Bool) (x : Deed) → fits ranks rank (full 0) x ≡ true → instruction_fault ranks rank k full (instr_of x) ≡ None
deed-none ranks rank k full x h =
    let parts = and_parts (slot_fits x (full 0)) (peer_fits ranks rank (peer_of x)) h in
    let partner : partner_fault ranks rank k (partner_of (instr_of x)) ≡ None = ap (partner_fault ranks rank k) (partner-is x) ∙ partner-none ranks rank k (peer_of x) parts.1 in
    ap (λ o. option_or o (slot_fault rank k full (uses_of (instr_of x)))) partner ∙ slot-none rank k full x parts.0

-- ---- many deeds
-- whether slot 0 is full after deeds of a rank, if no one has a fault
abbrev pub walked : ℕ → ℕ → Bool → List Deed → Option Bool
walked ranks rank full [] = Some full
walked ranks rank full (x ∷ xs) = if fits ranks rank full x then walked ranks rank (after x full) xs else None

-- which slots are full after instructions
abbrev full_from : (ℕ → Bool) → List Instr → ℕ → Bool
full_from full is q = fold (λ before i. is_full_after q before (uses_of i)) (full q) is

pub walked-first : (ranks rank : ℕ) (full : Bool) (x : Deed) (xs : List Deed) (end : Bool) → walked ranks rank full (x ∷ xs) ≡ Some end → (fits ranks rank full x ≡ true) × (walked ranks rank (after x full) xs ≡ Some end)
walked-first ranks rank full x xs end h = by_test (fits ranks rank full x) refl h
  where
    by_test : (b : Bool) → fits ranks rank full x ≡ b → (if b then walked ranks rank (after x full) xs else None) ≡ Some end → (fits ranks rank full x ≡ true) × (walked ranks rank (after x full) xs ≡ Some end)
    by_test true e d = (e, d)
    by_test false e d = cc

walked-none : (ranks rank j : ℕ) (full : ℕ → Bool) (xs : List Deed) (end : Bool) → walked ranks rank (full 0) xs ≡ Some end → (k : ℕ) → fault_if_any ranks rank j (full_from full (take k (map instr_of xs))) (slice_get (map instr_of xs) k) ≡ None
walked-none ranks rank j full [] end h k = refl
walked-none ranks rank j full (x ∷ xs) end h zero = deed-none ranks rank j full x (walked-first ranks rank (full 0) x xs end h).0
walked-none ranks rank j full (x ∷ xs) end h (suc k) =
    let next : ℕ → Bool = λ q. is_full_after q (full q) (uses_of (instr_of x)) in
    let more = (walked-first ranks rank (full 0) x xs end h).1 in
    walked-none ranks rank j next xs end (ap (λ b. walked ranks rank b xs) (after-is x (full 0)) ∙ more) k

walked-append : (ranks rank : ℕ) (full : Bool) (xs ys : List Deed) (mid : Bool) → walked ranks rank full xs ≡ Some mid → walked ranks rank full (xs ++ ys) ≡ walked ranks rank mid ys
walked-append ranks rank full [] ys mid h = let same : full ≡ mid = cc in ap (λ b. walked ranks rank b ys) same
walked-append ranks rank full (x ∷ xs) ys mid h =
    let parts = walked-first ranks rank full x xs mid h in
    ap (λ b. if b then walked ranks rank (after x full) (xs ++ ys) else None) parts.0 ∙ walked-append ranks rank (after x full) xs ys mid parts.1

walked-repeated : (ranks rank : ℕ) (full : Bool) (xs : List Deed) (n : ℕ) → walked ranks rank full xs ≡ Some full → walked ranks rank full (repeated n xs) ≡ Some full
walked-repeated ranks rank full xs zero h = refl
walked-repeated ranks rank full xs (suc n) h = walked-append ranks rank full xs (repeated n xs) full h ∙ walked-repeated ranks rank full xs n h

-- ---- parts
-- a round leaves slot 0 as it was
abbrev pub returns : Bool → Option Bool → Bool
returns b None = false
returns true (Some c) = c
returns false (Some c) = not c

abbrev pub round_fits : ℕ → ℕ → List Deed → Option Bool → Bool
round_fits ranks rank xs None = false
round_fits ranks rank xs (Some b) = returns b (walked ranks rank b xs)

abbrev pub part_fits : ℕ → ℕ → Part → Bool
part_fits ranks rank p = round_fits ranks rank p.again (walked ranks rank false p.once)

pub record Walks (ranks rank : ℕ) (p : Part) : Type 0 where
  pub full : Bool
  pub once : walked ranks rank false p.once ≡ Some full
  pub again : walked ranks rank full p.again ≡ Some full

returns-same : (b : Bool) (o : Option Bool) → returns b o ≡ true → o ≡ Some b
returns-same b None h = cc
returns-same true (Some c) h = ap Some h
returns-same false (Some c) h = ap Some (not-true c h)

pub part-walks : (ranks rank : ℕ) (p : Part) → part_fits ranks rank p ≡ true → Walks ranks rank p
part-walks ranks rank p h = by_once (walked ranks rank false p.once) refl h
  where
    by_once : (o : Option Bool) → walked ranks rank false p.once ≡ o → round_fits ranks rank p.again o ≡ true → Walks ranks rank p
    by_once None e d = cc
    by_once (Some b) e d = record { full = b; once = e; again = returns-same b (walked ranks rank b p.again) d }

-- no deed of a rank has a fault
pub walks-none : (ranks rank n : ℕ) (p : Part) → Walks ranks rank p → (k : ℕ) → let is = map instr_of (p.once ++ repeated n p.again) in fault_if_any ranks rank k (full_from (λ q. false) (take k is)) (slice_get is k) ≡ None
walks-none ranks rank n p w k =
    walked-none ranks rank k (λ q. false) (p.once ++ repeated n p.again) w.full
    (walked-append ranks rank false p.once (repeated n p.again) w.full w.once ∙ walked-repeated ranks rank w.full p.again n w.again) k
