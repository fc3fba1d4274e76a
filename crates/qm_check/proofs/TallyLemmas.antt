-- The tallies of the lanes, as far as they are counted
use Rattle.std.proofs.Common.{◌≡◌, ◌≢◌, ℕ, ◌+◌, ◌<◌, ◌≤◌, Bool, true, false, cond, List, take, count_by, slice_get, get_or, nat_lt, ⊎_elim, Option, Some, None, unwrap_or, refl, sym, ap, subst, ◌∙◌, arith}
use Rattle.std.proofs.lemmas.Bool.{cases_lt, false_from_ne_true}
use Rattle.std.proofs.lemmas.Bool.Decides.{nat_tests}
use Rattle.std.proofs.lemmas.List.Sums.{sum_by-le}
use Rattle.std.specs.BTreeMap.{BTreeMap, get}
use Rattle.std.specs.Map.{lookup}
use Rattle.std.specs.declared.cmp.Ordering.{Ordering}
use Rattle.std.specs.Ordering.{is_eq}
use Rattle.std.specs.Cmp.{IsTotalOrder}
use Rattle.std.proofs.Math.Path.{fun_ext}
use Rattle.qm_instr.specs.declared.Instr.{Instr}
use Rattle.qm_instr.specs.declared.Lane.{Lane}
use Rattle.qm_instr.specs.Lanes.{code_order, lane_order, is_lane, is_on, lane_received}
use Rattle.qm_instr.proofs.LaneOrder.{lane_order-derived, lane_order-total, is_lane-order, equal_from_test, same_lane}
use Rattle.qm_check.specs.declared.messages.Tally.{Tally}
use Rattle.qm_instr.specs.declared.Instr.TheVariants as instr
use Rattle.qm_instr.specs.Programs.{Programs, rank_of}
use Rattle.qm_check.specs.Messages.{post_lane, posts_on, posts_in, receives_in, lane_sends, lane_receives}
use Rattle.qm_check.proofs.TotalLemmas.{sum_more}
use Rattle.qm_check.specs.Tallies.{tally, tally_in, plus, plus_at, plus_instruction, rank_tally}

-- the order of the code is that of the fields
pub code_order-lane_order : code_order ≡ lane_order
code_order-lane_order = fun_ext (λ a. fun_ext (λ b. lane_order-derived a b))

-- the order of the code is total
pub code_order-total : IsTotalOrder code_order
code_order-total =
    subst (λ (R : Lane → Lane → Ordering). IsTotalOrder R) (sym code_order-lane_order) lane_order-total

-- equal lanes have one tally
tally_in-same : (m : BTreeMap Lane Tally) (k a : Lane) → is_eq (code_order k a) ≡ true
    → tally_in m k ≡ tally_in m a
tally_in-same m k a same =
    let at : (z : Lane) → is_eq (code_order k z) ≡ is_eq (code_order a z) = λ z. ap is_eq (code_order-total.congr k a z (equal_from_test (code_order k a) same)) in
    ap (λ (test : Lane → Bool). unwrap_or (lookup test m.entries) (tally 0 0)) (fun_ext at)

noted : (m n : BTreeMap Lane Tally) (k a : Lane) (more had : Tally) (same : Bool)
    → is_eq (code_order k a) ≡ same → had ≡ tally_in m k
    → get code_order n a ≡ cond same (Some (plus had more)) (get code_order m a)
    → tally_in n a ≡ cond same (plus (tally_in m a) more) (tally_in m a)
noted m n k a more had false test read put =
    ap (λ (o : Option Tally). unwrap_or o (tally 0 0)) put
noted m n k a more had true test read put =
    ap (λ (o : Option Tally). unwrap_or o (tally 0 0)) put
    ∙ ap (λ (t : Tally). plus t more) (read ∙ tally_in-same m k a test)

-- what a message leaves in the tallies
pub tally_in-noted : (m n : BTreeMap Lane Tally) (on : Option Lane) (k a : Lane) (more had : Tally)
    → on ≡ Some k → had ≡ tally_in m k
    → get code_order n a ≡ cond (is_eq (code_order k a)) (Some (plus had more)) (get code_order m a)
    → tally_in n a ≡ plus_at on more a (tally_in m a)
tally_in-noted m n on k a more had is read put =
    let tests : is_eq (code_order k a) ≡ is_on on a = ap is_eq (lane_order-derived k a) ∙ sym (is_lane-order k a) ∙ ap (λ (o : Option Lane). is_on o a) (sym is) in
    noted m n k a more had (is_eq (code_order k a)) refl read put
    ∙ ap (λ (b : Bool). cond b (plus (tally_in m a) more) (tally_in m a)) tests

-- tallies are equal where their parts are
tally_same : (s s' r r' : ℕ) → s ≡ s' → r ≡ r' → tally s r ≡ tally s' r'
tally_same s s' r r' sends receives = ap (λ x. tally x r) sends ∙ ap (tally s') receives

-- the tally after one instruction, by whether it posts and receives
plus_flags : (p q : Bool) (t u : Tally) (s r : ℕ) → s ≡ u.sends + cond p 1 0
    → r ≡ u.receives + cond q 1 0
    → cond q (plus (cond p (plus (plus t u) (tally 1 0)) (plus t u)) (tally 0 1)) (cond p (plus (plus t u) (tally 1 0)) (plus t u)) ≡ plus t (tally s r)
plus_flags false false t u s r sends receives = tally_same _ _ _ _ (omega arith) (omega arith)
plus_flags false true t u s r sends receives = tally_same _ _ _ _ (omega arith) (omega arith)
plus_flags true false t u s r sends receives = tally_same _ _ _ _ (omega arith) (omega arith)
plus_flags true true t u s r sends receives = tally_same _ _ _ _ (omega arith) (omega arith)

-- the tallies after one more instruction of a rank
pub rank_tally_more : (m n : BTreeMap Lane Tally) (t : Tally) (r k : ℕ) (is : List Instr) (i : Instr) (a : Lane)
    → tally_in m a ≡ plus t (rank_tally r (take k is) a) → slice_get is k ≡ Some i
    → tally_in n a ≡ plus_instruction r i a (tally_in m a)
    → tally_in n a ≡ plus t (rank_tally r (take (k + 1) is) a)
rank_tally_more m n t r k is i a so_far read noted =
    noted
    ∙ ap (plus_instruction r i a) so_far
    ∙ plus_flags (posts_on r i a) (is_on (lane_received r i) a) t (rank_tally r (take k is) a) _ _ (sum_more (λ (x : Instr). cond (posts_on r x a) 1 0) is k i read) (sum_more (λ (x : Instr). cond (is_on (lane_received r x) a) 1 0) is k i read)

-- a lane's tally over the ranks below n
abbrev pub tally_below : Programs → ℕ → Lane → Tally
tally_below p n a =
    tally (cond (nat_lt a.from n) (lane_sends p a) 0) (cond (nat_lt a.to n) (lane_receives p a) 0)

-- the lane, if it is one, has this number at this end
abbrev EndsAt : (Lane → ℕ) → ℕ → Option Lane → Type 0
EndsAt end r None = Unit {0}
EndsAt end r (Some b) = end b ≡ r

posted_from : (r : ℕ) (i : Instr) → EndsAt (λ b. b.from) r (post_lane r i)
posted_from r (instr.SendBit b to tag) = refl
posted_from r (instr.CopyTo q to tag) = refl
posted_from r (instr.UndoTo q to tag) = refl
posted_from r (instr.MoveTo q to tag) = refl
posted_from r (instr.ReachTo q to tag) = refl
posted_from r (instr.ReachFrom t from tag) = refl
posted_from r _ = tt

received_to : (r : ℕ) (i : Instr) → EndsAt (λ b. b.to) r (lane_received r i)
received_to r (instr.RecvBit b from tag) = refl
received_to r (instr.CopyFrom q from tag) = refl
received_to r (instr.UndoFrom q from tag) = refl
received_to r (instr.MoveFrom q from tag) = refl
received_to r (instr.ReachFrom t from tag) = refl
received_to r _ = tt

ends_elsewhere : (end : Lane → ℕ) (r : ℕ) (o : Option Lane) (a : Lane) → EndsAt end r o → end a ≢ r → is_on o a ≡ false
ends_elsewhere end r None a at apart = refl
ends_elsewhere end r (Some b) a at apart = false_from_ne_true (is_lane b a) (λ same. apart (sym (ap end (same_lane b a same)) ∙ at))

-- where no instruction counts, the count is 0
count_none : (p : Instr → Bool) (is : List Instr) → ((i : Instr) → p i ≡ false) → count_by p is ≡ 0
count_none p is none =
    omega (arith, sum_by-le (λ (x : Instr). cond (p x) 1 0) 0 is (λ k d below. subst (λ (b : Bool). cond b 1 0 ≤ 0) (sym (none (get_or is k d))) (omega arith)))

-- a number that belongs to rank x, one rank later
part_more : (x n whole here : ℕ) → (x ≡ n → here ≡ whole) → (x ≢ n → here ≡ 0)
    → cond (nat_lt x n) whole 0 + here ≡ cond (nat_lt x (n + 1)) whole 0
part_more x n whole here at away =
    ⊎_elim
    (λ (lower : x < n). let none : here ≡ 0 = away (λ e. omega arith) in grind (arith, nat_tests))
    (λ (rest : n ≤ x). ⊎_elim (λ (same : n < x). let none : here ≡ 0 = away (λ e. omega arith) in grind (arith, nat_tests)) (λ (low : x ≤ n). let all : here ≡ whole = at (omega arith) in grind (arith, nat_tests)) (cases_lt n x))
    (cases_lt x n)

-- the tallies after one more rank
pub tally_below_more : (p : Programs) (n : ℕ) (s t : Tally) (a : Lane) → s ≡ tally_below p n a
    → t ≡ plus s (rank_tally n (rank_of p n).instructions a) → t ≡ tally_below p (n + 1) a
tally_below_more p n s t a so_far noted =
    let is = (rank_of p n).instructions in
    let sends : cond (nat_lt a.from n) (lane_sends p a) 0 + posts_in n a is ≡ cond (nat_lt a.from (n + 1)) (lane_sends p a) 0 = part_more a.from n (lane_sends p a) (posts_in n a is) (λ e. ap (λ (r : ℕ). posts_in r a (rank_of p r).instructions) (sym e)) (λ apart. count_none (λ i. posts_on n i a) is (λ i. ends_elsewhere (λ b. b.from) n (post_lane n i) a (posted_from n i) apart)) in
    let receives : cond (nat_lt a.to n) (lane_receives p a) 0 + receives_in n a is ≡ cond (nat_lt a.to (n + 1)) (lane_receives p a) 0 = part_more a.to n (lane_receives p a) (receives_in n a is) (λ e. ap (λ (r : ℕ). receives_in r a (rank_of p r).instructions) (sym e)) (λ apart. count_none (λ i. is_on (lane_received n i) a) is (λ i. ends_elsewhere (λ b. b.to) n (lane_received n i) a (received_to n i) apart)) in
    noted
    ∙ ap (λ (x : Tally). plus x (rank_tally n is a)) so_far
    ∙ tally_same _ _ _ _ sends receives
