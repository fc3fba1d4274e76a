-- Programs have no fault, or a first one
use Rattle.std.proofs.Common.{◌≡◌, ◌∙◌, ℕ, zero, suc, ◌<◌, ◌≤◌, ◌⊎◌, inl, inr, Bool, true, false, ◌||◌, cond, if◌then◌else◌, List, [], ◌∷◌, ◌++◌, length, take, Option, Some, None, refl, sym, ap, subst, arith}
use Rattle.std.specs.Prelude.{sum_by, count_by, option_to_list, ◌==◌}
use Rattle.std.specs.declared.cmp.Ordering.{Ordering}
use Rattle.std.specs.declared.cmp.Ordering.TheVariants.{Less, Equal, Greater}
use Rattle.std.specs.Ordering.{ordering_reverse}
use Rattle.std.specs.Option.{option_or}
use Rattle.std.proofs.lemmas.List.{get_or_past}
use Rattle.std.proofs.lemmas.List.Sums.{sum_by-cons}
use Rattle.std.proofs.lemmas.Option.{slice_get_past}
use Rattle.std.proofs.lemmas.Bool.{cases_lt}
use Rattle.qm_instr.specs.declared.Instr.{Instr}
use Rattle.qm_instr.specs.declared.Lane.{Lane}
use Rattle.qm_instr.specs.Counts.{own_of, protocol_of}
use Rattle.qm_instr.specs.Lanes.{lane_order, lane_received, is_on}
use Rattle.qm_instr.specs.Programs.{Programs, RankProgram, idle_rank, rank_of}
use Rattle.qm_instr.proofs.LaneOrder.{lane_order-total, same_lane}
use Rattle.qm_check.specs.declared.Fault.{Fault}
use Rattle.qm_check.specs.declared.Fault.TheVariants as fault
use Rattle.qm_check.specs.Faults.{IsFirst, IsBelow, IsEarlierStep, IsEarlierTape}
use Rattle.qm_check.specs.Messages.{lane_sends, lane_receives, is_back, match_fault, lane_fault, IsLower}
use Rattle.qm_check.specs.Slots.{full_after, fault_if_any, step_fault}
use Rattle.qm_check.specs.Tapes.{length_fault, tape_fault}
use Rattle.qm_check.specs.Checks.{AllRanks, fault_at, IsBefore, IsReady, IsFirstFault}
use Rattle.qm_check.proofs.Firsts.{NoneBefore, first_in_row}
use Rattle.qm_check.proofs.Sites.{first_of_all}
use Rattle.qm_check.proofs.PostLanes.{post_lane, posts_in-lane}
use Rattle.qm_proto.proofs.Meetings.{same_or_below}

-- ---- numbered places, of which those from some number on have no fault
module _ (faults : ℕ → Option Fault) where
  first_below : (n : ℕ) → ((k : ℕ) → k < n → faults k ≡ None) ⊎ ((f : Fault) × IsFirst IsBelow faults (Some f))
  first_below zero = inl (λ k less. absurd (omega (arith, less)))
  first_below (suc n) = elim (first_below n) [
    | inr found ↦ inr found
    | inl none ↦ by_fault none (faults n) refl
  ]
    where
      by_fault : ((k : ℕ) → k < n → faults k ≡ None) → (o : Option Fault) → faults n ≡ o → ((k : ℕ) → k < suc n → faults k ≡ None) ⊎ ((f : Fault) × IsFirst IsBelow faults (Some f))
      by_fault none (Some f) e = inr (f, (n, e, none))
      by_fault none None e = inl (λ k less. elim (same_or_below k n less) [ inl same ↦ ap faults same ∙ e | inr lower ↦ none k lower ])

  some_first : (n : ℕ) → ((k : ℕ) → n ≤ k → faults k ≡ None) → (o : Option Fault) × IsFirst IsBelow faults o
  some_first n past = elim (first_below n) [
    | inr (f, first) ↦ (Some f, first)
    | inl none ↦ (None, λ k. elim (cases_lt k n) [ inl less ↦ none k less | inr above ↦ past k above ])
  ]

-- ---- rows of them
module _ (faults : ℕ → ℕ → Option Fault) (row : (r : ℕ) → (o : Option Fault) × IsFirst IsBelow (faults r) o) where
  abbrev HasFirstRow : Type 0
  HasFirstRow = (f : Fault) × IsFirst IsEarlierStep (λ s. faults s.0 s.1) (Some f)

  first_row : (n : ℕ) → NoneBefore faults n ⊎ HasFirstRow
  first_row zero = inl (λ r less. absurd (omega (arith, less)))
  first_row (suc n) = elim (first_row n) [
    | inr found ↦ inr found
    | inl none ↦ by_row none (row n).0 (row n).1
  ]
    where
      by_row : NoneBefore faults n → (o : Option Fault) → IsFirst IsBelow (faults n) o → NoneBefore faults (suc n) ⊎ HasFirstRow
      by_row none (Some f) first = inr (f, first_in_row faults n (Some f) first refl none)
      by_row none None here = inl (λ r less k. elim (same_or_below r n less) [ inl same ↦ ap (λ s. faults s k) same ∙ here k | inr lower ↦ none r lower k ])

  some_first_row : (n : ℕ) → ((r : ℕ) → n ≤ r → (k : ℕ) → faults r k ≡ None) → (o : Option Fault) × IsFirst IsEarlierStep (λ s. faults s.0 s.1) o
  some_first_row n past = elim (first_row n) [
    | inr (f, first) ↦ (Some f, first)
    | inl none ↦ (None, λ s. elim (cases_lt s.0 n) [ inl less ↦ none s.0 less s.1 | inr above ↦ past s.0 above s.1 ])
  ]

-- ---- the instructions
module _ (p : Programs) where
  no_rank : (r : ℕ) → length p.ranks ≤ r → rank_of p r ≡ idle_rank
  no_rank r past = get_or_past p.ranks r idle_rank past

  past_instruction : (r k : ℕ) → length (rank_of p r).instructions ≤ k → step_fault p r k ≡ None
  past_instruction r k past =
      ap (fault_if_any (length p.ranks) r k (full_after (take k (rank_of p r).instructions))) (slice_get_past (rank_of p r).instructions k past)

  past_rank : (r : ℕ) → length p.ranks ≤ r → (k : ℕ) → step_fault p r k ≡ None
  past_rank r past k = past_instruction r k (subst (λ (x : RankProgram). length x.instructions ≤ k) (sym (no_rank r past)) (omega arith))

  some_step : (o : Option Fault) × IsFirst IsEarlierStep (λ s. step_fault p s.0 s.1) o
  some_step =
      some_first_row (step_fault p) (λ r. some_first (step_fault p r) (length (rank_of p r).instructions) (past_instruction r)) (length p.ranks) past_rank

  -- ---- the tapes
  abbrev NoTape : ℕ → Type 0
  NoTape n = (r : ℕ) → r < n → (own : Bool) → tape_fault p r own ≡ None

  abbrev HasFirstTape : Type 0
  HasFirstTape = (f : Fault) × IsFirst IsEarlierTape (λ t. tape_fault p t.0 t.1) (Some f)

  one_tape : (n : ℕ) → NoTape n → (own protocol : Option Fault) → tape_fault p n true ≡ own → tape_fault p n false ≡ protocol → NoTape (suc n) ⊎ HasFirstTape
  one_tape n none (Some f) o e g =
      inr (f, ((n, true), e, λ b before. elim before [ inl lower ↦ none b.0 lower b.1 | inr (same, own, other) ↦ absurd (let z : true ≡ false = other in cc) ]))
  one_tape n none None (Some f) e g =
      inr (
        f,
        (
          (n, false),
          g,
          λ b before. elim before [
            | inl lower ↦ none b.0 lower b.1
            | inr (same, own, other) ↦ ap (λ r. tape_fault p r b.1) same ∙ ap (tape_fault p n) own ∙ e
          ],
        ),
      )
  one_tape n none None None e g = inl (λ r less own. elim (same_or_below r n less) [ inl same ↦ ap (λ k. tape_fault p k own) same ∙ both own | inr lower ↦ none r lower own ])
    where
      both : (own : Bool) → tape_fault p n own ≡ None
      both true = e
      both false = g

  first_tape : (n : ℕ) → NoTape n ⊎ HasFirstTape
  first_tape zero = inl (λ r less. absurd (omega (arith, less)))
  first_tape (suc n) = elim (first_tape n) [
    | inr found ↦ inr found
    | inl none ↦ one_tape n none (tape_fault p n true) (tape_fault p n false) refl refl
  ]

  past_tape : (r : ℕ) (own : Bool) → length p.ranks ≤ r → tape_fault p r own ≡ None
  past_tape r true past = ap (λ (x : RankProgram). length_fault r true (sum_by own_of x.instructions) (length x.own)) (no_rank r past)
  past_tape r false past = ap (λ (x : RankProgram). length_fault r false (sum_by protocol_of x.instructions) (length x.protocol)) (no_rank r past)

  some_tape : (o : Option Fault) × IsFirst IsEarlierTape (λ t. tape_fault p t.0 t.1) o
  some_tape = elim (first_tape (length p.ranks)) [
    | inr (f, first) ↦ (Some f, first)
    | inl none ↦ (None, λ t. elim (cases_lt t.0 (length p.ranks)) [ inl less ↦ none t.0 less t.1 | inr above ↦ past_tape t.0 t.1 above ])
  ]

-- ---- lanes, of which those outside a list have no fault
abbrev Among : List Lane → Lane → Type 0
Among [] a = ⊥
Among (l ∷ ls) a = (a ≡ l) ⊎ Among ls a

among-left : (ls ms : List Lane) (a : Lane) → Among ls a → Among (ls ++ ms) a
among-left [] ms a h = absurd h
among-left (l ∷ ls) ms a (inl e) = inl e
among-left (l ∷ ls) ms a (inr h) = inr (among-left ls ms a h)

among-right : (ls ms : List Lane) (a : Lane) → Among ms a → Among (ls ++ ms) a
among-right [] ms a h = h
among-right (l ∷ ls) ms a h = inr (among-right ls ms a h)

equal_or_less : {A : Type 0} → Less ≡ Equal → A
equal_or_less e = cc

never_lower : (a : Lane) → IsLower a a → ⊥
never_lower a low = let turned = lane_order-total.antisymm a a in let z : Less ≡ ordering_reverse Less = sym low ∙ turned ∙ ap ordering_reverse low in cc

module _ (faults : Lane → Option Fault) where
  -- the lowest lane of a list that has a fault
  record Lowest (ls : List Lane) : Type 0 where
    lane : Lane
    fault : Fault
    here : faults lane ≡ Some fault
    below : (b : Lane) → Among ls b → IsLower b lane → faults b ≡ None

  lowest_of : (ls : List Lane) → ((a : Lane) → Among ls a → faults a ≡ None) ⊎ Lowest ls
  lowest_of [] = inl (λ a h. absurd h)
  lowest_of (l ∷ ls) = by_fault (lowest_of ls) (faults l) refl
    where
      keep : (x : Lowest ls) → (IsLower l x.lane → faults l ≡ None) → Lowest (l ∷ ls)
      keep x first = record {
        lane = x.lane;
        fault = x.fault;
        here = x.here;
        below = λ b among low. elim among [ inl e ↦ ap faults e ∙ first (subst (λ c. IsLower c x.lane) e low) | inr h ↦ x.below b h low ];
      }

      by_order : (f : Fault) → faults l ≡ Some f → (x : Lowest ls) (o : Ordering) → lane_order l x.lane ≡ o → Lowest (l ∷ ls)
      by_order f e x Less lower = record {
        lane = l;
        fault = f;
        here = e;
        below = λ b among low. elim among [
          | inl same ↦ absurd (never_lower l (subst (λ c. IsLower c l) same low))
          | inr h ↦ x.below b h (lane_order-total.trans b l x.lane low lower)
        ];
      }
      by_order f e x Equal same = keep x (λ low. let z : Less ≡ Equal = sym low ∙ same in equal_or_less z)
      by_order f e x Greater above = keep x (λ low. let z : Less ≡ Greater = sym low ∙ above in cc)

      by_fault : ((a : Lane) → Among ls a → faults a ≡ None) ⊎ Lowest ls → (o : Option Fault) → faults l ≡ o → ((a : Lane) → Among (l ∷ ls) a → faults a ≡ None) ⊎ Lowest (l ∷ ls)
      by_fault (inl none) None e = inl (λ a among. elim among [ inl same ↦ ap faults same ∙ e | inr h ↦ none a h ])
      by_fault (inl none) (Some f) e = inr (record {
        lane = l;
        fault = f;
        here = e;
        below = λ b among low. elim among [ inl same ↦ absurd (never_lower l (subst (λ c. IsLower c l) same low)) | inr h ↦ none b h ];
      })
      by_fault (inr x) None e = inr (keep x (λ low. e))
      by_fault (inr x) (Some f) e = inr (by_order f e x (lane_order l x.lane) refl)

  some_lowest : (ls : List Lane) → ((a : Lane) → Among ls a ⊎ (faults a ≡ None)) → (o : Option Fault) × IsFirst IsLower faults o
  some_lowest ls covers = elim (lowest_of ls) [
    | inl none ↦ (None, λ a. elim (covers a) [ inl among ↦ none a among | inr e ↦ e ])
    | inr x ↦ (Some x.fault, (x.lane, x.here, λ b low. elim (covers b) [ inl among ↦ x.below b among low | inr e ↦ e ]))
  ]

-- ---- the lanes of instructions
lanes_of : ℕ → List Instr → List Lane
lanes_of r [] = []
lanes_of r (i ∷ is) = option_to_list (post_lane r i) ++ (option_to_list (lane_received r i) ++ lanes_of r is)

lanes_below : Programs → ℕ → List Lane
lanes_below p zero = []
lanes_below p (suc n) = lanes_below p n ++ lanes_of n (rank_of p n).instructions

on_among : (o : Option Lane) (a : Lane) → is_on o a ≡ true → Among (option_to_list o) a
on_among None a e = cc
on_among (Some l) a e = inl (sym (same_lane l a e))

-- a lane that some instruction names is among them
named_among : (r : ℕ) (a : Lane) (which : Instr → Option Lane) → ((i : Instr) (is : List Instr) → Among (option_to_list (which i)) a → Among (lanes_of r (i ∷ is)) a)
    → (is : List Instr) → (count_by (λ i. is_on (which i) a) is ≡ 0) ⊎ Among (lanes_of r is) a
unfolding lanes_of
named_among r a which at [] = inl refl
named_among r a which at (i ∷ is) = by_here (is_on (which i) a) refl (named_among r a which at is)
  where
    by_here : (b : Bool) → is_on (which i) a ≡ b → (count_by (λ i. is_on (which i) a) is ≡ 0) ⊎ Among (lanes_of r is) a
        → (count_by (λ i. is_on (which i) a) (i ∷ is) ≡ 0) ⊎ Among (lanes_of r (i ∷ is)) a
    by_here true e rest = inr (at i is (on_among (which i) a e))
    by_here false e (inr h) =
        inr (among-right (option_to_list (post_lane r i)) (option_to_list (lane_received r i) ++ lanes_of r is) a (among-right (option_to_list (lane_received r i)) (lanes_of r is) a h))
    by_here false e (inl none) =
        let one_if : Bool → ℕ = λ b. cond b 1 0 in
        let all = sum_by-cons (λ j. one_if (is_on (which j) a)) i is in
        let zero_here : one_if (is_on (which i) a) ≡ 0 = ap one_if e in
        inl (omega (arith, all, zero_here, none))

posted_among : (r : ℕ) (a : Lane) (i : Instr) (is : List Instr) → Among (option_to_list (post_lane r i)) a → Among (lanes_of r (i ∷ is)) a
unfolding lanes_of
posted_among r a i is h = among-left (option_to_list (post_lane r i)) (option_to_list (lane_received r i) ++ lanes_of r is) a h

received_among : (r : ℕ) (a : Lane) (i : Instr) (is : List Instr) → Among (option_to_list (lane_received r i)) a → Among (lanes_of r (i ∷ is)) a
unfolding lanes_of
received_among r a i is h =
    among-right (option_to_list (post_lane r i)) (option_to_list (lane_received r i) ++ lanes_of r is) a (among-left (option_to_list (lane_received r i)) (lanes_of r is) a h)

module _ (p : Programs) where
  -- of the first n ranks
  rank_among : (n r : ℕ) (a : Lane) → r < n → Among (lanes_of r (rank_of p r).instructions) a → Among (lanes_below p n) a
  unfolding lanes_below
  rank_among zero r a less h = absurd (omega (arith, less))
  rank_among (suc n) r a less h = elim (same_or_below r n less) [
    | inl same ↦ among-right (lanes_below p n) (lanes_of n (rank_of p n).instructions) a (subst (λ k. Among (lanes_of k (rank_of p k).instructions) a) same h)
    | inr lower ↦ among-left (lanes_below p n) (lanes_of n (rank_of p n).instructions) a (rank_among n r a lower h)
  ]

  none_past : (r : ℕ) (a : Lane) (which : Instr → Option Lane) → length p.ranks ≤ r → count_by (λ i. is_on (which i) a) (rank_of p r).instructions ≡ 0
  none_past r a which past = ap (λ (x : RankProgram). count_by (λ i. is_on (which i) a) x.instructions) (no_rank p r past)

  all_sent : (a : Lane) → (lane_sends p a ≡ 0) ⊎ Among (lanes_below p (length p.ranks)) a
  all_sent a = elim (cases_lt a.from (length p.ranks)) [
    | inr past ↦ inl (posts_in-lane a.from a (rank_of p a.from).instructions ∙ none_past a.from a (post_lane a.from) past)
    | inl known ↦ elim (named_among a.from a (post_lane a.from) (posted_among a.from a) (rank_of p a.from).instructions) [
      | inl none ↦ inl (posts_in-lane a.from a (rank_of p a.from).instructions ∙ none)
      | inr h ↦ inr (rank_among (length p.ranks) a.from a known h)
    ]
  ]

  all_received : (a : Lane) → (lane_receives p a ≡ 0) ⊎ Among (lanes_below p (length p.ranks)) a
  all_received a = elim (cases_lt a.to (length p.ranks)) [
    | inr past ↦ inl (none_past a.to a (lane_received a.to) past)
    | inl known ↦ elim (named_among a.to a (lane_received a.to) (received_among a.to a) (rank_of p a.to).instructions) [
      | inl none ↦ inl none
      | inr h ↦ inr (rank_among (length p.ranks) a.to a known h)
    ]
  ]

  no_mismatch : (a : Lane) (sends receives : ℕ) → sends ≡ 0 → receives ≡ 0 → match_fault a sends receives ≡ None
  no_mismatch a sends receives s r =
      ap (λ n. match_fault a n receives) s ∙ ap (match_fault a 0) r ∙ spared (is_back a.kind)
    where
      spared : (b : Bool) → (if b || (0 == 0) then None else Some (fault.UnmatchedLane a 0 0)) ≡ None
      spared true = refl
      spared false = refl

  covered : (a : Lane) → Among (lanes_below p (length p.ranks)) a ⊎ (lane_fault p a ≡ None)
  covered a = by_counts (all_sent a) (all_received a)
    where
      by_counts : (lane_sends p a ≡ 0) ⊎ Among (lanes_below p (length p.ranks)) a → (lane_receives p a ≡ 0) ⊎ Among (lanes_below p (length p.ranks)) a
          → Among (lanes_below p (length p.ranks)) a ⊎ (lane_fault p a ≡ None)
      by_counts (inr h) r = inl h
      by_counts (inl s) (inr h) = inl h
      by_counts (inl s) (inl r) = inr (no_mismatch a (lane_sends p a) (lane_receives p a) s r)

  some_lane : (o : Option Fault) × IsFirst IsLower (lane_fault p) o
  some_lane = some_lowest (lane_fault p) (lanes_below p (length p.ranks)) covered

  -- ---- all places
  ready_or_fault : (o : Option Fault) → IsFirst IsBefore (fault_at p) o → IsReady p ⊎ ((f : Fault) × IsFirstFault p f)
  ready_or_fault None h = inl h
  ready_or_fault (Some f) h = inr (f, h)

  pub ready_or_first_fault : IsReady p ⊎ ((f : Fault) × IsFirstFault p f)
  ready_or_first_fault =
      let s = some_step p in
      let l = some_lane in
      let t = some_tape p in
      ready_or_fault (option_or (option_or (option_or (fault_at p AllRanks) s.0) l.0) t.0) (first_of_all p (fault_at p AllRanks) s.0 l.0 t.0 refl s.1 l.1 t.1)
