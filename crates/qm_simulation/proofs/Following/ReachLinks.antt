-- The two ranks of a reach wait for each other: what every event of every instruction keeps
use Rattle.std.proofs.Common.{◌≡◌, ◌≢◌, ℕ, zero, suc, ◌+◌, ◌-◌, ◌<◌, nat_eq, nat_lt, Bool, true, false, cond, ◌&&◌, ◌⊎◌, inl, inr, List, [], ◌∷◌, ◌++◌, length, drop, Option, Some, None, is_some, slice_index_or, Contains, refl, sym, ap, ap₂, subst, ◌∙◌, arith, ⊎_elim, length-append}
use Rattle.std.proofs.lemmas.Bool.{cases_eq, and_parts, eqb-true, eq-eqb}
use Rattle.std.proofs.lemmas.List.Elements.{Contains-push, Contains-push_cases, Contains-append_left}
use Rattle.qm_denot.specs.declared.Letter.{Letter}
use Rattle.qm_denot.specs.Parcels.{filled}
use Rattle.qm_instr.specs.declared.Instr.{Instr}
use Rattle.qm_instr.specs.declared.Instr.TheVariants as instr
use Rattle.qm_instr.specs.declared.Kind.TheVariants as kind
use Rattle.qm_instr.specs.declared.Lane.{Lane}
use Rattle.qm_instr.specs.Counts.{events_of}
use Rattle.qm_instr.specs.Lanes.{lane}
use Rattle.qm_instr.specs.Programs.{Programs}
use Rattle.qm_check.proofs.Faultless.{IsStep}
use Rattle.qm_denot.specs.declared.Parcel.{Parcel}
use Rattle.qm_proto.specs.Model.State.{Part, Tables, with_lane, no_parcel, front, wire_of, protocol_next, far_made}
use Rattle.qm_proto.specs.Model.Acts.{list_of}
use Rattle.qm_proto.specs.Model.Rows.{current, instr_at, letter, few_if, half_parcel, bit_parcel}
use Rattle.qm_proto.proofs.Changes.{with_lane-elsewhere, by_lane}
use Rattle.qm_safety.specs.Tables.Lines.{row_at, acts_of}
use Rattle.qm_simulation.specs.Following.Debts.{far_counted}
use Rattle.qm_safety.specs.Tables.Well.{middle_of, middle_at, is_open, sent_at}
use Rattle.qm_safety.proofs.Tables.NextEvents.{IsNext, event_done, part_elsewhere}
use Rattle.qm_confluence.proofs.Confluence.IdealWires.{contains_drop}
use Rattle.qm_simulation.proofs.Following.SeenLaws.{filled_last}
use Rattle.qm_simulation.proofs.Following.UndoLinks.{untouched}
use Rattle.qm_simulation.proofs.Following.Opens.{IsLast, IsOpen, makes, none_made_later, counts}
use Rattle.qm_simulation.proofs.Following.Places.{part_all, own_on, goes_on, fresh_stage, lane_stays}
use Rattle.qm_simulation.proofs.Following.ReachChains.{one_if, filled_in, filled_in-push, filled_in-drop, filled_in-told, length-drop_some, filled_there, waits_at, takes_at, IsChained, is_reach, reachless, not_reaching}

-- whether an instruction's message is that of the lane
abbrev matches : ℕ → ℕ → ℕ → ℕ → Bool
matches to b g tag = nat_eq to b && nat_eq g tag

matched : (to b g tag : ℕ) → matches to b g tag ≡ true → (to ≡ b) × (g ≡ tag)
matched to b g tag e = let h = and_parts (nat_eq to b) (nat_eq g tag) e in (eqb-true to b h.0, eqb-true g tag h.1)

match_itself : (to b g tag : ℕ) → to ≡ b → g ≡ tag → matches to b g tag ≡ true
match_itself to b g tag e f = ap₂ (λ x y. x && y) (eq-eqb to b e) (eq-eqb g tag f)

reach_not_back : (x y g z w h : ℕ) → lane x y kind.Reach g ≢ lane z w kind.Back h
reach_not_back x y g z w h e = let k : kind.Reach ≡ kind.Back = ap (λ (l : Lane). l.kind) e in cc

module _ (p : Programs) (t : Tables) (r : ℕ) (opens : (k : ℕ) → IsOpen p t k) where
  -- ---- an event of the first rank
  module _ (b tag : ℕ) where
    -- where it stands afterwards
    abbrev waits_next : Instr → ℕ → Bool
    waits_next i s = cond (nat_lt (s + 1) (events_of i)) (waits_at b tag (Some i) (s + 1)) false

    record SenderGoes (i : Instr) (s : ℕ) : Type 0 where
      count : (let u = event_done (events_of i) r (acts_of (row_at p t r i s)) t in
          (filled_in (u.lanes (lane r b kind.Reach tag)) + length (u.lanes (lane b r kind.Back tag))) + one_if (waits_at b tag (Some i) s)
          ≡ (filled_in (t.lanes (lane r b kind.Reach tag)) + length (t.lanes (lane b r kind.Back tag))) + one_if (waits_next i s))
      named : (x : Parcel) → Contains ((event_done (events_of i) r (acts_of (row_at p t r i s)) t).lanes (lane r b kind.Reach tag)) x → is_some x.bits ≡ true
          → Contains (t.lanes (lane r b kind.Reach tag)) x ⊎ (wire_of x ≡ far_counted r (t.parts r))

    same_goes : (i : Instr) (s : ℕ) → (let u = event_done (events_of i) r (acts_of (row_at p t r i s)) t in
        u.lanes (lane r b kind.Reach tag) ≡ t.lanes (lane r b kind.Reach tag) → u.lanes (lane b r kind.Back tag) ≡ t.lanes (lane b r kind.Back tag)
        → waits_at b tag (Some i) s ≡ waits_next i s → SenderGoes i s)
    same_goes i s there back waits = record {
      count = ap₂ (λ (xs ys : List Parcel). (filled_in xs + length ys) + one_if (waits_at b tag (Some i) s)) there back
          ∙ ap (λ c. (filled_in (t.lanes (lane r b kind.Reach tag)) + length (t.lanes (lane b r kind.Back tag))) + one_if c) waits;
      named = λ x h bits. inl (subst (λ xs. Contains xs x) there h);
    }

    -- the half is posted, without bits
    post_goes : (q to g : ℕ) → SenderGoes (instr.ReachTo q to g) 0
    post_goes q to g =
        let c = lane r to kind.Reach g in
        let y = half_parcel (far_made t r) in
        let l = lane r b kind.Reach tag in
        let size : filled_in (with_lane t.lanes c (t.lanes c ++ y ∷ []) l) ≡ filled_in (t.lanes l) =
        by_lane (λ xs. filled_in xs ≡ filled_in (t.lanes l)) t.lanes c (t.lanes c ++ y ∷ []) l
        (λ e. let h = filled_in-push (t.lanes c) y in omega (arith, ap (λ k. filled_in (t.lanes k)) e)) (λ _. refl) in
        let back : with_lane t.lanes c (t.lanes c ++ y ∷ []) (lane b r kind.Back tag) ≡ t.lanes (lane b r kind.Back tag) =
        with_lane-elsewhere t.lanes c _ (lane b r kind.Back tag) (λ e. reach_not_back r to g b r tag (sym e)) in
        record {
          count = ap₂ (λ m (ys : List Parcel). (m + length ys) + 0) size back;
          named = λ x h bits. inl (by_lane (λ xs. Contains xs x → Contains (t.lanes l) x) t.lanes c (t.lanes c ++ y ∷ []) l
              (λ e there. subst (λ k. Contains (t.lanes k) x) (sym e)
              (⊎_elim (λ (old : Contains (t.lanes c) x). old) (λ (new : y ≡ x). absurd (let z : is_some y.bits ≡ true = subst (λ (v : Parcel). is_some v.bits ≡ true) (sym new) bits in let n : ⊥ = cc in n)) (Contains-push_cases (t.lanes c) y x there)))
              (λ _ there. there) h);
        }

    -- its bits are told
    tell_goes : (q to g : ℕ) → IsNext p t r (instr.ReachTo q to g) 2 → (m : Bool) → matches to b g tag ≡ m → SenderGoes (instr.ReachTo q to g) 2
    tell_goes q to g next m is =
        let c = lane r to kind.Reach g in
        let l = lane r b kind.Reach tag in
        let v : Bool × Bool = (protocol_next t r, false) in
        let last : IsLast (t.lanes c) (half_parcel (far_counted r (t.parts r))) = (opens r).last c (ap (λ o. is_open (middle_at o) (t.parts r).stage) next.read ∙ ap (is_open (middle_of (instr.ReachTo q to g))) next.stage) (ap (sent_at r) next.read) in
        let more = filled_in-told (t.lanes c) (half_parcel (far_counted r (t.parts r))) v last refl in
        let size : filled_in (with_lane t.lanes c (filled (t.lanes c) v) l) ≡ filled_in (t.lanes l) + one_if (matches to b g tag) =
        by_lane (λ xs. filled_in xs ≡ filled_in (t.lanes l) + one_if (matches to b g tag)) t.lanes c (filled (t.lanes c) v) l
        (λ e. let one : one_if (matches to b g tag) ≡ 1 = ap one_if (match_itself to b g tag (ap (λ (k : Lane). k.to) (sym e)) (ap (λ (k : Lane). k.tag) (sym e))) in
        omega (arith, ap (λ k. filled_in (t.lanes k)) e))
        (λ ne. let none : one_if (matches to b g tag) ≡ 0 = none_where m is ne in omega arith) in
        let back : with_lane t.lanes c (filled (t.lanes c) v) (lane b r kind.Back tag) ≡ t.lanes (lane b r kind.Back tag) =
        with_lane-elsewhere t.lanes c _ (lane b r kind.Back tag) (λ e. reach_not_back r to g b r tag (sym e)) in
        let both : length (with_lane t.lanes c (filled (t.lanes c) v) (lane b r kind.Back tag)) ≡ length (t.lanes (lane b r kind.Back tag)) = ap (λ (ys : List Parcel). length ys) back in
        record {
          count = omega arith;
          named = λ x h bits. by_lane (λ xs. Contains xs x → Contains (t.lanes l) x ⊎ (wire_of x ≡ far_counted r (t.parts r))) t.lanes c (filled (t.lanes c) v) l
              (λ e there.
              let f = half_parcel (far_counted r (t.parts r)) in
              let full : Contains (last.front ++ record f { bits = Some v } ∷ []) x = subst (λ ys. Contains ys x) (ap (λ ys. filled ys v) last.is ∙ filled_last last.front f v) there in
              ⊎_elim (λ (old : Contains last.front x). inl (subst (λ k. Contains (t.lanes k) x) (sym e) (subst (λ ys. Contains ys x) (sym last.is) (Contains-append_left last.front (f ∷ []) x old))))
              (λ (new : record f { bits = Some v } ≡ x). inr (ap wire_of (sym new))) (Contains-push_cases last.front (record f { bits = Some v }) x full))
              (λ _ there. inl there) h;
        }
      where
        none_where : (m : Bool) → matches to b g tag ≡ m → lane r b kind.Reach tag ≢ lane r to kind.Reach g → one_if (matches to b g tag) ≡ 0
        none_where true e ne = let h = matched to b g tag e in absurd (ne (ap₂ (λ x y. lane r x kind.Reach y) (sym h.0) (sym h.1)))
        none_where false e ne = ap one_if e

    -- the answer is taken
    answer_goes : (q to g : ℕ) → IsNext p t r (instr.ReachTo q to g) 3 → (m : Bool) → matches to b g tag ≡ m → SenderGoes (instr.ReachTo q to g) 3
    answer_goes q to g next m is =
        let c = lane to r kind.Back g in
        let l = lane b r kind.Back tag in
        let less = length-drop_some (t.lanes c) next.holds in
        let size : length (with_lane t.lanes c (drop 1 (t.lanes c)) l) + one_if (matches to b g tag) ≡ length (t.lanes l) =
        by_lane (λ (xs : List Parcel). length xs + one_if (matches to b g tag) ≡ length (t.lanes l)) t.lanes c (drop 1 (t.lanes c)) l
        (λ e. let one : one_if (matches to b g tag) ≡ 1 = ap one_if (match_itself to b g tag (ap (λ (k : Lane). k.from) (sym e)) (ap (λ (k : Lane). k.tag) (sym e))) in
        omega (arith, ap (λ k. length (t.lanes k)) e))
        (λ ne. let none : one_if (matches to b g tag) ≡ 0 = none_where m is ne in omega arith) in
        let there : with_lane t.lanes c (drop 1 (t.lanes c)) (lane r b kind.Reach tag) ≡ t.lanes (lane r b kind.Reach tag) =
        with_lane-elsewhere t.lanes c _ (lane r b kind.Reach tag) (λ e. reach_not_back r b tag to r g e) in
        let both : filled_in (with_lane t.lanes c (drop 1 (t.lanes c)) (lane r b kind.Reach tag)) ≡ filled_in (t.lanes (lane r b kind.Reach tag)) = ap filled_in there in
        record {
          count = omega arith;
          named = λ x h bits. inl (subst (λ xs. Contains xs x) there h);
        }
      where
        none_where : (m : Bool) → matches to b g tag ≡ m → lane b r kind.Back tag ≢ lane to r kind.Back g → one_if (matches to b g tag) ≡ 0
        none_where true e ne = let h = matched to b g tag e in absurd (ne (ap₂ (λ x y. lane x r kind.Back y) (sym h.0) (sym h.1)))
        none_where false e ne = ap one_if e

    quiet_goes : (i : Instr) (s : ℕ) → is_reach i ≡ false → SenderGoes i s
    quiet_goes i s e =
        let h = reachless p t r i s e in
        same_goes i s (untouched r kind.Reach (acts_of (row_at p t r i s)) t (lane r b kind.Reach tag) h.there refl)
        (untouched r kind.Back (acts_of (row_at p t r i s)) t (lane b r kind.Back tag) h.back refl)
        ((not_reaching i b b tag s e).0 ∙ by_end (nat_lt (s + 1) (events_of i)))
      where
        by_end : (c : Bool) → false ≡ cond c (waits_at b tag (Some i) (s + 1)) false
        by_end true = sym (not_reaching i b b tag (s + 1) e).0
        by_end false = refl

    sender_goes : b ≢ r → (step : (i : Instr) → current p t r ≡ Some i → IsStep p r (t.parts r).at i) → (i : Instr) (s : ℕ) → IsNext p t r i s → SenderGoes i s
    sender_goes apart step (instr.ReachTo q to g) zero next = post_goes q to g
    sender_goes apart step (instr.ReachTo q to g) (suc zero) next = same_goes (instr.ReachTo q to g) 1 refl refl refl
    sender_goes apart step (instr.ReachTo q to g) (suc (suc zero)) next = tell_goes q to g next (matches to b g tag) refl
    sender_goes apart step (instr.ReachTo q to g) (suc (suc (suc zero))) next = answer_goes q to g next (matches to b g tag) refl
    sender_goes apart step (instr.ReachTo q to g) (suc (suc (suc (suc zero)))) next =
        same_goes (instr.ReachTo q to g) 4 (same_lanes _ _ (lane r b kind.Reach tag)) (same_lanes _ _ (lane b r kind.Back tag)) refl
      where
        same_lanes : (c : Bool) (l : Letter) (k : Lane) → (event_done 5 r (list_of (few_if c (letter l))) t).lanes k ≡ t.lanes k
        same_lanes true l k = refl
        same_lanes false l k = refl
    sender_goes apart step (instr.ReachTo q to g) (suc (suc (suc (suc (suc s))))) next = absurd (let h = next.holds in let n : ⊥ = cc in n)
    sender_goes apart step (instr.ReachFrom q from g) zero next =
        same_goes (instr.ReachFrom q from g) 0
        (with_lane-elsewhere t.lanes (lane from r kind.Reach g) _ (lane r b kind.Reach tag) (λ e. ((step (instr.ReachFrom q from g) next.read).partner from refl).other (ap (λ (l : Lane). l.from) (sym e))))
        (with_lane-elsewhere t.lanes (lane from r kind.Reach g) _ (lane b r kind.Back tag) (λ e. reach_not_back from r g b r tag (sym e))) refl
    sender_goes apart step (instr.ReachFrom q from g) (suc zero) next =
        same_goes (instr.ReachFrom q from g) 1 (same_lanes _ _ (lane r b kind.Reach tag)) (same_lanes _ _ (lane b r kind.Back tag)) refl
      where
        same_lanes : (c : Bool) (l : Letter) (k : Lane) → (event_done 5 r (list_of (few_if c (letter l))) t).lanes k ≡ t.lanes k
        same_lanes true l k = refl
        same_lanes false l k = refl
    sender_goes apart step (instr.ReachFrom q from g) (suc (suc zero)) next = same_goes (instr.ReachFrom q from g) 2 refl refl refl
    sender_goes apart step (instr.ReachFrom q from g) (suc (suc (suc zero))) next = same_goes (instr.ReachFrom q from g) 3 refl refl refl
    sender_goes apart step (instr.ReachFrom q from g) (suc (suc (suc (suc zero)))) next =
        same_goes (instr.ReachFrom q from g) 4
        (with_lane-elsewhere t.lanes (lane r from kind.Back g) _ (lane r b kind.Reach tag) (λ e. reach_not_back r b tag r from g e))
        (with_lane-elsewhere t.lanes (lane r from kind.Back g) _ (lane b r kind.Back tag) (λ e. apart (ap (λ (l : Lane). l.from) e))) refl
    sender_goes apart step (instr.ReachFrom q from g) (suc (suc (suc (suc (suc s))))) next = absurd (let h = next.holds in let n : ⊥ = cc in n)
    sender_goes apart step _ s next = quiet_goes _ s refl

-- ---- an event of the second rank
pub front_there : (xs : List Parcel) → is_some (slice_index_or xs 0 no_parcel).bits ≡ true → Contains xs (slice_index_or xs 0 no_parcel)
front_there [] h = absurd (let n : ⊥ = cc in n)
front_there (x ∷ xs) h = Contains-append_left (x ∷ []) xs x (Contains-push [] x)

letters_taken : (r : ℕ) (c : Bool) (l : Letter) (t : Tables) → (part_all r (list_of (few_if c (letter l))) t (t.parts r)).taken ≡ (t.parts r).taken
letters_taken r true l t = refl
letters_taken r false l t = refl

same_lanes : (n r : ℕ) (t : Tables) (c : Bool) (l : Letter) (k : Lane) → (event_done n r (list_of (few_if c (letter l))) t).lanes k ≡ t.lanes k
same_lanes n r t true l k = refl
same_lanes n r t false l k = refl

module _ (p : Programs) (t : Tables) (r a tag : ℕ) (apart : a ≢ r) (old : IsChained p t a r tag) where
  record ReceiverGoes (i : Instr) (s : ℕ) : Type 0 where
    count : (let u = event_done (events_of i) r (acts_of (row_at p t r i s)) t in
        (filled_in (u.lanes (lane a r kind.Reach tag)) + length (u.lanes (lane r a kind.Back tag))) + one_if (cond (nat_lt (s + 1) (events_of i)) (takes_at a tag (Some i) (s + 1)) false)
        ≡ (filled_in (t.lanes (lane a r kind.Reach tag)) + length (t.lanes (lane r a kind.Back tag))) + one_if (takes_at a tag (Some i) s))
    named : (x : Parcel) → Contains ((event_done (events_of i) r (acts_of (row_at p t r i s)) t).lanes (lane a r kind.Reach tag)) x → Contains (t.lanes (lane a r kind.Reach tag)) x
    taken : takes_at a tag (Some i) (s + 1) ≡ true
        → (let v = part_all r (acts_of (row_at p t r i s)) t (t.parts r) in wire_of v.taken ≡ far_counted a (t.parts a))

  keeps_goes : (i : Instr) (s : ℕ) → (let u = event_done (events_of i) r (acts_of (row_at p t r i s)) t in
      u.lanes (lane a r kind.Reach tag) ≡ t.lanes (lane a r kind.Reach tag) → u.lanes (lane r a kind.Back tag) ≡ t.lanes (lane r a kind.Back tag)
      → takes_at a tag (Some i) s ≡ cond (nat_lt (s + 1) (events_of i)) (takes_at a tag (Some i) (s + 1)) false
      → (takes_at a tag (Some i) (s + 1) ≡ true
      → (let v = part_all r (acts_of (row_at p t r i s)) t (t.parts r) in wire_of v.taken ≡ far_counted a (t.parts a)))
      → ReceiverGoes i s)
  keeps_goes i s there back takes taken = record {
    count = ap₂ (λ (xs ys : List Parcel). (filled_in xs + length ys) + one_if (cond (nat_lt (s + 1) (events_of i)) (takes_at a tag (Some i) (s + 1)) false)) there back
        ∙ ap (λ c. (filled_in (t.lanes (lane a r kind.Reach tag)) + length (t.lanes (lane r a kind.Back tag))) + one_if c) (sym takes);
    named = λ x h. subst (λ xs. Contains xs x) there h;
    taken = taken;
  }

  take_goes : (q from g : ℕ) → IsNext p t r (instr.ReachFrom q from g) 0 → (m : Bool) → matches from a g tag ≡ m → ReceiverGoes (instr.ReachFrom q from g) 0
  take_goes q from g next m is =
      let c = lane from r kind.Reach g in
      let l = lane a r kind.Reach tag in
      let less = filled_in-drop (t.lanes c) next.holds in
      let size : filled_in (with_lane t.lanes c (drop 1 (t.lanes c)) l) + one_if (matches from a g tag) ≡ filled_in (t.lanes l) =
      by_lane (λ (xs : List Parcel). filled_in xs + one_if (matches from a g tag) ≡ filled_in (t.lanes l)) t.lanes c (drop 1 (t.lanes c)) l
      (λ e. let one : one_if (matches from a g tag) ≡ 1 = ap one_if (match_itself from a g tag (ap (λ (k : Lane). k.from) (sym e)) (ap (λ (k : Lane). k.tag) (sym e))) in
      omega (arith, ap (λ k. filled_in (t.lanes k)) e))
      (λ ne. let none : one_if (matches from a g tag) ≡ 0 = none_where m is ne in omega arith) in
      let back : with_lane t.lanes c (drop 1 (t.lanes c)) (lane r a kind.Back tag) ≡ t.lanes (lane r a kind.Back tag) =
      with_lane-elsewhere t.lanes c _ (lane r a kind.Back tag) (λ e. reach_not_back from r g r a tag (sym e)) in
      let both : length (with_lane t.lanes c (drop 1 (t.lanes c)) (lane r a kind.Back tag)) ≡ length (t.lanes (lane r a kind.Back tag)) = ap (λ (ys : List Parcel). length ys) back in
      record {
        count = omega arith;
        named = λ x h. by_lane (λ xs. Contains xs x → Contains (t.lanes l) x) t.lanes c (drop 1 (t.lanes c)) l
            (λ e there. subst (λ k. Contains (t.lanes k) x) (sym e) (contains_drop (t.lanes c) x there)) (λ _ there. there) h;
        taken = λ e.
            let same = matched from a g tag e in
            let lanes : c ≡ l = ap₂ (λ x y. lane x r kind.Reach y) same.0 same.1 in
            old.named (front t c) (subst (λ k. Contains (t.lanes k) (front t c)) lanes (front_there (t.lanes c) next.holds)) next.holds;
      }
    where
      none_where : (m : Bool) → matches from a g tag ≡ m → lane a r kind.Reach tag ≢ lane from r kind.Reach g → one_if (matches from a g tag) ≡ 0
      none_where true e ne = let h = matched from a g tag e in absurd (ne (ap₂ (λ x y. lane x r kind.Reach y) (sym h.0) (sym h.1)))
      none_where false e ne = ap one_if e

  return_goes : (q from g : ℕ) → IsNext p t r (instr.ReachFrom q from g) 4 → (m : Bool) → matches from a g tag ≡ m → ReceiverGoes (instr.ReachFrom q from g) 4
  return_goes q from g next m is =
      let c = lane r from kind.Back g in
      let y = bit_parcel (protocol_next t r) in
      let l = lane r a kind.Back tag in
      let size : length (with_lane t.lanes c (t.lanes c ++ y ∷ []) l) ≡ length (t.lanes l) + one_if (matches from a g tag) =
      by_lane (λ (xs : List Parcel). length xs ≡ length (t.lanes l) + one_if (matches from a g tag)) t.lanes c (t.lanes c ++ y ∷ []) l
      (λ e. let one : one_if (matches from a g tag) ≡ 1 = ap one_if (match_itself from a g tag (ap (λ (k : Lane). k.to) (sym e)) (ap (λ (k : Lane). k.tag) (sym e))) in
      omega (arith, length-append (t.lanes c) (y ∷ []), ap (λ k. length (t.lanes k)) e))
      (λ ne. let none : one_if (matches from a g tag) ≡ 0 = none_where m is ne in omega arith) in
      let there : with_lane t.lanes c (t.lanes c ++ y ∷ []) (lane a r kind.Reach tag) ≡ t.lanes (lane a r kind.Reach tag) =
      with_lane-elsewhere t.lanes c _ (lane a r kind.Reach tag) (λ e. reach_not_back a r tag r from g e) in
      let both : filled_in (with_lane t.lanes c (t.lanes c ++ y ∷ []) (lane a r kind.Reach tag)) ≡ filled_in (t.lanes (lane a r kind.Reach tag)) = ap filled_in there in
      record {
        count = omega arith;
        named = λ x h. subst (λ xs. Contains xs x) there h;
        taken = λ e. old.taken (at_stage 4 next e);
      }
    where
      at_stage : (s : ℕ) → IsNext p t r (instr.ReachFrom q from g) s → takes_at a tag (Some (instr.ReachFrom q from g)) s ≡ true
          → takes_at a tag (current p t r) (t.parts r).stage ≡ true
      at_stage s next e = ap (λ o. takes_at a tag o (t.parts r).stage) next.read ∙ ap (takes_at a tag (Some (instr.ReachFrom q from g))) next.stage ∙ e

      none_where : (m : Bool) → matches from a g tag ≡ m → lane r a kind.Back tag ≢ lane r from kind.Back g → one_if (matches from a g tag) ≡ 0
      none_where true e ne = let h = matched from a g tag e in absurd (ne (ap₂ (λ x y. lane r x kind.Back y) (sym h.0) (sym h.1)))
      none_where false e ne = ap one_if e

  quiet_receives : (i : Instr) (s : ℕ) → is_reach i ≡ false → ReceiverGoes i s
  quiet_receives i s e =
      let h = reachless p t r i s e in
      keeps_goes i s (untouched r kind.Reach (acts_of (row_at p t r i s)) t (lane a r kind.Reach tag) h.there refl)
      (untouched r kind.Back (acts_of (row_at p t r i s)) t (lane r a kind.Back tag) h.back refl)
      ((not_reaching i a a tag s e).1 ∙ by_end (nat_lt (s + 1) (events_of i)))
      (λ on. let off = (not_reaching i a a tag (s + 1) e).1 in absurd (let n : ⊥ = cc in n))
    where
      by_end : (c : Bool) → false ≡ cond c (takes_at a tag (Some i) (s + 1)) false
      by_end true = sym (not_reaching i a a tag (s + 1) e).1
      by_end false = refl

  receiver_goes : (step : (i : Instr) → current p t r ≡ Some i → IsStep p r (t.parts r).at i) → (i : Instr) (s : ℕ) → IsNext p t r i s → ReceiverGoes i s
  receiver_goes step (instr.ReachFrom q from g) zero next = take_goes q from g next (matches from a g tag) refl
  receiver_goes step (instr.ReachFrom q from g) (suc zero) next =
      keeps_goes (instr.ReachFrom q from g) 1 (same_lanes 5 r t _ _ (lane a r kind.Reach tag)) (same_lanes 5 r t _ _ (lane r a kind.Back tag)) refl
      (λ e. ap wire_of (letters_taken r _ _ t) ∙ old.taken (ap (λ o. takes_at a tag o (t.parts r).stage) next.read ∙ ap (takes_at a tag (Some (instr.ReachFrom q from g))) next.stage ∙ e))
  receiver_goes step (instr.ReachFrom q from g) (suc (suc zero)) next =
      keeps_goes (instr.ReachFrom q from g) 2 refl refl refl
      (λ e. old.taken (ap (λ o. takes_at a tag o (t.parts r).stage) next.read ∙ ap (takes_at a tag (Some (instr.ReachFrom q from g))) next.stage ∙ e))
  receiver_goes step (instr.ReachFrom q from g) (suc (suc (suc zero))) next =
      keeps_goes (instr.ReachFrom q from g) 3 refl refl refl
      (λ e. old.taken (ap (λ o. takes_at a tag o (t.parts r).stage) next.read ∙ ap (takes_at a tag (Some (instr.ReachFrom q from g))) next.stage ∙ e))
  receiver_goes step (instr.ReachFrom q from g) (suc (suc (suc (suc zero)))) next = return_goes q from g next (matches from a g tag) refl
  receiver_goes step (instr.ReachFrom q from g) (suc (suc (suc (suc (suc s))))) next = absurd (let h = next.holds in let n : ⊥ = cc in n)
  receiver_goes step (instr.ReachTo q to g) zero next =
      keeps_goes (instr.ReachTo q to g) 0
      (with_lane-elsewhere t.lanes (lane r to kind.Reach g) _ (lane a r kind.Reach tag) (λ e. apart (ap (λ (l : Lane). l.from) e)))
      (with_lane-elsewhere t.lanes (lane r to kind.Reach g) _ (lane r a kind.Back tag) (λ e. reach_not_back r to g r a tag (sym e))) refl (λ e. absurd (let n : ⊥ = cc in n))
  receiver_goes step (instr.ReachTo q to g) (suc zero) next = keeps_goes (instr.ReachTo q to g) 1 refl refl refl (λ e. absurd (let n : ⊥ = cc in n))
  receiver_goes step (instr.ReachTo q to g) (suc (suc zero)) next =
      keeps_goes (instr.ReachTo q to g) 2
      (with_lane-elsewhere t.lanes (lane r to kind.Reach g) _ (lane a r kind.Reach tag) (λ e. apart (ap (λ (l : Lane). l.from) e)))
      (with_lane-elsewhere t.lanes (lane r to kind.Reach g) _ (lane r a kind.Back tag) (λ e. reach_not_back r to g r a tag (sym e))) refl (λ e. absurd (let n : ⊥ = cc in n))
  receiver_goes step (instr.ReachTo q to g) (suc (suc (suc zero))) next =
      keeps_goes (instr.ReachTo q to g) 3
      (with_lane-elsewhere t.lanes (lane to r kind.Back g) _ (lane a r kind.Reach tag) (λ e. reach_not_back a r tag to r g e))
      (with_lane-elsewhere t.lanes (lane to r kind.Back g) _ (lane r a kind.Back tag) (λ e. apart (ap (λ (l : Lane). l.to) e))) refl (λ e. absurd (let n : ⊥ = cc in n))
  receiver_goes step (instr.ReachTo q to g) (suc (suc (suc (suc zero)))) next =
      keeps_goes (instr.ReachTo q to g) 4 (same_lanes 5 r t _ _ (lane a r kind.Reach tag)) (same_lanes 5 r t _ _ (lane r a kind.Back tag)) refl (λ e. absurd (let n : ⊥ = cc in n))
  receiver_goes step (instr.ReachTo q to g) (suc (suc (suc (suc (suc s))))) next = absurd (let h = next.holds in let n : ⊥ = cc in n)
  receiver_goes step _ s next = quiet_receives _ s refl

-- ---- both
pub waits_fresh : (b tag : ℕ) (o : Option Instr) → waits_at b tag o 0 ≡ false
waits_fresh b tag (Some (instr.ReachTo q to g)) = refl
waits_fresh b tag (Some _) = refl
waits_fresh b tag None = refl

pub takes_fresh : (a tag : ℕ) (o : Option Instr) → takes_at a tag o 0 ≡ false
takes_fresh a tag (Some (instr.ReachFrom q from g)) = refl
takes_fresh a tag (Some _) = refl
takes_fresh a tag None = refl

waits_stage : (b tag : ℕ) (o : Option Instr) (k : ℕ) → waits_at b tag o k ≡ true → k ≡ 3
waits_stage b tag (Some (instr.ReachTo q to g)) k e = eqb-true k 3 (and_parts (nat_eq k 3) (nat_eq to b && nat_eq g tag) e).0
waits_stage b tag (Some _) k e = absurd (let n : ⊥ = cc in n)
waits_stage b tag None k e = absurd (let n : ⊥ = cc in n)

some_true : (c : Bool) → 0 < one_if c → c ≡ true
some_true true h = refl
some_true false h = absurd (omega arith)

module _ (p : Programs) (t : Tables) (r : ℕ) (i : Instr) (s : ℕ) (next : IsNext p t r i s) (opens : (k : ℕ) → IsOpen p t k)
    (step : (i : Instr) → current p t r ≡ Some i → IsStep p r (t.parts r).at i) where
  sender_event : (b tag : ℕ) → b ≢ r → IsChained p t r b tag → IsChained p (event_done (events_of i) r (acts_of (row_at p t r i s)) t) r b tag
  sender_event b tag apart old =
      let acts = acts_of (row_at p t r i s) in
      let u = event_done (events_of i) r acts t in
      let goes = sender_goes p t r opens b tag apart step i s next in
      let same : u.parts b ≡ t.parts b = part_elsewhere (events_of i) r b acts t apart in
      let takes : takes_at r tag (current p u b) (u.parts b).stage ≡ takes_at r tag (current p t b) (t.parts b).stage = ap (λ (v : Part). takes_at r tag (instr_at p b v.at) v.stage) same in
      let waited : waits_at b tag (current p t r) (t.parts r).stage ≡ waits_at b tag (Some i) s = ap (λ o. waits_at b tag o (t.parts r).stage) next.read ∙ ap (waits_at b tag (Some i)) next.stage in
      let e1 = ap one_if takes in
      let e2 = ap one_if waited in
      let total : (filled_in (u.lanes (lane r b kind.Reach tag)) + length (u.lanes (lane b r kind.Back tag))) + one_if (takes_at r tag (current p u b) (u.parts b).stage)
      ≡ one_if (cond (nat_lt (s + 1) (events_of i)) (waits_at b tag (Some i) (s + 1)) false) = omega (arith, goes.count, old.count) in
      record {
        count = total ∙ ap one_if (sym (waits_now (nat_lt (s + 1) (events_of i)) refl));
        named = λ x h bits.
            let some = filled_there (u.lanes (lane r b kind.Reach tag)) x h bits in
            let waiting : cond (nat_lt (s + 1) (events_of i)) (waits_at b tag (Some i) (s + 1)) false ≡ true = some_true _ (omega arith) in
            ⊎_elim (λ (there : Contains (t.lanes (lane r b kind.Reach tag)) x). old.named x there bits) (λ (new : wire_of x ≡ far_counted r (t.parts r)). new) (goes.named x h bits)
            ∙ sym (counted_kept (nat_lt (s + 1) (events_of i)) refl waiting);
        taken = λ on.
            let one : one_if (takes_at r tag (current p u b) (u.parts b).stage) ≡ 1 = ap one_if on in
            let waiting : cond (nat_lt (s + 1) (events_of i)) (waits_at b tag (Some i) (s + 1)) false ≡ true = some_true _ (omega arith) in
            ap (λ (v : Part). wire_of v.taken) same ∙ old.taken (sym takes ∙ on) ∙ sym (counted_kept (nat_lt (s + 1) (events_of i)) refl waiting);
      }
    where
      waits_now : (c : Bool) → nat_lt (s + 1) (events_of i) ≡ c
          → (let u = event_done (events_of i) r (acts_of (row_at p t r i s)) t in
          waits_at b tag (current p u r) (u.parts r).stage ≡ cond c (waits_at b tag (Some i) (s + 1)) false)
      waits_now true more =
          let u = event_done (events_of i) r (acts_of (row_at p t r i s)) t in
          let here = goes_on p t r (events_of i) (acts_of (row_at p t r i s)) i s next more in
          ap (λ o. waits_at b tag o (u.parts r).stage) here.read ∙ ap (waits_at b tag (Some i)) here.stage
      waits_now false last =
          let u = event_done (events_of i) r (acts_of (row_at p t r i s)) t in
          ap (waits_at b tag (current p u r)) (fresh_stage p t r (events_of i) (acts_of (row_at p t r i s)) i s next last) ∙ waits_fresh b tag (current p u r)

      counted_kept : (c : Bool) → nat_lt (s + 1) (events_of i) ≡ c → cond c (waits_at b tag (Some i) (s + 1)) false ≡ true
          → far_counted r ((event_done (events_of i) r (acts_of (row_at p t r i s)) t).parts r) ≡ far_counted r (t.parts r)
      counted_kept true more waiting =
          let acts = acts_of (row_at p t r i s) in
          let three : s + 1 ≡ 3 = waits_stage b tag (Some i) (s + 1) waiting in
          let two : s ≡ 2 = omega arith in
          let none : makes i s ≡ false = ap (makes i) two ∙ none_made_later i 1 in
          ap (far_counted r) (own_on p t r (events_of i) acts i s next more)
          ∙ ap (λ m. let w = record (far_counted r (t.parts r)) { made = m - 1 } in w) (counts p t r i s ∙ ap (λ c. cond c ((t.parts r).made + 1) (t.parts r).made) none)
      counted_kept false last waiting = cc

  receiver_event : (a tag : ℕ) → a ≢ r → IsChained p t a r tag → IsChained p (event_done (events_of i) r (acts_of (row_at p t r i s)) t) a r tag
  receiver_event a tag apart old =
      let acts = acts_of (row_at p t r i s) in
      let u = event_done (events_of i) r acts t in
      let goes = receiver_goes p t r a tag apart old step i s next in
      let same : u.parts a ≡ t.parts a = part_elsewhere (events_of i) r a acts t apart in
      let waits : waits_at r tag (current p u a) (u.parts a).stage ≡ waits_at r tag (current p t a) (t.parts a).stage = ap (λ (v : Part). waits_at r tag (instr_at p a v.at) v.stage) same in
      let took : takes_at a tag (current p t r) (t.parts r).stage ≡ takes_at a tag (Some i) s = ap (λ o. takes_at a tag o (t.parts r).stage) next.read ∙ ap (takes_at a tag (Some i)) next.stage in
      let now = takes_now (nat_lt (s + 1) (events_of i)) refl in
      let e1 = ap one_if waits in
      let e2 = ap one_if took in
      let e3 = ap one_if now in
      record {
        count = omega (arith, goes.count, old.count);
        named = λ x h bits. old.named x (goes.named x h) bits ∙ ap (far_counted a) (sym same);
        taken = λ on. taken_now (nat_lt (s + 1) (events_of i)) refl (sym now ∙ on) goes.taken ∙ ap (far_counted a) (sym same);
      }
    where
      takes_now : (c : Bool) → nat_lt (s + 1) (events_of i) ≡ c
          → (let u = event_done (events_of i) r (acts_of (row_at p t r i s)) t in
          takes_at a tag (current p u r) (u.parts r).stage ≡ cond c (takes_at a tag (Some i) (s + 1)) false)
      takes_now true more =
          let u = event_done (events_of i) r (acts_of (row_at p t r i s)) t in
          let here = goes_on p t r (events_of i) (acts_of (row_at p t r i s)) i s next more in
          ap (λ o. takes_at a tag o (u.parts r).stage) here.read ∙ ap (takes_at a tag (Some i)) here.stage
      takes_now false last =
          let u = event_done (events_of i) r (acts_of (row_at p t r i s)) t in
          ap (takes_at a tag (current p u r)) (fresh_stage p t r (events_of i) (acts_of (row_at p t r i s)) i s next last) ∙ takes_fresh a tag (current p u r)

      taken_now : (c : Bool) → nat_lt (s + 1) (events_of i) ≡ c → cond c (takes_at a tag (Some i) (s + 1)) false ≡ true
          → (takes_at a tag (Some i) (s + 1) ≡ true → (let v = part_all r (acts_of (row_at p t r i s)) t (t.parts r) in wire_of v.taken ≡ far_counted a (t.parts a)))
          → (let u = event_done (events_of i) r (acts_of (row_at p t r i s)) t in wire_of (u.parts r).taken ≡ far_counted a (t.parts a))
      taken_now true more on taken = ap (λ (v : Part). wire_of v.taken) (own_on p t r (events_of i) (acts_of (row_at p t r i s)) i s next more) ∙ taken on
      taken_now false last on taken = absurd (let n : ⊥ = cc in n)

  other_event : (a b tag : ℕ) → a ≢ r → b ≢ r → IsChained p t a b tag → IsChained p (event_done (events_of i) r (acts_of (row_at p t r i s)) t) a b tag
  other_event a b tag first second old =
      let acts = acts_of (row_at p t r i s) in
      let u = event_done (events_of i) r acts t in
      let there : u.lanes (lane a b kind.Reach tag) ≡ t.lanes (lane a b kind.Reach tag) = lane_stays p t r i s next (lane a b kind.Reach tag) first second in
      let back : u.lanes (lane b a kind.Back tag) ≡ t.lanes (lane b a kind.Back tag) = lane_stays p t r i s next (lane b a kind.Back tag) second first in
      let x : u.parts a ≡ t.parts a = part_elsewhere (events_of i) r a acts t first in
      let y : u.parts b ≡ t.parts b = part_elsewhere (events_of i) r b acts t second in
      let waits : waits_at b tag (current p u a) (u.parts a).stage ≡ waits_at b tag (current p t a) (t.parts a).stage = ap (λ (v : Part). waits_at b tag (instr_at p a v.at) v.stage) x in
      let takes : takes_at a tag (current p u b) (u.parts b).stage ≡ takes_at a tag (current p t b) (t.parts b).stage = ap (λ (v : Part). takes_at a tag (instr_at p b v.at) v.stage) y in
      let e1 = ap one_if waits in
      let e2 = ap one_if takes in
      let e3 = ap filled_in there in
      let e4 = ap (λ (xs : List Parcel). length xs) back in
      record {
        count = omega (arith, old.count);
        named = λ z h bits. old.named z (subst (λ xs. Contains xs z) there h) bits ∙ ap (far_counted a) (sym x);
        taken = λ on. ap (λ (v : Part). wire_of v.taken) y ∙ old.taken (sym takes ∙ on) ∙ ap (far_counted a) (sym x);
      }

  -- every event of every instruction keeps the chain
  pub chain_event : (a b tag : ℕ) → a ≢ b → IsChained p t a b tag → IsChained p (event_done (events_of i) r (acts_of (row_at p t r i s)) t) a b tag
  chain_event a b tag apart old = by_ranks (cases_eq a r) (cases_eq b r)
    where
      by_ranks : (a ≡ r) ⊎ (a ≢ r) → (b ≡ r) ⊎ (b ≢ r) → IsChained p (event_done (events_of i) r (acts_of (row_at p t r i s)) t) a b tag
      by_ranks (inl e) (inl f) = absurd (apart (e ∙ sym f))
      by_ranks (inl e) (inr other) =
          subst (λ k. IsChained p (event_done (events_of i) r (acts_of (row_at p t r i s)) t) k b tag) (sym e) (sender_event b tag other (subst (λ k. IsChained p t k b tag) e old))
      by_ranks (inr other) (inl f) =
          subst (λ k. IsChained p (event_done (events_of i) r (acts_of (row_at p t r i s)) t) a k tag) (sym f) (receiver_event a tag other (subst (λ k. IsChained p t a k tag) f old))
      by_ranks (inr x) (inr y) = other_event a b tag x y old
