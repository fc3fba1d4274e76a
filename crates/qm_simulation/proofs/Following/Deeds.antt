-- Three shapes of events of a message: its rank goes on with it, gives it to a parcel, or takes it from one
use Rattle.std.proofs.Common.{◌≡◌, ◌≢◌, ℕ, ◌+◌, nat_eq, Bool, true, false, cond, ◌⊎◌, inl, inr, zero, suc, List, [], ◌∷◌, ◌++◌, drop, fold, Option, Some, None, is_some, Contains, refl, sym, ap, ap₂, subst, ◌∙◌, append-nil, arith, ⊎_elim}
use Rattle.std.proofs.lemmas.Bool.{cases_eq}
use Rattle.std.proofs.lemmas.Bool.{cases_eq}
use Rattle.std.proofs.lemmas.List.Elements.{Contains-push, Contains-push_cases, Contains-append_left}
use Rattle.std.proofs.lemmas.Option.{same_Some}
use Rattle.qm_denot.specs.declared.Wire.{Wire}
use Rattle.qm_denot.specs.declared.Letter.{Letter}
use Rattle.qm_denot.specs.Circuits.{Circuit, IsEqualUpTo}
use Rattle.qm_denot.specs.CircuitFacts.{IsNonzero}
use Rattle.qm_denot.specs.Tags.{Tagged, letters_with}
use Rattle.qm_denot.proofs.EqualUpTo.{equal_refl}
use Rattle.qm_denot.proofs.Partings.{AreNaming}
use Rattle.qm_instr.specs.declared.Instr.{Instr}
use Rattle.qm_instr.specs.declared.Instr.TheVariants as instr
use Rattle.qm_instr.specs.declared.Kind.TheVariants as kind
use Rattle.qm_instr.specs.declared.Lane.{Lane}
use Rattle.qm_instr.specs.Lanes.{lane}
use Rattle.qm_instr.specs.Counts.{events_of}
use Rattle.qm_instr.specs.Programs.{Programs, IsInRange}
use Rattle.qm_check.specs.Checks.{IsReady}
use Rattle.qm_denot.specs.declared.Parcel.{Parcel}
use Rattle.qm_proto.specs.Model.State.{Tables, with_lane, front, protocol_next}
use Rattle.qm_proto.specs.Model.Rows.{current, half_parcel, bit_parcel}
use Rattle.qm_proto.specs.Model.Ideal.{IdealTables, ideal_past_instr, ideal_after_act, ideal_row_of}
use Rattle.qm_proto.proofs.Changes.{by_lane, with_lane-here}
use Rattle.qm_safety.specs.Tables.Lines.{row_at, acts_of}
use Rattle.qm_simulation.specs.Following.Deciding.{events_before}
use Rattle.qm_simulation.specs.Following.Seen.{tables_seen}
use Rattle.qm_simulation.specs.Following.Debts.{Message, is_message, Debt, debt, far_counted, rank_debt, parcel_debt, Holder, AtRank, OnLane, Owes}
use Rattle.qm_simulation.specs.Following.Follows.{AgreeIn, Follows}
use Rattle.qm_confluence.specs.Counted.{NamesCounted}
use Rattle.qm_safety.proofs.Tables.NextEvents.{IsNext, event_done}
use Rattle.qm_simulation.proofs.Following.Rewritings.{Entry, IsIt, IsFree, IsFrame}
use Rattle.qm_confluence.proofs.Confluence.IdealWires.{CountsGrow, all_grow, moved_grows, contains_drop}
use Rattle.qm_simulation.proofs.Following.Invariant.{CanFollow, follow_next, owed_by, owed_by_none, owed_by_others}
use Rattle.qm_simulation.proofs.Following.ReachLinks.{front_there}
use Rattle.qm_simulation.proofs.Following.Stood.{IsStood}
use Rattle.qm_simulation.proofs.Following.Lending.{IsThere}
use Rattle.qm_simulation.proofs.Following.Safe.{custody}
use Rattle.qm_simulation.proofs.Following.Frames.{not_none, owes_bits, frame_event, LanesKept, rest_there}

-- what a rank owes of a message, where it owes something
abbrev pub debt_of : Message → Option (List Letter) → Option Debt
debt_of k None = None
debt_of k (Some ls) = Some (debt k ls)

abbrev pub letters_or : Option (List Letter) → List Letter
letters_or None = []
letters_or (Some ls) = ls

-- the ideal tables after an event of an instruction, and the letters of the ideal step
abbrev pub ideal_after : Programs → Tables → ℕ → Instr → ℕ → IdealTables
ideal_after p t r i s =
    cond (nat_eq s (events_before i)) (ideal_past_instr (fold (ideal_after_act r) (tables_seen p t) (ideal_row_of p (tables_seen p t) r i).acts) r) (tables_seen p t)

abbrev pub ideal_letters : Programs → Tables → ℕ → Instr → ℕ → List Letter
ideal_letters p t r i s = cond (nat_eq s (events_before i)) (ideal_row_of p (tables_seen p t) r i).letters []

-- the ideal machine never counts fewer wires
pub ideal_grows : (p : Programs) (t u : Tables) (r : ℕ) (i : Instr) (s : ℕ) → tables_seen p u ≡ ideal_after p t r i s → CountsGrow (tables_seen p t) (tables_seen p u)
ideal_grows p t u r i s e = subst (CountsGrow (tables_seen p t)) (sym e) (by_test (nat_eq s (events_before i)))
  where
    by_test : (b : Bool) → CountsGrow (tables_seen p t) (cond b (ideal_past_instr (fold (ideal_after_act r) (tables_seen p t) (ideal_row_of p (tables_seen p t) r i).acts) r) (tables_seen p t))
    by_test true k =
        let x = fold (ideal_after_act r) (tables_seen p t) (ideal_row_of p (tables_seen p t) r i).acts in
        let one = all_grow r (ideal_row_of p (tables_seen p t) r i).acts (tables_seen p t) k in
        let later = moved_grows r x k in omega arith
    by_test false k = omega arith

same_lane_parcel : (a b : Lane) (x y : Parcel) → OnLane a x ≡ OnLane b y → (a ≡ b) × (x ≡ y)
same_lane_parcel a b x y e = (cc, cc)

rank_not_lane : (j : ℕ) (a : Lane) (x : Parcel) → AtRank j ≢ OnLane a x
rank_not_lane j a x e = let n : ⊥ = cc in n

-- ---- what an event comes to
-- the holder that a rank is, where it owes something
abbrev pub own_entry : ℕ → Option Debt → Entry
own_entry r None = None
own_entry r (Some d) = Some (AtRank r, d)

-- the parcel to which an event gives its message
abbrev pub given_at : Tables → ℕ → Instr → ℕ → Option (Lane × Parcel)
given_at t r (instr.CopyTo q to tag) (suc (suc zero)) = Some (lane r to kind.Copy tag, record (half_parcel (far_counted r (t.parts r))) { bits = Some (protocol_next t r, false) })
given_at t r (instr.MoveTo q to tag) (suc (suc (suc (suc zero)))) =
    Some (lane r to kind.Move tag, record (half_parcel (far_counted r (t.parts r))) { bits = Some ((t.parts r).first, protocol_next t r) })
given_at t r (instr.ReachTo q to tag) (suc (suc zero)) = Some (lane r to kind.Reach tag, record (half_parcel (far_counted r (t.parts r))) { bits = Some (protocol_next t r, false) })
given_at t r (instr.UndoTo q to tag) (suc zero) = Some (lane r to kind.Undo tag, bit_parcel (protocol_next t r))
given_at t r (instr.ReachFrom q from tag) (suc (suc (suc (suc zero)))) = Some (lane r from kind.Back tag, bit_parcel (protocol_next t r))
given_at t r _ _ = None

-- the lane from whose front an event takes its message
abbrev pub taken_at : ℕ → Instr → ℕ → Option Lane
taken_at r (instr.CopyFrom q from tag) zero = Some (lane from r kind.Copy tag)
taken_at r (instr.MoveFrom q from tag) zero = Some (lane from r kind.Move tag)
taken_at r (instr.UndoFrom q from tag) zero = Some (lane from r kind.Undo tag)
taken_at r (instr.ReachFrom q from tag) zero = Some (lane from r kind.Reach tag)
taken_at r (instr.ReachTo q to tag) (suc (suc (suc zero))) = Some (lane to r kind.Back tag)
taken_at r _ _ = None

-- who held it before: the parcel at that front, or the rank if anyone
abbrev pub IsHeldFrom : Programs → Tables → ℕ → Message → Option Lane → Type 0
IsHeldFrom p t r k None = (h : Holder) (d : Debt) → Owes p t h d → d.message ≡ k → h ≡ AtRank r
IsHeldFrom p t r k (Some a) = (d : Debt) × Owes p t (OnLane a (front t a)) d × (d.message ≡ k)

-- who holds the message afterwards: that parcel, or the rank where it owes something
abbrev pub IsHeldBy : Programs → Tables → ℕ → Option (Lane × Parcel) → Entry → Type 0
IsHeldBy p u r None x = x ≡ own_entry r (rank_debt p u r)
IsHeldBy p u r (Some y) x = (d : Debt) × (x ≡ Some (OnLane y.0 y.1, d))

-- after an event of message k the run still follows, and all else but k's holder is as it was
pub record GoesOn (p : Programs) (t : Tables) (r : ℕ) (u : Tables) (k : Message) (o : Option (Lane × Parcel)) (l : Option Lane) (n : ℕ) (g c : Circuit) : Type 0 where
  pub can : CanFollow p u n g c
  pub entry : Entry
  pub frame : IsFrame p t u k entry
  pub held : IsHeldBy p u r o entry
  pub own : (d : Debt) → rank_debt p t r ≡ Some d → d.message ≡ k
  pub source : IsHeldFrom p t r k l

module _ (p : Programs) (ready : IsReady p) (ranges : IsInRange p) (t : Tables) (r : ℕ) (stood : IsStood p t) (i : Instr) (s : ℕ) (next : IsNext p t r i s)
    (n : ℕ) (g c : Circuit) (ds : Tagged Message) (before : Follows p t n g c ds) where
  abbrev u : Tables
  u = event_done (events_of i) r (acts_of (row_at p t r i s)) t

  -- what an event owes beside its frame
  pub record Brings (k : Message) (ls ms : List Letter) : Type 0 where
    pub free : (w : Wire) → AreNaming ls w → IsFree p t k w
    pub grow : CountsGrow (tables_seen p t) (tables_seen p (event_done (events_of i) r (acts_of (row_at p t r i s)) t))
    pub named : NamesCounted (tables_seen p (event_done (events_of i) r (acts_of (row_at p t r i s)) t)) ms
    pub agree : (let u = event_done (events_of i) r (acts_of (row_at p t r i s)) t in (o : ℕ) → (u.parts o).stage ≡ 1 → AgreeIn p u o (c ++ ms) (current p u o))
    pub nonzero : IsNonzero (c ++ ms)

  -- ---- the rank goes on with the message, or begins or ends it
  owed_before : (k : Message) (xs : Option (List Letter)) → rank_debt p t r ≡ debt_of k xs → ((h : Holder) (d : Debt) → h ≢ AtRank r → Owes p t h d → d.message ≢ k)
      → letters_with is_message k ds ≡ letters_or xs
  owed_before k None old nobody = owed_by_none p t n g c ds before k (λ h d o e. by_holder h d o e)
    where
      by_holder : (h : Holder) (d : Debt) → Owes p t h d → d.message ≢ k
      by_holder (OnLane a x) d o e = nobody (OnLane a x) d (λ z. rank_not_lane r a x (sym z)) o e
      by_holder (AtRank j) d o e = nobody (AtRank j) d (λ z. not_none (rank_debt p t r) d old (subst (λ m. rank_debt p t m ≡ Some d) (number z) o)) o e
        where
          number : AtRank j ≡ AtRank r → j ≡ r
          number z = cc
  owed_before k (Some ls) old nobody = owed_by p t n g c ds before k (AtRank r) ls old

  pub follow_own : (k : Message) (xs ys : Option (List Letter)) (ls ms : List Letter) (m : ℕ) → rank_debt p t r ≡ debt_of k xs
      → rank_debt p (event_done (events_of i) r (acts_of (row_at p t r i s)) t) r ≡ debt_of k ys
      → LanesKept p t (event_done (events_of i) r (acts_of (row_at p t r i s)) t)
      → ((h : Holder) (d : Debt) → h ≢ AtRank r → Owes p t h d → d.message ≢ k)
      → IsEqualUpTo m (c ++ (letters_or xs ++ ls)) (c ++ (ms ++ letters_or ys)) → Brings k ls ms
      → GoesOn p t r (event_done (events_of i) r (acts_of (row_at p t r i s)) t) k None None (n + m) (g ++ ls) (c ++ ms)
  follow_own k xs ys ls ms m old new lanes nobody law b =
      by_entry ys new law
    where
      own_on : (xs : Option (List Letter)) → rank_debt p t r ≡ debt_of k xs → (d : Debt) → rank_debt p t r ≡ Some d → d.message ≡ k
      own_on None old d o = absurd (not_none (rank_debt p t r) d old o)
      own_on (Some ls) old d o = ap (λ (x : Debt). x.message) (same_Some d (debt k ls) (sym o ∙ old))

      source_on : (xs : Option (List Letter)) → rank_debt p t r ≡ debt_of k xs → (h : Holder) (d : Debt) → Owes p t h d → d.message ≡ k → h ≡ AtRank r
      source_on (Some ls) old h d o e = before.owed.once h (AtRank r) d (debt k ls) o old e
      source_on None old (OnLane a x) d o e = absurd (nobody (OnLane a x) d (λ z. rank_not_lane r a x (sym z)) o e)
      source_on None old (AtRank j) d o e =
          ⊎_elim (λ (is : j ≡ r). ap AtRank is) (λ (other : j ≢ r). absurd (nobody (AtRank j) d (λ z. other (number z)) o e)) (cases_eq j r)
        where
          number : AtRank j ≡ AtRank r → j ≡ r
          number z = cc

      by_entry : (ys : Option (List Letter)) → rank_debt p (event_done (events_of i) r (acts_of (row_at p t r i s)) t) r ≡ debt_of k ys
          → IsEqualUpTo m (c ++ (letters_or xs ++ ls)) (c ++ (ms ++ letters_or ys))
          → GoesOn p t r (event_done (events_of i) r (acts_of (row_at p t r i s)) t) k None None (n + m) (g ++ ls) (c ++ ms)
      by_entry None new law =
          let u = event_done (events_of i) r (acts_of (row_at p t r i s)) t in
          let frame : IsFrame p t u k None = frame_event p ready ranges t r stood i s next k None tt
          (λ d o. absurd (not_none (rank_debt p u r) d new o)) (own_on xs old) (λ h d ne _ o. nobody h d ne o)
          (λ a x d o. inr (lanes.back a x d o)) (λ a x d o _. lanes.on a x d o) in
          record {
            can = follow_next p t n g c ds before k u None m ls ms stood.well.tidy (custody p ready ranges t stood)
                frame
                b.free (subst (λ zs. IsEqualUpTo m (c ++ (zs ++ ls)) (c ++ (ms ++ []))) (sym (owed_before k xs old nobody)) law) b.grow b.named b.agree b.nonzero;
            entry = None;
            frame = frame;
            held = sym (ap (own_entry r) new);
            own = own_on xs old;
            source = source_on xs old;
          }
      by_entry (Some es) new law =
          let u = event_done (events_of i) r (acts_of (row_at p t r i s)) t in
          let frame : IsFrame p t u k (Some (AtRank r, debt k es)) = frame_event p ready ranges t r stood i s next k (Some (AtRank r, debt k es)) (new, refl)
          (λ d o. (refl, same_Some d (debt k es) (sym o ∙ new))) (own_on xs old) (λ h d ne _ o. nobody h d ne o)
          (λ a x d o. inr (lanes.back a x d o)) (λ a x d o _. lanes.on a x d o) in
          record {
            can = follow_next p t n g c ds before k u (Some (AtRank r, debt k es)) m ls ms stood.well.tidy (custody p ready ranges t stood)
                frame
                b.free (subst (λ zs. IsEqualUpTo m (c ++ (zs ++ ls)) (c ++ (ms ++ es))) (sym (owed_before k xs old nobody)) law) b.grow b.named b.agree b.nonzero;
            entry = (Some (AtRank r, debt k es));
            frame = frame;
            held = sym (ap (own_entry r) new);
            own = own_on xs old;
            source = source_on xs old;
          }

  -- the letters that a rank in the middle owes are owed by nobody else
  pub follow_middle : (k : Message) (xs : List Letter) (ys : Option (List Letter)) (ls : List Letter) (m : ℕ) → rank_debt p t r ≡ Some (debt k xs)
      → rank_debt p (event_done (events_of i) r (acts_of (row_at p t r i s)) t) r ≡ debt_of k ys
      → LanesKept p t (event_done (events_of i) r (acts_of (row_at p t r i s)) t)
      → IsEqualUpTo m (c ++ (xs ++ ls)) (c ++ letters_or ys) → Brings k ls []
      → GoesOn p t r (event_done (events_of i) r (acts_of (row_at p t r i s)) t) k None None (n + m) (g ++ ls) (c ++ [])
  follow_middle k xs ys ls m old new lanes law b =
      follow_own k (Some xs) ys ls [] m old new lanes (λ h d ne o. owed_by_others p t n g c ds before k (AtRank r) xs old h d ne o) law b

  -- ---- the rank gives the message to a parcel, which stands last on its lane
  pub follow_give : (k : Message) (xs ys ls ms : List Letter) (m : ℕ) (a : Lane) (y : Parcel) (rest : List Parcel)
      → rank_debt p t r ≡ Some (debt k xs) → rank_debt p (event_done (events_of i) r (acts_of (row_at p t r i s)) t) r ≡ None
      → (event_done (events_of i) r (acts_of (row_at p t r i s)) t).lanes ≡ with_lane t.lanes a (rest ++ y ∷ [])
      → ((z : Parcel) → Contains rest z → Contains (t.lanes a) z) → ((z : Parcel) → Contains (t.lanes a) z → is_some z.bits ≡ true → Contains rest z)
      → parcel_debt p (event_done (events_of i) r (acts_of (row_at p t r i s)) t) a y ≡ Some (debt k ys)
      → IsEqualUpTo m (c ++ (xs ++ ls)) (c ++ (ms ++ ys)) → Brings k ls ms
      → GoesOn p t r (event_done (events_of i) r (acts_of (row_at p t r i s)) t) k (Some (a, y)) None (n + m) (g ++ ls) (c ++ ms)
  follow_give k xs ys ls ms m a y rest old new lanes back on posted law b =
      let u = event_done (events_of i) r (acts_of (row_at p t r i s)) t in
      let zs = rest ++ y ∷ [] in
      let frame : IsFrame p t u k (Some (OnLane a y, debt k ys)) = frame_event p ready ranges t r stood i s next k (Some (OnLane a y, debt k ys))
      ((subst (λ (f : Lane → List Parcel). Contains (f a) y) (sym lanes) (subst (λ ws. Contains ws y) (sym (with_lane-here t.lanes a zs)) (Contains-push rest y)), posted), refl)
      (λ d o. absurd (not_none (rank_debt p u r) d new o))
      (λ d o. ap (λ (x : Debt). x.message) (same_Some d (debt k xs) (sym o ∙ old)))
      (λ h d ne _ o. owed_by_others p t n g c ds before k (AtRank r) xs old h d ne o)
      (λ l x d o. given l x d o
      (by_lane (λ ws. Contains ws x → ((l ≡ a) × (x ≡ y)) ⊎ Contains (t.lanes l) x) t.lanes a zs l
      (λ e h. ⊎_elim (λ (z : Contains rest x). inr (subst (λ j. Contains (t.lanes j) x) (sym e) (back x z))) (λ (z : y ≡ x). inl (e, sym z)) (Contains-push_cases rest y x h))
      (λ _ h. inr h) (subst (λ (f : Lane → List Parcel). Contains (f l) x) lanes o.0)))
      (λ l x d o _.
      subst (λ (f : Lane → List Parcel). Contains (f l) x) (sym lanes)
      (by_lane (λ ws. Contains ws x) t.lanes a zs l
      (λ e. Contains-append_left rest (y ∷ []) x (on x (subst (λ j. Contains (t.lanes j) x) e o.0) (owes_bits p t l x d o.1))) (λ _. o.0))) in
      record {
        can = follow_next p t n g c ds before k u (Some (OnLane a y, debt k ys)) m ls ms stood.well.tidy (custody p ready ranges t stood)
            frame
            b.free (subst (λ ws. IsEqualUpTo m (c ++ (ws ++ ls)) (c ++ (ms ++ ys))) (sym (owed_by p t n g c ds before k (AtRank r) xs old)) law) b.grow b.named b.agree b.nonzero;
        entry = (Some (OnLane a y, debt k ys));
        frame = frame;
        held = (debt k ys, refl);
        own = λ d o. ap (λ (x : Debt). x.message) (same_Some d (debt k xs) (sym o ∙ old));
        source = λ h d o e. before.owed.once h (AtRank r) d (debt k xs) o old e;
      }
    where
      given : (l : Lane) (x : Parcel) (d : Debt) → Owes p (event_done (events_of i) r (acts_of (row_at p t r i s)) t) (OnLane l x) d
          → ((l ≡ a) × (x ≡ y)) ⊎ Contains (t.lanes l) x → IsIt (Some (OnLane a y, debt k ys)) (OnLane l x) d ⊎ Contains (t.lanes l) x
      given l x d o (inr h) = inr h
      given l x d o (inl h) =
          inl (ap₂ OnLane h.0 h.1, same_Some d (debt k ys) (sym o.1 ∙ ap₂ (parcel_debt p (event_done (events_of i) r (acts_of (row_at p t r i s)) t)) h.0 h.1 ∙ posted))

  -- ---- the rank takes the message from the front parcel of a lane
  pub follow_take : (k : Message) (ls : List Letter) (a : Lane) → is_some (front t a).bits ≡ true → parcel_debt p t a (front t a) ≡ Some (debt k ls)
      → rank_debt p t r ≡ None → rank_debt p (event_done (events_of i) r (acts_of (row_at p t r i s)) t) r ≡ Some (debt k ls)
      → (event_done (events_of i) r (acts_of (row_at p t r i s)) t).lanes ≡ with_lane t.lanes a (drop 1 (t.lanes a))
      → (Contains (drop 1 (t.lanes a)) (front t a) → ⊥) → Brings k [] []
      → GoesOn p t r (event_done (events_of i) r (acts_of (row_at p t r i s)) t) k None (Some a) (n + 0) (g ++ []) (c ++ [])
  follow_take k ls a bits owed fresh new lanes once b =
      let u = event_done (events_of i) r (acts_of (row_at p t r i s)) t in
      let x = front t a in
      let rest = drop 1 (t.lanes a) in
      let old : Owes p t (OnLane a x) (debt k ls) = (front_there (t.lanes a) bits, owed) in
      let others = owed_by_others p t n g c ds before k (OnLane a x) ls old in
      let frame : IsFrame p t u k (Some (AtRank r, debt k ls)) = frame_event p ready ranges t r stood i s next k (Some (AtRank r, debt k ls)) (new, refl)
      (λ d o. (refl, same_Some d (debt k ls) (sym o ∙ new)))
      (λ d o. absurd (not_none (rank_debt p t r) d fresh o))
      (λ h d _ there o. others h d (gone h there) o)
      (λ l y d o. inr (by_lane (λ ws. Contains ws y → Contains (t.lanes l) y) t.lanes a rest l
      (λ e h. subst (λ j. Contains (t.lanes j) y) (sym e) (contains_drop (t.lanes a) y h)) (λ _ h. h) (subst (λ (f : Lane → List Parcel). Contains (f l) y) lanes o.0)))
      (λ l y d o ne. subst (λ (f : Lane → List Parcel). Contains (f l) y) (sym lanes)
      (by_lane (λ ws. Contains ws y) t.lanes a rest l
      (λ e. rest_there (t.lanes a) y (λ is. ne (ap (λ (z : Debt). z.message) (same_Some d (debt k ls) (sym o.1 ∙ ap₂ (parcel_debt p t) e (sym is) ∙ owed)))) (subst (λ j. Contains (t.lanes j) y) e o.0))
      (λ _. o.0))) in
      record {
        can = follow_next p t n g c ds before k u (Some (AtRank r, debt k ls)) 0 [] [] stood.well.tidy (custody p ready ranges t stood)
            frame
            b.free
            (subst (λ ws. IsEqualUpTo 0 (c ++ (ws ++ [])) (c ++ ([] ++ ls))) (sym (owed_by p t n g c ds before k (OnLane a x) ls old))
            (subst (λ m. IsEqualUpTo 0 (c ++ m) (c ++ ls)) (sym (append-nil ls)) (equal_refl (c ++ ls))))
            b.grow b.named b.agree b.nonzero;
        entry = (Some (AtRank r, debt k ls));
        frame = frame;
        held = sym (ap (own_entry r) new);
        own = λ d o. absurd (not_none (rank_debt p t r) d fresh o);
        source = (debt k ls, old, refl);
      }
    where
      gone : (h : Holder) → IsThere (event_done (events_of i) r (acts_of (row_at p t r i s)) t) h → h ≢ OnLane a (front t a)
      gone (AtRank j) there e = rank_not_lane j a (front t a) e
      gone (OnLane l y) there e =
          let same = same_lane_parcel l a y (front t a) e in
          let h : Contains (with_lane t.lanes a (drop 1 (t.lanes a)) l) y = subst (λ (f : Lane → List Parcel). Contains (f l) y) lanes there.0 in
          once (subst (λ z. Contains (drop 1 (t.lanes a)) z) same.1
          (subst (λ ws. Contains ws y) (ap (with_lane t.lanes a (drop 1 (t.lanes a))) same.0 ∙ with_lane-here t.lanes a (drop 1 (t.lanes a))) h))
