-- The letters begun and the corrections due are those of the messages in progress, at all times
use Rattle.std.proofs.Common.{◌≡◌, ◌≢◌, ℕ, ◌⊎◌, inl, inr, List, [], ◌++◌, if◌then◌else◌, Option, Some, None, refl, sym, ap, ap₂, subst, ◌∙◌, ⊎_elim}
use Rattle.qm_denot.specs.declared.Wire.{Wire}
use Rattle.qm_denot.specs.declared.Letter.{Letter}
use Rattle.qm_denot.specs.Circuits.{Circuit}
use Rattle.qm_denot.specs.Tags.{Tagged, letters_with}
use Rattle.qm_denot.proofs.Keys.{letters_with-append}
use Rattle.qm_denot.proofs.Partings.{AreNaming, IsNamedBy, naming_with}
use Rattle.qm_denot.specs.declared.Parcel.{Parcel}
use Rattle.qm_instr.specs.declared.Instr.{Instr}
use Rattle.qm_instr.specs.declared.Lane.{Lane}
use Rattle.qm_instr.specs.Counts.{events_of}
use Rattle.qm_instr.specs.Programs.{Programs, IsInRange}
use Rattle.qm_check.specs.Checks.{IsReady}
use Rattle.qm_proto.specs.Model.State.{Tables, front}
use Rattle.qm_safety.specs.Tables.Lines.{row_at, acts_of}
use Rattle.qm_simulation.specs.Following.Debts.{Message, is_message, Debt, rank_debt, Holder, AtRank, OnLane, Owes}
use Rattle.qm_simulation.specs.Following.Follows.{HasHolder}
use Rattle.qm_simulation.specs.Following.Simulation.{settles, is_early, corrections}
use Rattle.qm_safety.proofs.Tables.NextEvents.{IsNext}
use Rattle.qm_simulation.proofs.Following.MessageTests.{message_itself, same_or_not}
use Rattle.qm_simulation.proofs.Following.Rewritings.{Entry, IsEntry, IsIt}
use Rattle.qm_simulation.proofs.Following.Places.{after}
use Rattle.qm_simulation.proofs.Following.Stood.{IsStood}
use Rattle.qm_simulation.proofs.Following.Lending.{lends_none}
use Rattle.qm_simulation.proofs.Following.Frames.{not_none, debt_begun, owes_bits}
use Rattle.qm_simulation.proofs.Following.Raws.{Raw, no_raw, rank_raw, holder_raw, rank_raw_same, parcel_raw_same, due_letters}
use Rattle.qm_simulation.proofs.Following.Deeds.{own_entry, IsHeldFrom, IsHeldBy, GoesOn}
use Rattle.qm_simulation.proofs.Following.RawChanges.{holder_from, holder_to, RawChange}
use Rattle.qm_simulation.proofs.Following.Engaged.{IsEngaged}
use Rattle.qm_simulation.proofs.Following.RawWires.{raw_letters, nothing_begun, raw_engaged}
use Rattle.qm_simulation.proofs.Following.BegunAfter.{begun_after, pending_after, begun_own, begun_other, pending_own, pending_other}

-- of each message that somebody holds, these are begun and due, and of no other
pub record AreRaw (p : Programs) (t : Tables) (bs qs : Tagged Message) : Type 0 where
  pub begun : (h : Holder) (d : Debt) → Owes p t h d → letters_with is_message d.message bs ≡ (holder_raw p t h).begun
  pub pending : (h : Holder) (d : Debt) → Owes p t h d → letters_with is_message d.message qs ≡ (holder_raw p t h).pending
  pub known : (k : Message) → ((letters_with is_message k bs ≡ []) × (letters_with is_message k qs ≡ [])) ⊎ HasHolder p t k

-- the letters of a message are so
abbrev pub AreOf : Message → Raw → Tagged Message → Tagged Message → Type 0
AreOf k x bs qs = (letters_with is_message k bs ≡ x.begun) × (letters_with is_message k qs ≡ x.pending)

-- ---- their wires
pub named_engaged : (p : Programs) (ready : IsReady p) (ranges : IsInRange p) (t : Tables) (stood : IsStood p t) (bs qs : Tagged Message) → AreRaw p t bs qs
    → (w : Wire) (k : Message) → IsNamedBy (bs ++ qs) w k → IsEngaged p t w k
named_engaged p ready ranges t stood bs qs raw w k n = by_known (raw.known k) (subst (λ ls. AreNaming ls w) (letters_with-append is_message k bs qs) (naming_with is_message message_itself (bs ++ qs) w k n))
  where
    by_known : ((letters_with is_message k bs ≡ []) × (letters_with is_message k qs ≡ [])) ⊎ HasHolder p t k
        → AreNaming (letters_with is_message k bs ++ letters_with is_message k qs) w → IsEngaged p t w k
    by_known (inl e) m = absurd (subst (λ ls. AreNaming ls w) (ap₂ (λ a b. a ++ b) e.0 e.1) m)
    by_known (inr x) m =
        let letters : letters_with is_message k bs ++ letters_with is_message k qs ≡ raw_letters (holder_raw p t x.holder) =
        subst (λ j. letters_with is_message j bs ++ letters_with is_message j qs ≡ raw_letters (holder_raw p t x.holder)) x.message
        (ap₂ (λ a b. a ++ b) (raw.begun x.holder x.debt x.owes) (raw.pending x.holder x.debt x.owes)) in
        subst (IsEngaged p t w) x.message (raw_engaged p ready ranges t stood x.holder x.debt x.owes w (subst (λ ls. AreNaming ls w) letters m))

-- ---- an event
module _ (p : Programs) (ready : IsReady p) (ranges : IsInRange p) (t : Tables) (r : ℕ) (stood : IsStood p t) (i : Instr) (s : ℕ) (next : IsNext p t r i s)
    (k : Message) (o : Option (Lane × Parcel)) (l : Option Lane) (n : ℕ) (g c : Circuit) (goes : GoesOn p t r (after p t r i s) k o l n g c)
    (bs qs : Tagged Message) (old : AreRaw p t bs qs) where
  -- the letters of its message, before it
  pub raw_before : AreOf k (holder_raw p t (holder_from t r l)) bs qs
  raw_before = by_source l goes.source
    where
      of_holder : (h : Holder) (d : Debt) → Owes p t h d → d.message ≡ k → AreOf k (holder_raw p t h) bs qs
      of_holder h d owes e = subst (λ m. AreOf m (holder_raw p t h) bs qs) e (old.begun h d owes, old.pending h d owes)

      by_known : ((h : Holder) (d : Debt) → Owes p t h d → d.message ≡ k → h ≡ AtRank r) → rank_debt p t r ≡ None
          → ((letters_with is_message k bs ≡ []) × (letters_with is_message k qs ≡ [])) ⊎ HasHolder p t k → AreOf k no_raw bs qs
      by_known source none (inl e) = e
      by_known source none (inr x) =
          let is : x.holder ≡ AtRank r = source x.holder x.debt x.owes x.message in
          absurd (not_none (rank_debt p t r) x.debt none (subst (λ h. Owes p t h x.debt) is x.owes))

      by_debt : ((h : Holder) (d : Debt) → Owes p t h d → d.message ≡ k → h ≡ AtRank r) → (e : Option Debt) → rank_debt p t r ≡ e → AreOf k (rank_raw p t r) bs qs
      by_debt source None none = subst (λ x. AreOf k x bs qs) (sym (nothing_begun p t r none)) (by_known source none (old.known k))
      by_debt source (Some d) some = of_holder (AtRank r) d some (goes.own d some)

      by_source : (l : Option Lane) → IsHeldFrom p t r k l → AreOf k (holder_raw p t (holder_from t r l)) bs qs
      by_source (Some a) (d, owes, e) = of_holder (OnLane a (front t a)) d owes e
      by_source None source = by_debt source (rank_debt p t r) refl

  -- ---- holders after it
  -- the message's holder is the one to which the event gives it
  entry_to : (x : Entry) → IsHeldBy p (after p t r i s) r o x → (h : Holder) (d : Debt) → IsIt x h d → h ≡ holder_to r o
  entry_to x held h d it = by_given o held
    where
      by_own : (e : Option Debt) → IsIt (own_entry r e) h d → h ≡ AtRank r
      by_own None it = absurd it
      by_own (Some c) it = it.0

      by_given : (o : Option (Lane × Parcel)) → IsHeldBy p (after p t r i s) r o x → h ≡ holder_to r o
      by_given None held = by_own (rank_debt p (after p t r i s) r) (subst (λ y. IsIt y h d) held it)
      by_given (Some y) (c, held) = (subst (λ z. IsIt z h d) held it).0

  entry_message : (x : Entry) → IsEntry p (after p t r i s) k x → (h : Holder) (d : Debt) → IsIt x h d → d.message ≡ k
  entry_message None entry h d it = absurd it
  entry_message (Some x) entry h d it = ap (λ (c : Debt). c.message) it.1 ∙ entry.1

  -- the holders of other messages have begun, and have due, what they had
  raw_kept : (h : Holder) (d : Debt) → d.message ≢ k → Owes p (after p t r i s) h d → Owes p t h d → holder_raw p (after p t r i s) h ≡ holder_raw p t h
  raw_kept (AtRank j) d ne is was =
      let other : j ≢ r = λ e. ne (goes.own d (subst (λ m. rank_debt p t m ≡ Some d) e was)) in
      rank_raw_same p t r (events_of i) (acts_of (row_at p t r i s)) j other
      (λ low lent. lends_none p ready ranges t r stood i s next (AtRank j) low (debt_begun p (after p t r i s) j d is) lent)
  raw_kept (OnLane a x) d ne is was =
      let bits = owes_bits p t a x d was.1 in
      parcel_raw_same p t r (events_of i) (acts_of (row_at p t r i s)) a x (λ lent. lends_none p ready ranges t r stood i s next (OnLane a x) (was.0, bits) (is.0, bits) lent)

  module _ (h : Circuit) (ls ms : List Letter)
      (change : RawChange p t r i s h ls ms (holder_raw p t (holder_from t r l)) (holder_raw p (after p t r i s) (holder_to r o))) where
    abbrev bs_next : Tagged Message
    bs_next = begun_after k (Some i) s ls bs

    abbrev qs_next : Tagged Message
    qs_next = pending_after k (Some i) s (corrections p t r (Some i)) (row_at p t r i s) qs

    abbrev Known : Message → Type 0
    Known j = ((letters_with is_message j bs_next ≡ []) × (letters_with is_message j qs_next ≡ [])) ⊎ HasHolder p (after p t r i s) j

    -- the letters of its message, after it
    pub raw_after : AreOf k (holder_raw p (after p t r i s) (holder_to r o)) (begun_after k (Some i) s ls bs) (pending_after k (Some i) s (corrections p t r (Some i)) (row_at p t r i s) qs)
    raw_after = (
      begun_own k (Some i) s ls bs ∙ ap (λ (zs : List Letter). if settles (Some i) s then [] else (if is_early (Some i) s then zs ++ ls else zs)) raw_before.0 ∙ sym change.begun_so,
      pending_own k (Some i) s (corrections p t r (Some i)) (row_at p t r i s) qs
          ∙ ap (λ (zs : List Letter). if settles (Some i) s then zs ++ corrections p t r (Some i) else due_letters (row_at p t r i s) zs) raw_before.1 ∙ sym change.pending_so,
    )

    -- those of other messages stay
    raw_other : (j : Message) → j ≢ k → (x : Raw) → AreOf j x bs qs
        → AreOf j x bs_next qs_next
    raw_other j ne x h = (
      begun_other j k (Some i) s ls bs ne ∙ h.0,
      pending_other j k (Some i) s (corrections p t r (Some i)) (row_at p t r i s) qs ne ∙ h.1,
    )

    pub raw_next : AreRaw p (after p t r i s) (begun_after k (Some i) s ls bs) (pending_after k (Some i) s (corrections p t r (Some i)) (row_at p t r i s) qs)
    raw_next = record {
      begun = λ h d owes. (each h d owes).0;
      pending = λ h d owes. (each h d owes).1;
      known = λ j. ⊎_elim (λ (e : j ≡ k). subst Known (sym e) (by_given o goes.held raw_after)) (λ (ne : j ≢ k). known_other j ne (old.known j)) (same_or_not j k);
    }
      where
        each : (h : Holder) (d : Debt) → Owes p (after p t r i s) h d
            → AreOf d.message (holder_raw p (after p t r i s) h) bs_next qs_next
        each h d owes = ⊎_elim
            (λ (it : IsIt goes.entry h d).
            subst (λ m. AreOf m (holder_raw p (after p t r i s) h) bs_next qs_next)
            (sym (entry_message goes.entry goes.frame.entry h d it))
            (subst (λ j. AreOf k (holder_raw p (after p t r i s) j) bs_next qs_next)
            (sym (entry_to goes.entry goes.held h d it)) raw_after))
            (λ (was : (d.message ≢ k) × Owes p t h d).
            subst (λ x. AreOf d.message x bs_next qs_next)
            (sym (raw_kept h d was.0 owes was.1)) (raw_other d.message was.0 (holder_raw p t h) (old.begun h d was.1, old.pending h d was.1)))
            (goes.frame.back h d owes)

        known_entry : (x : Entry) → goes.entry ≡ x → (y : Holder) (d : Debt) → x ≡ Some (y, d) → HasHolder p (after p t r i s) k
        known_entry x is y d e =
            let entry : IsEntry p (after p t r i s) k (Some (y, d)) = subst (IsEntry p (after p t r i s) k) (is ∙ e) goes.frame.entry in
            record { holder = y; debt = d; owes = entry.0; message = entry.1 }

        by_debt : (e : Option Debt) → rank_debt p (after p t r i s) r ≡ e → goes.entry ≡ own_entry r e
            → AreOf k (rank_raw p (after p t r i s) r) bs_next qs_next → Known k
        by_debt None none held so =
            inl (subst (λ x. AreOf k x bs_next qs_next) (nothing_begun p (after p t r i s) r none) so)
        by_debt (Some d) some held so = inr (known_entry (own_entry r (Some d)) held (AtRank r) d refl)

        by_given : (o : Option (Lane × Parcel)) → IsHeldBy p (after p t r i s) r o goes.entry
            → AreOf k (holder_raw p (after p t r i s) (holder_to r o)) bs_next qs_next → Known k
        by_given None held so = by_debt (rank_debt p (after p t r i s) r) refl held so
        by_given (Some y) (d, held) so = inr (known_entry (Some (OnLane y.0 y.1, d)) held (OnLane y.0 y.1) d refl)

        known_other : (j : Message) → j ≢ k → ((letters_with is_message j bs ≡ []) × (letters_with is_message j qs ≡ [])) ⊎ HasHolder p t j → Known j
        known_other j ne (inl e) = inl (raw_other j ne no_raw e)
        known_other j ne (inr x) =
            let differs : x.debt.message ≢ k = λ z. ne (sym x.message ∙ z) in
            inr (record { holder = x.holder; debt = x.debt; owes = goes.frame.on x.holder x.debt x.owes differs; message = x.message })
