-- An event of one message: what it makes of the debts, and of the equation between both circuits
use Rattle.std.proofs.Common.{◌≡◌, ◌≢◌, ℕ, ◌+◌, cond, ◌⊎◌, inl, inr, List, [], ◌∷◌, ◌++◌, Option, Some, None, refl, sym, ap, ap₂, subst, ◌∙◌, append-nil, ⊎_elim}
use Rattle.qm_denot.specs.declared.Wire.{Wire}
use Rattle.qm_denot.specs.declared.Letter.{Letter}
use Rattle.qm_denot.specs.Circuits.{Circuit, IsEqualUpTo}
use Rattle.qm_denot.specs.Tags.{Tagged, letters_of, letters_with, tagged, without_key}
use Rattle.qm_denot.proofs.Keys.{letters_of-tagged, letters_with-append, letters_with-without_key, equal_rewritten}
use Rattle.qm_denot.proofs.Partings.{AreNaming, IsNamedBy, named-append, named-tagged, OneKeyEach, parting, naming_with}
use Rattle.qm_instr.specs.Programs.{Programs}
use Rattle.qm_proto.specs.Model.State.{Tables}
use Rattle.qm_proto.specs.Model.Tidy.{IsTidy}
use Rattle.qm_simulation.specs.Following.Debts.{Message, is_message, Debt, Holder, Owes, custody_at, IsInCustody}
use Rattle.qm_simulation.specs.Following.Follows.{HasHolder, AreOwed}
use Rattle.qm_simulation.proofs.Following.MessageTests.{message_tells, message_itself, same_or_not, different_message}

-- ---- the letters of a message after those of k were replaced
pub with_tagged : (k : Message) (ls : List Letter) → letters_with is_message k (tagged k ls) ≡ ls
with_tagged k [] = refl
with_tagged k (l ∷ ls) = let i = message_itself k in rw i (ap (λ ms. l ∷ ms) (with_tagged k ls))

pub with_tagged-other : (j k : Message) (ls : List Letter) → j ≢ k → letters_with is_message j (tagged k ls) ≡ []
with_tagged-other j k [] ne = refl
with_tagged-other j k (l ∷ ls) ne = let i = different_message j k ne in rw i (with_tagged-other j k ls ne)

abbrev pub replaced : Message → List Letter → Tagged Message → Tagged Message
replaced k es ds = tagged k es ++ without_key is_message k ds

pub with_replaced : (k : Message) (es : List Letter) (ds : Tagged Message) → letters_with is_message k (replaced k es ds) ≡ es
with_replaced k es ds =
    letters_with-append is_message k (tagged k es) (without_key is_message k ds)
    ∙ ap₂ (λ a b. a ++ b) (with_tagged k es)
    (letters_with-without_key is_message message_tells message_itself k k ds ∙ ap (λ b. cond b [] (letters_with is_message k ds)) (message_itself k))
    ∙ append-nil es

pub with_replaced-other : (j k : Message) (es : List Letter) (ds : Tagged Message) → j ≢ k
    → letters_with is_message j (replaced k es ds) ≡ letters_with is_message j ds
with_replaced-other j k es ds ne =
    letters_with-append is_message j (tagged k es) (without_key is_message k ds)
    ∙ ap₂ (λ a b. a ++ b) (with_tagged-other j k es ne)
    (letters_with-without_key is_message message_tells message_itself j k ds ∙ ap (λ b. cond b [] (letters_with is_message j ds)) (different_message j k ne))

-- ---- what an event of message k makes of the holders
-- a holder that owes something, or none
abbrev pub Entry : Type 0
Entry = Option (Holder × Debt)

abbrev pub letters_in : Entry → List Letter
letters_in None = []
letters_in (Some x) = x.1.letters

abbrev pub IsEntry : Programs → Tables → Message → Entry → Type 0
IsEntry p u k None = Unit {0}
IsEntry p u k (Some x) = Owes p u x.0 x.1 × (x.1.message ≡ k)

abbrev pub IsIt : Entry → Holder → Debt → Type 0
IsIt None h d = ⊥
IsIt (Some x) h d = (h ≡ x.0) × (d ≡ x.1)

-- of the message k there is this entry afterwards, and the holders of all other messages stay as they were
pub record IsFrame (p : Programs) (t u : Tables) (k : Message) (new : Entry) : Type 0 where
  pub entry : IsEntry p u k new
  pub back : (h : Holder) (d : Debt) → Owes p u h d → IsIt new h d ⊎ ((d.message ≢ k) × Owes p t h d)
  pub on : (h : Holder) (d : Debt) → Owes p t h d → d.message ≢ k → Owes p u h d

module _ (p : Programs) (t u : Tables) (k : Message) (new : Entry) (frame : IsFrame p t u k new) (ds : Tagged Message) (owed : AreOwed p t ds) where
  each_new : (x : Entry) → IsEntry p u k x → (h : Holder) (d : Debt) → IsIt x h d
      → letters_with is_message d.message (replaced k (letters_in x) ds) ≡ d.letters
  each_new None entry h d it = absurd it
  each_new (Some x) entry h d it =
      subst (λ (c : Debt). letters_with is_message c.message (replaced k x.1.letters ds) ≡ c.letters) (sym it.1)
      (subst (λ m. letters_with is_message m (replaced k x.1.letters ds) ≡ x.1.letters) (sym entry.1) (with_replaced k x.1.letters ds))

  known_new : (x : Entry) → IsEntry p u k x → (letters_with is_message k (replaced k (letters_in x) ds) ≡ []) ⊎ HasHolder p u k
  known_new None entry = inl (with_replaced k [] ds)
  known_new (Some x) entry = inr (record { holder = x.0; debt = x.1; owes = entry.0; message = entry.1 })

  known_other : (j : Message) → j ≢ k → (letters_with is_message j ds ≡ []) ⊎ HasHolder p t j
      → (letters_with is_message j (replaced k (letters_in new) ds) ≡ []) ⊎ HasHolder p u j
  known_other j ne (inl e) = inl (with_replaced-other j k (letters_in new) ds ne ∙ e)
  known_other j ne (inr x) =
      let differs : x.debt.message ≢ k = λ s. ne (sym x.message ∙ s) in
      inr (record { holder = x.holder; debt = x.debt; owes = frame.on x.holder x.debt x.owes differs; message = x.message })

  same_entry : (x : Entry) (h j : Holder) (d c : Debt) → IsIt x h d → IsIt x j c → h ≡ j
  same_entry None h j d c a b = absurd a
  same_entry (Some x) h j d c a b = a.0 ∙ sym b.0

  message_new : (x : Entry) → IsEntry p u k x → (h : Holder) (d : Debt) → IsIt x h d → d.message ≡ k
  message_new None entry h d it = absurd it
  message_new (Some x) entry h d it = ap (λ (c : Debt). c.message) it.1 ∙ entry.1

  once_next : (h j : Holder) (d c : Debt) → d.message ≡ c.message
      → IsIt new h d ⊎ ((d.message ≢ k) × Owes p t h d) → IsIt new j c ⊎ ((c.message ≢ k) × Owes p t j c) → h ≡ j
  once_next h j d c e (inl a) (inl b) = same_entry new h j d c a b
  once_next h j d c e (inl a) (inr b) = absurd (b.0 (sym e ∙ message_new new frame.entry h d a))
  once_next h j d c e (inr a) (inl b) = absurd (a.0 (e ∙ message_new new frame.entry j c b))
  once_next h j d c e (inr a) (inr b) = owed.once h j d c a.1 b.1 e

  each_next : (h : Holder) (d : Debt) → IsIt new h d ⊎ ((d.message ≢ k) × Owes p t h d)
      → letters_with is_message d.message (replaced k (letters_in new) ds) ≡ d.letters
  each_next h d (inl it) = each_new new frame.entry h d it
  each_next h d (inr old) = with_replaced-other d.message k (letters_in new) ds old.0 ∙ owed.each h d old.1

  -- the debts of k are replaced by those of the entry
  pub owed_next : AreOwed p u (replaced k (letters_in new) ds)
  owed_next = record {
    each = λ h d o. each_next h d (frame.back h d o);
    known = λ j. ⊎_elim
        (λ (e : j ≡ k). subst (λ m. (letters_with is_message m (replaced k (letters_in new) ds) ≡ []) ⊎ HasHolder p u m) (sym e) (known_new new frame.entry))
        (λ (ne : j ≢ k). known_other j ne (owed.known j)) (same_or_not j k);
    once = λ h j d c a b e. once_next h j d c e (frame.back h d a) (frame.back j c b);
  }

-- ---- what it makes of the equation
-- every wire that is named in a debt is in the custody of the message that owes it
abbrev pub AllInCustody : Programs → Tables → Type 0
AllInCustody p t = (h : Holder) (d : Debt) → Owes p t h d → (w : Wire) → AreNaming d.letters w → IsInCustody p t w d.message

-- an event of message k may touch the wire: it is in no other message's custody
abbrev pub IsFree : Programs → Tables → Message → Wire → Type 0
IsFree p t k w = (j : Message) → IsInCustody p t w j → j ≡ k

module _ (p : Programs) (t : Tables) (tidy : IsTidy t) (custody : AllInCustody p t) where
  -- a wire has one custodian
  pub one_custody : (w : Wire) (j k : Message) → IsInCustody p t w j → IsInCustody p t w k → j ≡ k
  one_custody w j k (o, at, a) (q, there, b) =
      let same : o ≡ q = tidy.one_place w o q at there in
      let c : custody_at p t w q ≡ Some j = subst (λ x. custody_at p t w x ≡ Some j) same a in
      cc

  module _ (ds : Tagged Message) (owed : AreOwed p t ds) where
    pub named_in_custody : (w : Wire) (k : Message) → IsNamedBy ds w k → IsInCustody p t w k
    named_in_custody w k n = by_known (owed.known k) (naming_with is_message message_itself ds w k n)
      where
        by_known : (letters_with is_message k ds ≡ []) ⊎ HasHolder p t k → AreNaming (letters_with is_message k ds) w → IsInCustody p t w k
        by_known (inl e) m = absurd (subst (λ ls. AreNaming ls w) e m)
        by_known (inr x) m =
            let letters : letters_with is_message k ds ≡ x.debt.letters =
            subst (λ j. letters_with is_message j ds ≡ x.debt.letters) x.message (owed.each x.holder x.debt x.owes) in
            subst (IsInCustody p t w) x.message (custody x.holder x.debt x.owes w (subst (λ ls. AreNaming ls w) letters m))

    one_key : (k : Message) (ls : List Letter) → ((w : Wire) → AreNaming ls w → IsFree p t k w) → OneKeyEach (ds ++ tagged k ls)
    one_key k ls free w i j a b = both (named-append ds (tagged k ls) w i a) (named-append ds (tagged k ls) w j b)
      where
        both : IsNamedBy ds w i ⊎ IsNamedBy (tagged k ls) w i → IsNamedBy ds w j ⊎ IsNamedBy (tagged k ls) w j → i ≡ j
        both (inl x) (inl y) = one_custody w i j (named_in_custody w i x) (named_in_custody w j y)
        both (inl x) (inr y) = let e = named-tagged k ls w j y in free w e.1 i (named_in_custody w i x) ∙ e.0
        both (inr x) (inl y) = let e = named-tagged k ls w i x in sym (free w e.1 j (named_in_custody w j y) ∙ e.0)
        both (inr x) (inr y) = sym (named-tagged k ls w i x).0 ∙ (named-tagged k ls w j y).0

    -- the letters ls of an event of message k are added: where a law makes of the message's debts and ls the ideal letters ms and the debts
    -- es, it does so for the whole circuit
    pub equal_next : (n m : ℕ) (g i : Circuit) (k : Message) (ls ms es : List Letter)
        → IsEqualUpTo n g (i ++ letters_of ds) → ((w : Wire) → AreNaming ls w → IsFree p t k w)
        → IsEqualUpTo m (i ++ (letters_with is_message k ds ++ ls)) (i ++ (ms ++ es))
        → IsEqualUpTo (n + m) (g ++ ls) ((i ++ ms) ++ letters_of (replaced k es ds))
    equal_next n m g i k ls ms es equal free law =
        let parts = parting (ds ++ tagged k ls) (one_key k ls free) in
        let same = letters_of-tagged k es in
        equal_rewritten is_message message_tells message_itself parts.owner k ds (tagged k es) ls ms parts.parted n m g i equal
        (subst (λ xs. IsEqualUpTo m (i ++ (letters_with is_message k ds ++ ls)) (i ++ (ms ++ xs))) (sym same) law)
