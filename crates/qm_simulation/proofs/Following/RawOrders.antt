-- The equation between both circuits with what messages have begun and have due, in the order of the schedule
use Rattle.std.proofs.Common.{◌≡◌, ◌≢◌, ℕ, ◌+◌, Bool, true, false, cond, Option, [], ◌∷◌, ◌++◌, refl, sym, ap, ap₂, subst, ◌∙◌, add-zero, arith, ⊎_elim}
use Rattle.qm_denot.specs.declared.Wire.{Wire}
use Rattle.qm_denot.specs.Weights.{operands}
use Rattle.qm_denot.specs.Circuits.{Amplitudes, Circuit, amp, IsEqualUpTo}
use Rattle.qm_denot.specs.Tags.{Tagged, letters_of, letters_with, tagged}
use Rattle.qm_denot.proofs.EqualUpTo.{equal_trans, equal_after_same}
use Rattle.qm_denot.proofs.Keys.{letters_of-tagged, letters_with-append, AllBelongTo, IsParted-from_keys, equal_rewritten}
use Rattle.qm_denot.proofs.Partings.{OneKeyEach, parting}
use Rattle.qm_denot.proofs.Shuffles.{BelongTo, IsParted, shuffle}
use Rattle.qm_simulation.specs.Following.Debts.{Message, is_message}
use Rattle.qm_simulation.proofs.Following.MessageTests.{message_tells, message_itself, same_or_not}
use Rattle.qm_simulation.proofs.Following.Rewritings.{replaced, with_replaced, with_replaced-other}
use Rattle.qm_simulation.proofs.Following.Raws.{Raw}
use Rattle.qm_simulation.proofs.Following.AreRaw.{AreOf}
use Rattle.qm_simulation.proofs.Following.RawWires.{raw_letters}

-- the letters of each message have operands of that message
keys_of : (owner : Wire → Option Message) (ds : Tagged Message) → IsParted owner ds → (k : Message) → AllBelongTo owner k (letters_with is_message k ds)
keys_of owner [] parted k = tt
keys_of owner (d ∷ ds) parted k = by_test (is_message k d.0) refl (keys_of owner ds parted.1 k)
  where
    by_test : (b : Bool) → is_message k d.0 ≡ b → AllBelongTo owner k (letters_with is_message k ds) → AllBelongTo owner k (cond b (d.1 ∷ letters_with is_message k ds) (letters_with is_message k ds))
    by_test true own later = (subst (λ m. BelongTo owner m (operands d.1)) (sym (message_tells k d.0 own)) parted.0, later)
    by_test false own later = later

-- the letters of the messages other than k are the same
pub record OthersSame (k : Message) (bs qs bs' qs' : Tagged Message) : Type 0 where
  pub begun : (j : Message) → j ≢ k → letters_with is_message j bs' ≡ letters_with is_message j bs
  pub pending : (j : Message) → j ≢ k → letters_with is_message j qs' ≡ letters_with is_message j qs

-- the letters ls of an event of message k are added to G: where a law makes of what k has begun and due, and ls, the ideal letters ms and
-- what it has begun and due afterwards, it does so for the whole circuit
module _ (k : Message) (x y : Raw) (bs qs bs' qs' : Tagged Message) (before : AreOf k x bs qs) (after : AreOf k y bs' qs') (others : OthersSame k bs qs bs' qs') where
  mine : letters_with is_message k (bs ++ qs) ≡ raw_letters x
  mine = letters_with-append is_message k bs qs ∙ ap₂ (λ a b. a ++ b) before.0 before.1

  same_letters : (j : Message) → letters_with is_message j (replaced k (raw_letters y) (bs ++ qs)) ≡ letters_with is_message j (bs' ++ qs')
  same_letters j = ⊎_elim
      (λ (e : j ≡ k).
      subst (λ m. letters_with is_message m (replaced k (raw_letters y) (bs ++ qs)) ≡ letters_with is_message m (bs' ++ qs')) (sym e)
      (with_replaced k (raw_letters y) (bs ++ qs) ∙ sym (letters_with-append is_message k bs' qs' ∙ ap₂ (λ a b. a ++ b) after.0 after.1)))
      (λ (ne : j ≢ k).
      with_replaced-other j k (raw_letters y) (bs ++ qs) ne ∙ letters_with-append is_message j bs qs
      ∙ ap₂ (λ a b. a ++ b) (sym (others.begun j ne)) (sym (others.pending j ne)) ∙ sym (letters_with-append is_message j bs' qs'))
      (same_or_not j k)

  pub equal_ordered : (n m : ℕ) (g c ls ms : Circuit) → OneKeyEach ((bs ++ qs) ++ tagged k ls) → OneKeyEach (bs' ++ qs')
      → IsEqualUpTo n g (c ++ letters_of (bs ++ qs)) → IsEqualUpTo m (c ++ ((x.begun ++ x.pending) ++ ls)) (c ++ (ms ++ (y.begun ++ y.pending)))
      → IsEqualUpTo (n + m) (g ++ ls) ((c ++ ms) ++ letters_of (bs' ++ qs'))
  equal_ordered n m g c ls ms one later equal law =
      let ds = bs ++ qs in
      let es = raw_letters y in
      let parts = parting (ds ++ tagged k ls) one in
      let ends = parting (bs' ++ qs') later in
      let first : IsEqualUpTo (n + m) (g ++ ls) ((c ++ ms) ++ letters_of (replaced k es ds)) =
      equal_rewritten is_message message_tells message_itself parts.owner k ds (tagged k es) ls ms parts.parted n m g c equal
      (subst (λ zs. IsEqualUpTo m (c ++ (zs ++ ls)) (c ++ (ms ++ letters_of (tagged k es)))) (sym mine)
      (subst (λ zs. IsEqualUpTo m (c ++ (raw_letters x ++ ls)) (c ++ (ms ++ zs))) (sym (letters_of-tagged k es)) law)) in
      let parted : IsParted ends.owner (replaced k es ds) =
      IsParted-from_keys is_message message_tells message_itself ends.owner (replaced k es ds)
      (λ j. subst (AllBelongTo ends.owner j) (sym (same_letters j)) (keys_of ends.owner (bs' ++ qs') ends.parted j)) in
      let order = shuffle is_message message_tells message_itself ends.owner (replaced k es ds) (bs' ++ qs') parted ends.parted same_letters in
      let second : IsEqualUpTo 0 ((c ++ ms) ++ letters_of (replaced k es ds)) ((c ++ ms) ++ letters_of (bs' ++ qs')) =
      equal_after_same (c ++ ms) (letters_of (replaced k es ds)) (letters_of (bs' ++ qs')) 0 (order.1 ∙ sym (add-zero _))
      (λ z. ap (λ (f : Amplitudes). f z) (order.0 (amp (c ++ ms)))) in
      let sum : (n + m) + 0 ≡ n + m = omega arith in
      subst (λ j. IsEqualUpTo j (g ++ ls) ((c ++ ms) ++ letters_of (bs' ++ qs'))) sum (equal_trans (n + m) 0 _ _ _ first second)
