-- The test of messages
use Rattle.std.proofs.Common.{◌≡◌, ◌≢◌, nat_eq, Bool, true, false, ◌⊎◌, inl, inr, refl, sym, ap, ap₂, subst}
use Rattle.std.proofs.lemmas.Bool.{and_parts, eqb-true}
use Rattle.qm_simulation.specs.Following.Debts.{Message, ByPair, BackTo, NoMessage, is_message}
use Rattle.qm_proto.proofs.Changes.{number_itself}

pub message_tells : (j k : Message) → is_message j k ≡ true → j ≡ k
unfolding is_message
message_tells (ByPair a k) (ByPair b j) e =
    let parts = and_parts (nat_eq a b) (nat_eq k j) e in ap₂ ByPair (eqb-true a b parts.0) (eqb-true k j parts.1)
message_tells (BackTo a) (BackTo b) e = ap BackTo (eqb-true a b e)
message_tells NoMessage NoMessage e = refl
message_tells _ _ e = cc

pub message_itself : (k : Message) → is_message k k ≡ true
unfolding is_message
message_itself (ByPair a k) = rw (number_itself a, number_itself k) refl
message_itself (BackTo a) = number_itself a
message_itself NoMessage = refl

pub same_or_not : (j k : Message) → (j ≡ k) ⊎ (j ≢ k)
same_or_not j k = by_test (is_message j k) refl
  where
    by_test : (b : Bool) → is_message j k ≡ b → (j ≡ k) ⊎ (j ≢ k)
    by_test true e = inl (message_tells j k e)
    by_test false e = inr (λ s. let h : is_message j j ≡ false = subst (λ m. is_message j m ≡ false) (sym s) e in let i = message_itself j in cc)

pub different_message : (j k : Message) → j ≢ k → is_message j k ≡ false
different_message j k ne = by_test (is_message j k) refl
  where
    by_test : (b : Bool) → is_message j k ≡ b → b ≡ false
    by_test true e = absurd (ne (message_tells j k e))
    by_test false e = refl
