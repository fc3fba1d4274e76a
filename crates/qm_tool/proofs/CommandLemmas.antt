-- The words of a command, one by one
use Rattle.std.proofs.Common.{◌≡◌, ◌≢◌, ℕ, ◌+◌, ◌-◌, ◌*◌, ◌<◌, ◌≤◌, length, map, Bool, true, false, ◌&&◌, nat_le, List, [], ◌∷◌, Option, None, Some, if◌then◌else◌, refl, ap, subst, arith}
use Rattle.std.specs.Prelude.{is_none}
use Rattle.std.proofs.lemmas.Bool.Decides.{nat_tests}
use Rattle.std.proofs.lemmas.Option.{none-some}
use Rattle.qm_tool.specs.declared.command.Command.{Command}
use Rattle.qm_tool.specs.declared.command.Command.TheVariants as command
use Rattle.qm_tool.specs.declared.command.Order.{Order}
use Rattle.qm_tool.specs.declared.command.Order.TheVariants.{Lowest, Seeded, Any}
use Rattle.qm_tool.specs.declared.command.Play.{Play}
use Rattle.qm_tool.specs.declared.command.Recipe.{Recipe}
use Rattle.qm_gen.specs.declared.GenKind.{GenKind}
use Rattle.qm_gen.specs.declared.GenKind.TheVariants.{Ring, Ghz, Parity}
use Rattle.qm_gen.specs.Sizes.{IsSize}
use Rattle.qm_tool.specs.Commands.{command_of, digits_after, has_size, if_at_most, made_of, order_words, plain_of, threaded, threads_of, IsBounded, IsOnPrograms, IsSized}

abbrev pub is_digit : ℕ → Bool
is_digit b = nat_le 48 b && nat_le b 57

pub digits_after-digit : (n b : ℕ) (bs : List ℕ) → is_digit b ≡ true → digits_after n (b ∷ bs) ≡ digits_after (10 * n + (b - 48)) bs
digits_after-digit n b bs e = rw e refl

-- a value that is too large stays so
pub if_at_most-large : (largest n : ℕ) (bs : List ℕ) → largest < n → if_at_most largest (digits_after n bs) ≡ None
if_at_most-large largest n [] h = grind (arith, nat_tests)
if_at_most-large largest n (b ∷ bs) h = by_test (if_at_most-large largest (10 * n + (b - 48)) bs (omega arith)) (is_digit b) refl
  where
    by_test : if_at_most largest (digits_after (10 * n + (b - 48)) bs) ≡ None → (t : Bool) → is_digit b ≡ t → if_at_most largest (digits_after n (b ∷ bs)) ≡ None
    by_test more true e = rw e more
    by_test more false e = rw e refl

-- a size that the test lets through
pub sized-has_size : (kind : GenKind) (n : ℕ) → has_size kind n ≡ true → IsSize kind n
sized-has_size Ring n e = record { enough = grind (arith, nat_tests); few = grind (arith, nat_tests) }
sized-has_size Ghz n e = record { enough = grind (arith, nat_tests); few = grind (arith, nat_tests) }
sized-has_size Parity n e = record { enough = grind (arith, nat_tests); few = grind (arith, nat_tests) }

-- the made program that a command is on has a size of its kind
pub bounded_size : (c : Command) (r : Recipe) → IsBounded c → made_of c ≡ Some r → IsSized r
bounded_size (command.Gen q) r bounded is = let same : q ≡ r = cc in subst IsSized same bounded
bounded_size (command.Job q) r bounded is = let same : q ≡ r = cc in subst IsSized same bounded
bounded_size c r bounded is = absurd (none-some r is)

-- a command that doesn't only write its program
pub on_programs : (c : Command) → ((r : Recipe) → c ≢ command.Gen r) → IsOnPrograms c
on_programs (command.Gen r) other = other r refl
on_programs c other = tt

-- ---- runs by threads
-- what is run so, in any order
module _ (play : Play) where
  of_order : (how : Play) (o : Order) → how.order ≡ o → (if is_none (order_words o) then Some how else None) ≡ Some play → (how ≡ play) × (play.order ≡ Any)
  of_order how Lowest is e = absurd (none-some play e)
  of_order how (Seeded seed) is e = absurd (none-some play e)
  of_order how Any is e = let same : how ≡ play = cc in (same, subst (λ (k : Play). k.order ≡ Any) same is)

  pub threads_of-run : (c : Command) → threads_of c ≡ Some play → (c ≡ command.Run play) × (play.order ≡ Any)
  threads_of-run (command.Run how) e = let so = of_order how how.order refl e in (ap (λ (k : Play). command.Run k) so.0, so.1)
  threads_of-run c e = absurd (none-some play e)

  -- the words ask for it
  pub threaded-run : (o : Option Command) → threaded o ≡ Some play → (o ≡ Some (command.Run play)) × (play.order ≡ Any)
  threaded-run None e = absurd (none-some play e)
  threaded-run (Some c) e = let so = threads_of-run c e in (ap (λ (k : Command). Some k) so.0, so.1)

-- where they don't, a call that starts no threads reads what every other does
pub plain_of-same : (o : Option Command) → threaded o ≡ None → plain_of o ≡ o
plain_of-same o e = rw e refl

-- a command that isn't run so, if it runs a program, runs it in an order that has words
pub named_order : (c : Command) (play : Play) → threads_of c ≡ None → c ≡ command.Run play → order_words play.order ≢ None
named_order c play none is any = let some : threads_of (command.Run play) ≡ Some play = rw any refl in let same : threads_of (command.Run play) ≡ None = subst (λ (k : Command). threads_of k ≡ None) is none in cc

-- there is no command of three words
pub three_words : {A : Type 0} (f : A → List ℕ) (words : List A) → 3 ≤ length words → length words < 4 → command_of (map f words) ≡ None
three_words f [] least few = absurd (omega (arith, least))
three_words f (w ∷ []) least few = absurd (omega (arith, least))
three_words f (w ∷ k ∷ []) least few = absurd (omega (arith, least))
three_words f (w ∷ k ∷ s ∷ []) least few = refl
three_words f (w ∷ k ∷ s ∷ n ∷ ws) least few = absurd (omega (arith, few))

-- nor of more than five
pub many_words : {A : Type 0} (f : A → List ℕ) (words : List A) → 6 ≤ length words → command_of (map f words) ≡ None
many_words f [] least = absurd (omega (arith, least))
many_words f (w ∷ []) least = absurd (omega (arith, least))
many_words f (w ∷ k ∷ []) least = absurd (omega (arith, least))
many_words f (w ∷ k ∷ s ∷ []) least = absurd (omega (arith, least))
many_words f (w ∷ k ∷ s ∷ n ∷ []) least = absurd (omega (arith, least))
many_words f (w ∷ k ∷ l ∷ p ∷ b ∷ []) least = absurd (omega (arith, least))
many_words f (w ∷ k ∷ l ∷ p ∷ b ∷ v ∷ ws) least = refl
