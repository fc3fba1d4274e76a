-- The numbers that a command names are within their bounds
use Rattle.std.proofs.Common.{◌≡◌, ℕ, ◌≤◌, nat_le, length, Bool, true, false, ◌&&◌, List, [], ◌∷◌, Option, Some, None, if◌then◌else◌, refl, subst, arith}
use Rattle.std.specs.Prelude.{option_and_then, option_map, codes}
use Rattle.std.specs.Str.{bytes_eq}
use Rattle.std.proofs.lemmas.Bool.Decides.{nat_tests}
use Rattle.std.proofs.lemmas.Option.{none-some, option_and_then_some}
use Rattle.qm_cost.specs.declared.TheConstants.{MOST_DELAY}
use Rattle.qm_cost.specs.declared.Delays.{Delays}
use Rattle.qm_cost.specs.Reports.{AreFew}
use Rattle.qm_gen.specs.declared.GenKind.{GenKind}
use Rattle.qm_gen.specs.Sizes.{IsSize}
use Rattle.qm_tool.specs.declared.command.TheConstants.{MOST_SIZE_DIGITS, LARGEST_SIZE, MOST_DELAY_DIGITS}
use Rattle.qm_tool.specs.declared.command.Command.{Command}
use Rattle.qm_tool.specs.declared.command.Command.TheVariants as command
use Rattle.qm_tool.specs.declared.command.Order.TheVariants.{Lowest, Seeded, Any}
use Rattle.qm_tool.specs.declared.command.Listing.TheVariants.{Nothing, Trace, Turns, TurnsOfStop}
use Rattle.qm_tool.specs.declared.command.Recipe.{Recipe}
use Rattle.qm_tool.specs.Commands.{command_of, delay_of, delays, delays_of, digits_after, five_words, four_words, has_size, if_at_most, kind_of, number_of, one_word, recipe, recipe_of, run, seed_of, size_of, two_words, IsBounded, IsSized}
use Rattle.qm_tool.proofs.CommandLemmas.{sized-has_size}

-- what a value that is there was made of
option_map_some : {A B P : Type 0} (f : A → B) (o : Option A) (y : B) → option_map f o ≡ Some y → ((x : A) → o ≡ Some x → f x ≡ y → P) → P
option_map_some f None y e k = absurd (none-some y e)
option_map_some f (Some x) y e k = k x refl cc

-- a test that was passed
if_some : {A P : Type 0} (b : Bool) (o : Option A) (y : A) → (if b then o else None) ≡ Some y → (b ≡ true → o ≡ Some y → P) → P
if_some true o y e k = k refl e
if_some false o y e k = absurd (none-some y e)

size_of-is_size : (kind : GenKind) (word : List ℕ) (n : ℕ) → size_of kind word ≡ Some n → IsSize kind n
size_of-is_size kind word n e =
    option_and_then_some (λ k. if has_size kind k then Some k else None) (number_of MOST_SIZE_DIGITS LARGEST_SIZE word) n e
    (λ k is has. if_some (has_size kind k) (Some k) n has
    (λ has_it same. let e : k ≡ n = cc in subst (IsSize kind) e (sized-has_size kind k has_it)))

recipe_of-sized : (k s n : List ℕ) (r : Recipe) → recipe_of k s n ≡ Some r → IsSized r
recipe_of-sized k s n r e =
    option_and_then_some (λ kind. option_and_then (λ size. option_map (recipe kind size) (seed_of n)) (size_of kind s)) (kind_of k) r e
    (λ kind is rest. option_and_then_some (λ size. option_map (recipe kind size) (seed_of n)) (size_of kind s) r rest
    (λ size sized last. option_map_some (recipe kind size) (seed_of n) r last
    (λ number is_number same. subst IsSized same (size_of-is_size kind s size sized))))

-- ---- delays
within : (largest k : ℕ) → nat_le k largest ≡ true → k ≤ largest
within largest k le = grind (arith, nat_tests)

small : (largest k n : ℕ) → nat_le k largest ≡ true → Some k ≡ Some n → n ≤ largest
small largest k n le e = let same : k ≡ n = cc in subst (λ (m : ℕ). m ≤ largest) same (within largest k le)

number_of-small : (most largest : ℕ) (word : List ℕ) (n : ℕ) → number_of most largest word ≡ Some n → n ≤ largest
number_of-small most largest [] n e = absurd (none-some n e)
number_of-small most largest (b ∷ bs) n e =
    if_some (nat_le (length (b ∷ bs)) most) (if_at_most largest (digits_after 0 (b ∷ bs))) n e
    (λ short rest. option_and_then_some (λ k. if nat_le k largest then Some k else None) (digits_after 0 (b ∷ bs)) n rest
    (λ k is has. if_some (nat_le k largest) (Some k) n has (small largest k n)))

delay_of-small : (word : List ℕ) (n : ℕ) → delay_of word ≡ Some n → n ≤ MOST_DELAY
delay_of-small word n e = number_of-small MOST_DELAY_DIGITS MOST_DELAY word n e

delays_of-few : (l p b : List ℕ) (d : Delays) → delays_of l p b ≡ Some d → AreFew d
delays_of-few l p b d e =
    option_and_then_some (λ local. option_and_then (λ pair. option_map (delays local pair) (delay_of b)) (delay_of p)) (delay_of l) d e
    (λ local is_local rest. option_and_then_some (λ pair. option_map (delays local pair) (delay_of b)) (delay_of p) d rest
    (λ pair is_pair last. option_map_some (delays local pair) (delay_of b) d last
    (λ bits is_bits same. subst AreFew same
    (record { local = delay_of-small l local is_local; pair = delay_of-small p pair is_pair; bits = delay_of-small b bits is_bits }))))

-- ---- commands, by the number of their words
module _ (c : Command) where
  is : (d : Command) → IsBounded d → Some d ≡ Some c → IsBounded c
  is d fine e = let same : d ≡ c = cc in subst IsBounded same fine

  of_numbers : {A : Type 0} (f : A → Command) (o : Option A) → ((x : A) → o ≡ Some x → IsBounded (f x)) → option_map f o ≡ Some c → IsBounded c
  of_numbers f o fine e = option_map_some f o c e (λ x is same. subst IsBounded same (fine x is))

  one_word-bounded : (w : List ℕ) → one_word w ≡ Some c → IsBounded c
  one_word-bounded w e = by_tests (bytes_eq w (codes "plain")) (bytes_eq w (codes "run")) (bytes_eq w (codes "mono")) (bytes_eq w (codes "check")) e
    where
      by_tests : (a r b d : Bool)
          → (if a then Some (run Lowest Nothing) else (if r then Some (run Any TurnsOfStop) else (if b then Some command.Mono else (if d then Some command.Check else None)))) ≡ Some c
          → IsBounded c
      by_tests true r b d h = is (run Lowest Nothing) tt h
      by_tests false true b d h = is (run Any TurnsOfStop) tt h
      by_tests false false true d h = is command.Mono tt h
      by_tests false false false true h = is command.Check tt h
      by_tests false false false false h = absurd (none-some c h)

  two_words-bounded : (w k : List ℕ) → two_words w k ≡ Some c → IsBounded c
  two_words-bounded w k e =
      by_tests (bytes_eq w (codes "sched")) (bytes_eq w (codes "trace")) (bytes_eq w (codes "run") && bytes_eq k (codes "turns")) (bytes_eq w (codes "mono") && bytes_eq k (codes "amps")) e
    where
      by_tests : (a b r d : Bool)
          → (if a then option_map (λ n. run (Seeded n) Nothing) (seed_of k)
          else (if b then option_map (λ n. run (Seeded n) Trace) (seed_of k) else (if r then Some (run Any Turns) else (if d then Some command.MonoAmps else None)))) ≡ Some c
          → IsBounded c
      by_tests true b r d h = of_numbers (λ n. run (Seeded n) Nothing) (seed_of k) (λ n is. tt) h
      by_tests false true r d h = of_numbers (λ n. run (Seeded n) Trace) (seed_of k) (λ n is. tt) h
      by_tests false false true d h = is (run Any Turns) tt h
      by_tests false false false true h = is command.MonoAmps tt h
      by_tests false false false false h = absurd (none-some c h)

  four_words-bounded : (w k s n : List ℕ) → four_words w k s n ≡ Some c → IsBounded c
  four_words-bounded w k s n e = by_tests (bytes_eq w (codes "gen")) (bytes_eq w (codes "job")) e
    where
      by_tests : (a b : Bool)
          → (if a then option_map (λ r. command.Gen r) (recipe_of k s n) else (if b then option_map (λ r. command.Job r) (recipe_of k s n) else None)) ≡ Some c
          → IsBounded c
      by_tests true b h = of_numbers (λ r. command.Gen r) (recipe_of k s n) (recipe_of-sized k s n) h
      by_tests false true h = of_numbers (λ r. command.Job r) (recipe_of k s n) (recipe_of-sized k s n) h
      by_tests false false h = absurd (none-some c h)

  five_words-bounded : (w k l p b : List ℕ) → five_words w k l p b ≡ Some c → IsBounded c
  five_words-bounded w k l p b e = by_test (bytes_eq w (codes "cost")) e
    where
      by_test : (t : Bool) → (if t then option_and_then (λ seed. option_map (λ d. command.Cost seed d) (delays_of l p b)) (seed_of k) else None) ≡ Some c → IsBounded c
      by_test true h =
          option_and_then_some (λ seed. option_map (λ d. command.Cost seed d) (delays_of l p b)) (seed_of k) c h
          (λ seed is_seed rest. of_numbers (λ d. command.Cost seed d) (delays_of l p b) (delays_of-few l p b) rest)
      by_test false h = absurd (none-some c h)

pub command_of-bounded : (words : List (List ℕ)) (c : Command) → command_of words ≡ Some c → IsBounded c
command_of-bounded [] c e = absurd (none-some c e)
command_of-bounded (w ∷ []) c e = one_word-bounded c w e
command_of-bounded (w ∷ k ∷ []) c e = two_words-bounded c w k e
command_of-bounded (w ∷ k ∷ s ∷ []) c e = absurd (none-some c e)
command_of-bounded (w ∷ k ∷ s ∷ n ∷ []) c e = four_words-bounded c w k s n e
command_of-bounded (w ∷ k ∷ l ∷ p ∷ b ∷ []) c e = five_words-bounded c w k l p b e
command_of-bounded (w ∷ k ∷ l ∷ p ∷ b ∷ v ∷ ws) c e = absurd (none-some c e)
