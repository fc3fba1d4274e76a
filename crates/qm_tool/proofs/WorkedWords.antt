-- Words that were read by hand, at both sides of each bound
use Rattle.std.proofs.Common.{◌≡◌, ℕ, List, [], ◌∷◌, map, Option, Some, None, codes, refl}
use Rattle.qm_gen.specs.declared.GenKind.TheVariants.{Ring, Ghz, Parity}
use Rattle.qm_tool.specs.declared.command.Command.{Command}
use Rattle.qm_tool.specs.declared.command.Command.TheVariants as command
use Rattle.qm_tool.specs.declared.command.Order.TheVariants.{Lowest, Seeded, Any}
use Rattle.qm_tool.specs.declared.command.Listing.TheVariants.{Nothing, Trace, Turns, TurnsOfStop}
use Rattle.qm_tool.specs.Commands.{command_of, delay_of, delays, kind_of, plain_of, recipe, run, seed_of, size_of, threaded}

-- ---- numbers
some_numbers : map seed_of (codes "0" ∷ codes "007" ∷ codes "18446744073709551615" ∷ codes "00000000000000000010" ∷ [])
    ≡ Some 0 ∷ Some 7 ∷ Some 18446744073709551615 ∷ Some 10 ∷ []
some_numbers = refl

-- too large, or too many digits, or none
no_numbers : map seed_of (codes "18446744073709551616" ∷ codes "99999999999999999999" ∷ codes "000000000000000000010" ∷ [] ∷ [])
    ≡ None ∷ None ∷ None ∷ None ∷ []
no_numbers = refl

-- other bytes, those before and after the digits among them
no_digits : map seed_of (codes "+1" ∷ codes "1e3" ∷ codes "1 " ∷ codes "1/" ∷ codes "1:" ∷ []) ≡ None ∷ None ∷ None ∷ None ∷ None ∷ []
no_digits = refl

-- ---- commands on a program of the source
one_word : map (λ w. command_of (w ∷ [])) (codes "plain" ∷ codes "run" ∷ codes "mono" ∷ codes "check" ∷ codes "Plain" ∷ codes "runs" ∷ codes "amps" ∷ codes "turns" ∷ [] ∷ [])
    ≡ Some (run Lowest Nothing) ∷ Some (run Any TurnsOfStop) ∷ Some command.Mono ∷ Some command.Check ∷ None ∷ None ∷ None ∷ None ∷ None ∷ []
one_word = refl

abbrev two : List ℕ → List ℕ → Option Command
two w k = command_of (w ∷ k ∷ [])

two_words : two (codes "sched") (codes "12") ∷ two (codes "trace") (codes "12") ∷ two (codes "run") (codes "turns") ∷ two (codes "mono") (codes "amps") ∷ []
    ≡ Some (run (Seeded 12) Nothing) ∷ Some (run (Seeded 12) Trace) ∷ Some (run Any Turns) ∷ Some command.MonoAmps ∷ []
two_words = refl

no_two_words : two (codes "plain") (codes "12") ∷ two (codes "check") (codes "amps") ∷ two (codes "run") (codes "amps") ∷ two (codes "run") (codes "12") ∷ two (codes "mono") (codes "turns") ∷ []
    ≡ None ∷ None ∷ None ∷ None ∷ None ∷ []
no_two_words = refl

-- which of them are run by threads, and what is left to a call that starts none
by_threads : map threaded (two (codes "run") (codes "turns") ∷ two (codes "sched") (codes "12") ∷ Some command.Mono ∷ None ∷ [])
    ≡ Some (record { order = Any; listing = Turns }) ∷ None ∷ None ∷ None ∷ []
by_threads = refl

without_threads : map plain_of (two (codes "run") (codes "turns") ∷ two (codes "sched") (codes "12") ∷ Some command.Mono ∷ None ∷ [])
    ≡ None ∷ Some (run (Seeded 12) Nothing) ∷ Some command.Mono ∷ None ∷ []
without_threads = refl

-- ---- kinds
kinds : map kind_of (codes "ring" ∷ codes "ghz" ∷ codes "parity" ∷ codes "star" ∷ codes "GHZ" ∷ codes "Ring" ∷ codes "rin" ∷ codes "rings" ∷ [] ∷ [])
    ≡ Some Ring ∷ Some Ghz ∷ Some Parity ∷ None ∷ None ∷ None ∷ None ∷ None ∷ None ∷ []
kinds = refl

-- ---- sizes: the ends of each kind's range, and one beyond
ring_sizes : map (size_of Ring) (codes "0" ∷ codes "1" ∷ codes "10000" ∷ codes "10001" ∷ []) ≡ None ∷ Some 1 ∷ Some 10000 ∷ None ∷ []
ring_sizes = refl

ghz_sizes : map (size_of Ghz) (codes "1" ∷ codes "2" ∷ codes "10" ∷ codes "11" ∷ []) ≡ None ∷ Some 2 ∷ Some 10 ∷ None ∷ []
ghz_sizes = refl

parity_sizes : map (size_of Parity) (codes "0" ∷ codes "1" ∷ codes "9000" ∷ codes "9001" ∷ []) ≡ None ∷ Some 1 ∷ Some 9000 ∷ None ∷ []
parity_sizes = refl

-- 9 digits and 10
many_digits : map (size_of Ring) (codes "000010000" ∷ codes "0000010000" ∷ codes "999999999" ∷ codes "4294967297" ∷ []) ≡ Some 10000 ∷ None ∷ None ∷ None ∷ []
many_digits = refl

no_sizes : map (size_of Ghz) ([] ∷ codes "3x" ∷ codes "x3" ∷ codes "-3" ∷ codes "+3" ∷ codes "3." ∷ []) ≡ None ∷ None ∷ None ∷ None ∷ None ∷ None ∷ []
no_sizes = refl

-- ---- commands on a made program
abbrev four : List ℕ → List ℕ → List ℕ → List ℕ → Option Command
four name kind size number = command_of (name ∷ kind ∷ size ∷ number ∷ [])

four_words : four (codes "gen") (codes "ring") (codes "010") (codes "7") ∷ four (codes "job") (codes "parity") (codes "9000") (codes "5")
    ∷ four (codes "gen") (codes "ghz") (codes "000000003") (codes "00000000000000000010")
    ∷ four (codes "job") (codes "ghz") (codes "2") (codes "18446744073709551615") ∷ []
    ≡ Some (command.Gen (recipe Ring 10 7)) ∷ Some (command.Job (recipe Parity 9000 5)) ∷ Some (command.Gen (recipe Ghz 3 10))
    ∷ Some (command.Job (recipe Ghz 2 18446744073709551615)) ∷ []
four_words = refl

-- a number that is none, a size that is none, a kind that is none
no_recipes : four (codes "gen") (codes "ring") (codes "1") (codes "18446744073709551616") ∷ four (codes "gen") (codes "ring") (codes "1") []
    ∷ four (codes "gen") (codes "ring") (codes "0") (codes "1") ∷ four (codes "job") (codes "ghz") (codes "1") (codes "1")
    ∷ four (codes "gen") (codes "star") (codes "3") (codes "1") ∷ four (codes "gen") (codes "3") (codes "ring") (codes "1") ∷ []
    ≡ None ∷ None ∷ None ∷ None ∷ None ∷ None ∷ []
no_recipes = refl

-- another name, and too few words or too many
no_commands : four (codes "JOB") (codes "ring") (codes "3") (codes "1") ∷ four (codes "plain") (codes "ring") (codes "3") (codes "1")
    ∷ command_of [] ∷ command_of (codes "gen" ∷ []) ∷ command_of (codes "sched" ∷ []) ∷ command_of (codes "job" ∷ codes "ghz" ∷ [])
    ∷ command_of (codes "sched" ∷ codes "12" ∷ codes "12" ∷ []) ∷ command_of (codes "gen" ∷ codes "ghz" ∷ codes "3" ∷ [])
    ∷ command_of (codes "gen" ∷ codes "ghz" ∷ codes "3" ∷ codes "1" ∷ codes "1" ∷ []) ∷ []
    ≡ None ∷ None ∷ None ∷ None ∷ None ∷ None ∷ None ∷ None ∷ None ∷ []
no_commands = refl

-- ---- delays: both ends of their range, and one beyond
some_delays : map delay_of (codes "0" ∷ codes "7" ∷ codes "1000000" ∷ codes "0000010" ∷ []) ≡ Some 0 ∷ Some 7 ∷ Some 1000000 ∷ Some 10 ∷ []
some_delays = refl

-- too large, 8 digits, or none
no_delays : map delay_of (codes "1000001" ∷ codes "9999999" ∷ codes "00000001" ∷ codes "10000000" ∷ codes "+1" ∷ codes "1x" ∷ [] ∷ [])
    ≡ None ∷ None ∷ None ∷ None ∷ None ∷ None ∷ None ∷ []
no_delays = refl

abbrev five : List ℕ → List ℕ → List ℕ → List ℕ → List ℕ → Option Command
five name seed l p b = command_of (name ∷ seed ∷ l ∷ p ∷ b ∷ [])

five_words : five (codes "cost") (codes "1") (codes "2") (codes "10") (codes "5")
    ∷ five (codes "cost") (codes "18446744073709551615") (codes "0") (codes "1000000") (codes "0000003") ∷ []
    ≡ Some (command.Cost 1 (delays 2 10 5)) ∷ Some (command.Cost 18446744073709551615 (delays 0 1000000 3)) ∷ []
five_words = refl

-- a seed that is none, a delay that is none at each place, another name, and too few words or too many
no_costs : five (codes "cost") (codes "18446744073709551616") (codes "1") (codes "1") (codes "1")
    ∷ five (codes "cost") (codes "1") (codes "1000001") (codes "1") (codes "1") ∷ five (codes "cost") (codes "1") (codes "1") (codes "00000001") (codes "1")
    ∷ five (codes "cost") (codes "1") (codes "1") (codes "1") [] ∷ five (codes "costs") (codes "1") (codes "1") (codes "1") (codes "1")
    ∷ command_of (codes "cost" ∷ []) ∷ command_of (codes "cost" ∷ codes "1" ∷ []) ∷ command_of (codes "cost" ∷ codes "1" ∷ codes "1" ∷ codes "1" ∷ [])
    ∷ command_of (codes "cost" ∷ codes "1" ∷ codes "1" ∷ codes "1" ∷ codes "1" ∷ codes "1" ∷ []) ∷ []
    ≡ None ∷ None ∷ None ∷ None ∷ None ∷ None ∷ None ∷ None ∷ None ∷ []
no_costs = refl
