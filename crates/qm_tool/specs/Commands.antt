-- The commands: the one reading of their words; the made program of those that have one; and of a run the block that is listed after it
use Rattle.std.specs.Prelude.{ℕ, Bool, true, false, ◌+◌, ◌*◌, ◌-◌, ◌&&◌, nat_le, List, [], ◌∷◌, length, Option, Some, None, is_none, if◌then◌else◌, option_and_then, option_map, codes}
use Rattle.std.specs.Str.{bytes_eq}
use Rattle.qm_instr.specs.Programs.{Programs}
use Rattle.qm_proto.specs.Model.Orders.{Words, from_the_lowest}
use Rattle.qm_gen.specs.declared.GenKind.{GenKind}
use Rattle.qm_gen.specs.declared.GenKind.TheVariants.{Ring, Ghz, Parity}
use Rattle.qm_gen.specs.declared.TheConstants.{LEAST_RING, MOST_RING, LEAST_GHZ, MOST_GHZ, LEAST_PARITY, MOST_PARITY}
use Rattle.qm_gen.specs.Made.{made_text}
use Rattle.qm_seed.specs.Seeds.{seed_words}
use Rattle.qm_gen.specs.Sizes.{IsSize}
use Rattle.qm_cost.specs.declared.TheConstants.{MOST_DELAY}
use Rattle.qm_cost.specs.declared.Delays.{Delays}
use Rattle.qm_cost.specs.Reports.{AreFew}
use Rattle.qm_tool.specs.declared.command.TheConstants.{MOST_DIGITS, LARGEST_NUMBER, MOST_SIZE_DIGITS, LARGEST_SIZE, MOST_DELAY_DIGITS}
use Rattle.qm_tool.specs.declared.command.Command.{Command}
use Rattle.qm_tool.specs.declared.command.Command.TheVariants as command
use Rattle.qm_tool.specs.declared.command.Order.{Order}
use Rattle.qm_tool.specs.declared.command.Order.TheVariants.{Lowest, Seeded, Any}
use Rattle.qm_tool.specs.declared.command.Listing.{Listing}
use Rattle.qm_tool.specs.declared.command.Listing.TheVariants.{Nothing, Trace, Turns, TurnsOfStop}
use Rattle.qm_tool.specs.declared.command.Play.{Play}
use Rattle.qm_tool.specs.declared.command.Recipe.{Recipe}
use Rattle.qm_print.specs.Blocks.{trace_block, turns_block}

-- ---- numbers
-- the value of decimal digits that follow a value
abbrev pub digits_after : ℕ → List ℕ → Option ℕ
digits_after n [] = Some n
digits_after n (b ∷ bs) = if nat_le 48 b && nat_le b 57 then digits_after (10 * n + (b - 48)) bs else None

-- a value that isn't too large
abbrev pub if_at_most : ℕ → Option ℕ → Option ℕ
if_at_most largest o = option_and_then (λ n. if nat_le n largest then Some n else None) o

-- the number that a word is: it has some decimal digits, at most so many, and a value that isn't too large
abbrev pub number_of : ℕ → ℕ → List ℕ → Option ℕ
number_of most largest [] = None
number_of most largest (b ∷ bs) = if nat_le (length (b ∷ bs)) most then if_at_most largest (digits_after 0 (b ∷ bs)) else None

-- a seed, or the number that a program is made from
abbrev pub seed_of : List ℕ → Option ℕ
seed_of w = number_of MOST_DIGITS LARGEST_NUMBER w

-- ---- the words
-- a run in this order, with this listing
abbrev pub run : Order → Listing → Command
run order listing = command.Run (record { order = order; listing = listing })

-- the command that one word is
abbrev pub one_word : List ℕ → Option Command
one_word w =
    if bytes_eq w (codes "plain") then Some (run Lowest Nothing)
    else (if bytes_eq w (codes "run") then Some (run Any TurnsOfStop)
    else (if bytes_eq w (codes "mono") then Some command.Mono else (if bytes_eq w (codes "check") then Some command.Check else None)))

-- the command that two words are
abbrev pub two_words : List ℕ → List ℕ → Option Command
two_words w k =
    if bytes_eq w (codes "sched") then option_map (λ n. run (Seeded n) Nothing) (seed_of k)
    else (if bytes_eq w (codes "trace") then option_map (λ n. run (Seeded n) Trace) (seed_of k)
    else (if bytes_eq w (codes "run") && bytes_eq k (codes "turns") then Some (run Any Turns)
    else (if bytes_eq w (codes "mono") && bytes_eq k (codes "amps") then Some command.MonoAmps else None)))

-- the kind that a word is
abbrev pub kind_of : List ℕ → Option GenKind
kind_of w =
    if bytes_eq w (codes "ring") then Some Ring
    else (if bytes_eq w (codes "ghz") then Some Ghz else (if bytes_eq w (codes "parity") then Some Parity else None))

-- whether programs of this kind have this size
abbrev pub has_size : GenKind → ℕ → Bool
has_size Ring n = nat_le LEAST_RING n && nat_le n MOST_RING
has_size Ghz n = nat_le LEAST_GHZ n && nat_le n MOST_GHZ
has_size Parity n = nat_le LEAST_PARITY n && nat_le n MOST_PARITY

-- a size, where it is one of the kind
abbrev pub if_sized : GenKind → Option ℕ → Option ℕ
if_sized kind o = option_and_then (λ n. if has_size kind n then Some n else None) o

-- the size that a word is: it has some decimal digits, not many, and programs of this kind have it
abbrev pub size_of : GenKind → List ℕ → Option ℕ
size_of kind w = if_sized kind (number_of MOST_SIZE_DIGITS LARGEST_SIZE w)

-- the made program of a kind, a size and a number
abbrev pub recipe : GenKind → ℕ → ℕ → Recipe
recipe kind size number = record { kind = kind; size = size; number = number }

-- the made program that three words are
abbrev pub recipe_of : List ℕ → List ℕ → List ℕ → Option Recipe
recipe_of k s n =
    option_and_then (λ kind. option_and_then (λ size. option_map (recipe kind size) (seed_of n)) (size_of kind s)) (kind_of k)

-- the command that four words are
abbrev pub four_words : List ℕ → List ℕ → List ℕ → List ℕ → Option Command
four_words w k s n =
    if bytes_eq w (codes "gen") then option_map (λ r. command.Gen r) (recipe_of k s n)
    else (if bytes_eq w (codes "job") then option_map (λ r. command.Job r) (recipe_of k s n) else None)

-- the delay that a word is: it has some decimal digits, not many, and a value that isn't too large
abbrev pub delay_of : List ℕ → Option ℕ
delay_of w = number_of MOST_DELAY_DIGITS MOST_DELAY w

-- how long a local event takes, how long a pair takes, and how long bits are on their way
abbrev pub delays : ℕ → ℕ → ℕ → Delays
delays local pair bits = record { local = local; pair = pair; bits = bits }

-- the delays that three words are
abbrev pub delays_of : List ℕ → List ℕ → List ℕ → Option Delays
delays_of l p b =
    option_and_then (λ local. option_and_then (λ pair. option_map (delays local pair) (delay_of b)) (delay_of p)) (delay_of l)

-- the command that five words are
abbrev pub five_words : List ℕ → List ℕ → List ℕ → List ℕ → List ℕ → Option Command
five_words w k l p b =
    if bytes_eq w (codes "cost") then option_and_then (λ seed. option_map (λ d. command.Cost seed d) (delays_of l p b)) (seed_of k)
    else None

-- the command that words are
abbrev pub command_of : List (List ℕ) → Option Command
command_of [] = None
command_of (w ∷ []) = one_word w
command_of (w ∷ k ∷ []) = two_words w k
command_of (w ∷ k ∷ s ∷ []) = None
command_of (w ∷ k ∷ s ∷ n ∷ []) = four_words w k s n
command_of (w ∷ k ∷ l ∷ p ∷ b ∷ []) = five_words w k l p b
command_of (w ∷ k ∷ l ∷ p ∷ b ∷ v ∷ ws) = None

-- ---- made programs
-- the made program that a command is on; none where the source gives the program
abbrev pub made_of : Command → Option Recipe
made_of (command.Gen r) = Some r
made_of (command.Job r) = Some r
made_of c = None

-- programs of the kind have the size
abbrev pub IsSized : Recipe → Type 0
IsSized r = IsSize r.kind r.size

-- the numbers that a command names are within their bounds: the size of a made program, and the delays
abbrev pub IsBounded : Command → Type 0
IsBounded (command.Gen r) = IsSized r
IsBounded (command.Job r) = IsSized r
IsBounded (command.Cost seed d) = AreFew d
IsBounded c = Unit {0}

-- the command does more with its program than write it
abbrev pub IsOnPrograms : Command → Type 0
IsOnPrograms (command.Gen r) = ⊥
IsOnPrograms c = Unit {0}

-- the command runs the program of its source
abbrev pub IsRunning : Command → Type 0
IsRunning (command.Run play) = Unit {0}
IsRunning (command.Cost seed d) = Unit {0}
IsRunning c = ⊥

-- the word for a kind
abbrev pub kind_word : GenKind → List ℕ
kind_word Ring = codes "ring"
kind_word Ghz = codes "ghz"
kind_word Parity = codes "parity"

-- the text of a made program
abbrev pub recipe_text : Recipe → List ℕ
recipe_text r = made_text r.kind r.size (seed_words r.number)

-- the text of a made program, or what was given where there is none
abbrev pub text_or : Option Recipe → List ℕ → List ℕ
text_or None given = given
text_or (Some r) given = recipe_text r

-- ---- runs
-- each turn is the lowest rank's that is neither ended nor blocked, and nothing is listed
abbrev pub plain : Play
plain = record { order = Lowest; listing = Nothing }

-- each turn is that of the rank which the seed chooses, and nothing is listed
abbrev pub seeded : ℕ → Play
seeded seed = record { order = Seeded seed; listing = Nothing }

-- the block that is written after a run, by whether it was complete, and its schedule
abbrev pub block_of : Listing → Bool → Programs → List ℕ → List ℕ
block_of Nothing complete p schedule = []
block_of Trace complete p schedule = trace_block p schedule
block_of Turns complete p schedule = turns_block schedule
block_of TurnsOfStop true p schedule = []
block_of TurnsOfStop false p schedule = turns_block schedule

-- ---- orders
-- the words by which the ranks take their turns; none where any rank may have each turn
abbrev pub order_words : Order → Option Words
order_words Lowest = Some from_the_lowest
order_words (Seeded seed) = Some (seed_words seed)
order_words Any = None

-- how a command runs its program, where any rank may have each turn; none for every other command
abbrev pub threads_of : Command → Option Play
threads_of (command.Run play) = if is_none (order_words play.order) then Some play else None
threads_of c = None

-- the same of what words are
abbrev pub threaded : Option Command → Option Play
threaded o = option_and_then threads_of o

-- what words are to a call that starts no threads
abbrev pub plain_of : Option Command → Option Command
plain_of o = if is_none (threaded o) then o else None
