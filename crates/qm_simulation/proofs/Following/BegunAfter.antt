-- What an event makes of the letters begun and the corrections due, message by message
use Rattle.std.proofs.Common.{◌≡◌, ◌≢◌, ℕ, Bool, true, false, not, cond, ◌||◌, if◌then◌else◌, List, [], ◌∷◌, ◌++◌, filter, Option, Some, None, refl, sym, ap, ◌∙◌, append-nil}
use Rattle.qm_denot.specs.declared.Letter.{Letter}
use Rattle.qm_denot.specs.Tags.{Tagged, letters_with, tagged, without_key}
use Rattle.qm_denot.proofs.Keys.{letters_with-append, letters_with-without_key}
use Rattle.qm_instr.specs.declared.Instr.{Instr}
use Rattle.qm_proto.specs.declared.Event.{Event}
use Rattle.qm_proto.specs.declared.Row.{Row}
use Rattle.qm_simulation.specs.Following.Debts.{Message, is_message}
use Rattle.qm_simulation.specs.Following.Simulation.{settles, is_early, is_due_after, due_after}
use Rattle.qm_simulation.proofs.Following.MessageTests.{message_tells, message_itself, different_message}
use Rattle.qm_simulation.proofs.Following.Raws.{due_letters}
use Rattle.qm_simulation.proofs.Following.Rewritings.{with_tagged, with_tagged-other}

-- the letters begun after an event of message k
abbrev pub begun_after : Message → Option Instr → ℕ → List Letter → Tagged Message → Tagged Message
begun_after k o s ls bs = if settles o s then without_key is_message k bs else (if is_early o s then bs ++ tagged k ls else bs)

-- the corrections due after it
abbrev pub pending_after : Message → Option Instr → ℕ → List Letter → Option Row → Tagged Message → Tagged Message
pending_after k o s cs row qs = if settles o s then qs ++ tagged k cs else due_after k row qs

-- ---- letters added, and letters gone
added : (k : Message) (ls : List Letter) (ds : Tagged Message) → letters_with is_message k (ds ++ tagged k ls) ≡ letters_with is_message k ds ++ ls
added k ls ds = letters_with-append is_message k ds (tagged k ls) ∙ ap (λ ms. letters_with is_message k ds ++ ms) (with_tagged k ls)

added-other : (j k : Message) (ls : List Letter) (ds : Tagged Message) → j ≢ k → letters_with is_message j (ds ++ tagged k ls) ≡ letters_with is_message j ds
added-other j k ls ds ne =
    letters_with-append is_message j ds (tagged k ls) ∙ ap (λ ms. letters_with is_message j ds ++ ms) (with_tagged-other j k ls ne) ∙ append-nil (letters_with is_message j ds)

pub gone : (k : Message) (ds : Tagged Message) → letters_with is_message k (without_key is_message k ds) ≡ []
gone k ds = letters_with-without_key is_message message_tells message_itself k k ds ∙ ap (λ b. cond b [] (letters_with is_message k ds)) (message_itself k)

pub gone-other : (j k : Message) (ds : Tagged Message) → j ≢ k → letters_with is_message j (without_key is_message k ds) ≡ letters_with is_message j ds
gone-other j k ds ne = letters_with-without_key is_message message_tells message_itself j k ds ∙ ap (λ b. cond b [] (letters_with is_message j ds)) (different_message j k ne)

-- ---- corrections done
due : (e : Event) (k : Message) (ds : Tagged Message)
    → letters_with is_message k (filter (λ d. not (is_message k d.0) || is_due_after e d.1) ds) ≡ filter (is_due_after e) (letters_with is_message k ds)
due e k [] = refl
due e k (d ∷ ds) = by_tests (is_message k d.0) (is_due_after e d.1) refl refl (due e k ds)
  where
    by_tests : (b c : Bool) → is_message k d.0 ≡ b → is_due_after e d.1 ≡ c
        → letters_with is_message k (filter (λ d. not (is_message k d.0) || is_due_after e d.1) ds) ≡ filter (is_due_after e) (letters_with is_message k ds)
        → letters_with is_message k (filter (λ d. not (is_message k d.0) || is_due_after e d.1) (d ∷ ds)) ≡ filter (is_due_after e) (letters_with is_message k (d ∷ ds))
    by_tests true true own stays later = rw (own, stays) (rw own (ap (λ ls. d.1 ∷ ls) later))
    by_tests true false own stays later = rw (own, stays) later
    by_tests false c own stays later = rw own (rw own later)

due-other : (e : Event) (j k : Message) (ds : Tagged Message) → j ≢ k
    → letters_with is_message j (filter (λ d. not (is_message k d.0) || is_due_after e d.1) ds) ≡ letters_with is_message j ds
due-other e j k [] ne = refl
due-other e j k (d ∷ ds) ne = by_tests (is_message k d.0) (is_due_after e d.1) (is_message j d.0) refl refl refl (due-other e j k ds ne)
  where
    by_tests : (b c a : Bool) → is_message k d.0 ≡ b → is_due_after e d.1 ≡ c → is_message j d.0 ≡ a
        → letters_with is_message j (filter (λ d. not (is_message k d.0) || is_due_after e d.1) ds) ≡ letters_with is_message j ds
        → letters_with is_message j (filter (λ d. not (is_message k d.0) || is_due_after e d.1) (d ∷ ds)) ≡ letters_with is_message j (d ∷ ds)
    by_tests true c true own stays mine later = absurd (ne (message_tells j d.0 mine ∙ sym (message_tells k d.0 own)))
    by_tests true true false own stays mine later = rw (own, stays, mine) later
    by_tests true false false own stays mine later = rw (own, stays, mine) later
    by_tests false c a own stays mine later = rw own (ap (λ ls. cond (is_message j d.0) (d.1 ∷ ls) ls) later)

-- ---- the letters of its message, and of all others
pub begun_own : (k : Message) (o : Option Instr) (s : ℕ) (ls : List Letter) (bs : Tagged Message)
    → letters_with is_message k (begun_after k o s ls bs)
    ≡ (if settles o s then [] else (if is_early o s then letters_with is_message k bs ++ ls else letters_with is_message k bs))
begun_own k o s ls bs = by_tests (settles o s) (is_early o s)
  where
    by_tests : (b c : Bool) → letters_with is_message k (if b then without_key is_message k bs else (if c then bs ++ tagged k ls else bs))
        ≡ (if b then [] else (if c then letters_with is_message k bs ++ ls else letters_with is_message k bs))
    by_tests true c = gone k bs
    by_tests false true = added k ls bs
    by_tests false false = refl

pub begun_other : (j k : Message) (o : Option Instr) (s : ℕ) (ls : List Letter) (bs : Tagged Message) → j ≢ k
    → letters_with is_message j (begun_after k o s ls bs) ≡ letters_with is_message j bs
begun_other j k o s ls bs ne = by_tests (settles o s) (is_early o s)
  where
    by_tests : (b c : Bool) → letters_with is_message j (if b then without_key is_message k bs else (if c then bs ++ tagged k ls else bs)) ≡ letters_with is_message j bs
    by_tests true c = gone-other j k bs ne
    by_tests false true = added-other j k ls bs ne
    by_tests false false = refl

pub pending_own : (k : Message) (o : Option Instr) (s : ℕ) (cs : List Letter) (row : Option Row) (qs : Tagged Message)
    → letters_with is_message k (pending_after k o s cs row qs)
    ≡ (if settles o s then letters_with is_message k qs ++ cs else due_letters row (letters_with is_message k qs))
pending_own k o s cs row qs = by_test (settles o s) row
  where
    by_test : (b : Bool) (row : Option Row) → letters_with is_message k (if b then qs ++ tagged k cs else due_after k row qs)
        ≡ (if b then letters_with is_message k qs ++ cs else due_letters row (letters_with is_message k qs))
    by_test true row = added k cs qs
    by_test false None = refl
    by_test false (Some w) = due w.event k qs

pub pending_other : (j k : Message) (o : Option Instr) (s : ℕ) (cs : List Letter) (row : Option Row) (qs : Tagged Message) → j ≢ k
    → letters_with is_message j (pending_after k o s cs row qs) ≡ letters_with is_message j qs
pending_other j k o s cs row qs ne = by_test (settles o s) row
  where
    by_test : (b : Bool) (row : Option Row) → letters_with is_message j (if b then qs ++ tagged k cs else due_after k row qs) ≡ letters_with is_message j qs
    by_test true row = added-other j k cs qs ne
    by_test false None = refl
    by_test false (Some w) = due-other w.event j k qs ne
