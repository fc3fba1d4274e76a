use Rattle.std.proofs.Common.{◌≡◌, ◌%◌, ℕ, Bool, length, sym, subst}
use Rattle.qm_denot.specs.Stores.{Store}
use Rattle.qm_instr.specs.Programs.{Programs}
use Rattle.qm_proto.specs.Model.Orders.{Words, start_of}
use Rattle.qm_machine.specs.Keeps.{MachineView}
use Rattle.qm_seed.specs.Seeds.{seed_words, words_of}
use Rattle.qm_ranks.specs.Plays.{Turns}
use Rattle.qm_ranks.proofs.Playing.{PlaysSoFar, nothing_played, fewer_left, still_played, all_played}
use Rattle.qm_ranks.proofs.play_seed.Goals as goal

-- a turn by the word that is drawn is one by the first of the words that are left
by_word : {A : Type 0} (store : A → Store) (m n : MachineView A) (p : Programs) (left : Words) (word : ℕ) (went : Bool) → m.programs ≡ p → word ≡ left 0
    → Turns store m (word % length m.programs.ranks) n went → Turns store m (start_of p left) n went
by_word store m n p left word went same drawn turns =
    subst (λ (q : Programs). Turns store m (left 0 % length q.ranks) n went) same
    (subst (λ k. Turns store m (k % length m.programs.ranks) n went) drawn turns)

pub loop-words-init : goal.loop-words-init
loop-words-init g c =
    let old = c.args.machine.now in
    subst (λ (w : Words). PlaysSoFar g.A.Amps.store old old (seed_words c.args.seed) w) (sym c.start-words.ensures) (nothing_played g.A.Amps.store old (seed_words c.args.seed))

pub loop-words-preserved : goal.loop-words-preserved
loop-words-preserved g c =
    let old = c.args.machine.now in
    let left = words_of c.loop-words.words in
    let turned = by_word g.A.Amps.store c.loop-words.machine c.turn.new.machine old.programs left c.draw.result _ c.loop-words.invariant.programs c.draw.ensures.word c.turn.ensures in
    subst (λ (w : Words). PlaysSoFar g.A.Amps.store old c.turn.new.machine (seed_words c.args.seed) w) (sym c.draw.ensures.left)
    (still_played g.A.Amps.store old c.loop-words.machine c.turn.new.machine (seed_words c.args.seed) left c.loop-words.invariant _ turned c.loop-words-test.true)

pub loop-words-smaller : goal.loop-words-smaller
loop-words-smaller g c = fewer_left g.A.Amps.store c.loop-words.machine c.turn.new.machine _ _ c.turn.ensures c.loop-words-test.true

pub returns : goal.returns
returns g c =
    let old = c.args.machine.now in
    let left = words_of c.loop-words.words in
    let turned = by_word g.A.Amps.store c.loop-words.machine c.turn.new.machine old.programs left c.draw.result _ c.loop-words.invariant.programs c.draw.ensures.word c.turn.ensures in
    all_played g.A.Amps.store old c.loop-words.machine c.turn.new.machine (seed_words c.args.seed) left c.loop-words.invariant _ turned c.loop-words-test.false
