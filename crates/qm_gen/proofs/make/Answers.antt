use Rattle.std.proofs.Common.{◌≡◌, ◌++◌, subst, sym}
use Rattle.std.specs.Prelude.{true, false}
use Rattle.qm_seed.specs.Seeds.{Words, words_of, seed_words}
use Rattle.qm_gen.specs.Sizes.{ranks_of}
use Rattle.qm_gen.specs.Made.{numbers, tapes_of, program_lines, lines_text, drawn_lines, tapes}
use Rattle.qm_gen.specs.Laws.{IsReadyText}
use Rattle.qm_gen.proofs.MadeReads.{made-ready}
use Rattle.qm_gen.proofs.DrawnLemmas.{all_written}
use Rattle.qm_gen.proofs.make.Goals as goal

-- the text that is written
pub returns-clause-text : goal.returns-clause-text
returns-clause-text c =
    let ranks = numbers 0 (ranks_of c.args.kind c.args.size) in
    let all =
    all_written _ _ _ (program_lines c.args.kind c.args.size) (tapes_of c.args.kind c.args.size true ranks) (tapes_of c.args.kind c.args.size false ranks) (words_of c.push_tapes.new.words) (words_of c.start-words.result)
    (rw c.new-text.ensures.items at c.in_ok-push_program.ensures) c.in_ok-push_tapes.ensures.lines c.in_ok-push_tapes-2.ensures.lines c.in_ok-push_tapes.ensures.drawn
    in
    subst (λ (w : Words). c.push_tapes-2.new.text.items ≡ lines_text (program_lines c.args.kind c.args.size ++ drawn_lines (tapes c.args.kind c.args.size) w)) c.start-words.ensures all

-- it is ready, as each made text is
pub returns-clause-ready : goal.returns-clause-ready
returns-clause-ready c = subst IsReadyText (sym (returns-clause-text c)) (made-ready c.args.kind c.args.size (seed_words c.args.number) c.requires)
