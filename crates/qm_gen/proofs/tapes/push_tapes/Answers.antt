use Rattle.std.proofs.Common.{◌≡◌, ℕ, suc, ◌-◌, ◌+◌, ◌++◌, arith, subst}
use Rattle.qm_seed.specs.Seeds.{words_of}
use Rattle.qm_gen.specs.Sizes.{ranks_of}
use Rattle.qm_gen.specs.Made.{tapes_of, numbers, lines_text, drawn_lines, words_left}
use Rattle.qm_gen.proofs.DrawnLemmas.{DrawsTapes, tapes-next}
use Rattle.qm_gen.proofs.tapes.push_tapes.Goals as goal

pub loop-rank-preserved : goal.loop-rank-preserved
loop-rank-preserved c =
    let ranks = ranks_of c.args.kind c.args.size in
    let ts = λ (k : ℕ). tapes_of c.args.kind c.args.size c.args.own (numbers c.loop-rank.rank k) in
    let all = tapes_of c.args.kind c.args.size c.args.own (numbers 0 ranks) in
    let whole = c.args.text.now.items ++ lines_text (drawn_lines all (words_of c.args.words.now)) in
    let left = words_left all (words_of c.args.words.now) in
    let one : ranks - c.loop-rank.rank ≡ suc (ranks - (c.loop-rank.rank + 1)) = omega (arith, c.rank_count-rank-end.ensures, c.loop-rank-test.true) in
    let was = subst (λ (k : ℕ). DrawsTapes c.loop-rank.text.items (words_of c.loop-rank.words) (ts k) whole left) one c.loop-rank.invariant in
    tapes-next _ _ (words_of c.loop-rank.words) _ _ (tapes_of c.args.kind c.args.size c.args.own (numbers (c.loop-rank.rank + 1) (ranks - (c.loop-rank.rank + 1)))) whole left was
    (rw (← c.tape_len-len.ensures) c.in_ok-push_tape.ensures.lines) (rw (← c.tape_len-len.ensures) c.in_ok-push_tape.ensures.drawn)
