use Rattle.std.proofs.Common.{◌≡◌, ◌+◌, ◌-◌, ◌*◌, ◌<◌, true, get_or, drop, ap, sym, ◌∙◌, arith}
use Rattle.std.proofs.lemmas.List.{at_drop_more}
use Rattle.qm_tool.specs.Commands.{digits_after, if_at_most}
use Rattle.qm_tool.proofs.CommandLemmas.{is_digit, digits_after-digit, if_at_most-large}
use Rattle.qm_tool.proofs.command.number_of.Goals as goal

pub returns-then-number-from-clause-number : goal.returns-then-number-from-clause-number
returns-then-number-from-clause-number c =
    let w = c.args.word.now in
    let i = c.loop-byte.byte-index in
    let n = c.loop-byte.number in
    let b = get_or w i 0 in
    let digit : is_digit b ≡ true = sym c.is_ascii_digit.ensures.value ∙ c.if-not-is_ascii_digit.false in
    let large : c.args.largest < 10 * n + (b - 48) = omega arith in
    sym (c.loop-byte.invariant.left ∙ at_drop_more (λ bs. if_at_most c.args.largest (digits_after n bs)) w i 0 c.loop-byte-test.true ∙ ap (if_at_most c.args.largest) (digits_after-digit n b (drop (i + 1) w) digit) ∙ if_at_most-large c.args.largest (10 * n + (b - 48)) (drop (i + 1) w) large)
