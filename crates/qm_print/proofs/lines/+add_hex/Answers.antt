use Rattle.std.proofs.Common.{◌<◌, arith}
use Rattle.qm_print.proofs.BitsLemmas.{hex_text-last}
use Rattle.qm_print.proofs.GatherLemmas.{Added-gathers, Gathers-stop, Stopped-more}
use Rattle.qm_print.proofs.lines.+add_hex.Goals as goal

pub returns-in_err-add_hex : goal.returns-in_err-add_hex
returns-in_err-add_hex g t c =
    let some : 0 < c.args.digits = omega arith in
    rw (← hex_text-last c.args.digits c.args.number some) (Gathers-stop _ _ _ _ _ _ _ c.from_residual.ensures.1 (Stopped-more _ _ _ _ _ c.in_err-add_hex.ensures))

pub returns : goal.returns
returns g t c =
    let some : 0 < c.args.digits = omega arith in
    rw (← hex_text-last c.args.digits c.args.number some) (Added-gathers _ _ _ _ _ _ _ _ _ c.in_ok-add_hex.ensures (rw c.hex_digit.ensures at c.put.ensures))
