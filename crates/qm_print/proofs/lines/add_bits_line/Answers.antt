use Rattle.std.proofs.Common.{◌++◌, codes, decimal}
use Rattle.qm_print.specs.Bits.{hex_text}
use Rattle.qm_print.proofs.GatherLemmas.{Added-gathers, Added-join, Gathers-stop, Stopped-more, Stopped-next}
use Rattle.qm_print.proofs.lines.add_bits_line.Goals as goal

pub returns-in_err-put_all : goal.returns-in_err-put_all
returns-in_err-put_all g c =
    Gathers-stop _ _ _ _ _ _ _ c.from_residual.ensures.1
    (Stopped-more _ _ _ (codes "bits " ++ decimal c.args.rank ++ codes " " ++ hex_text 8 c.args.bits) (codes "\n") (Stopped-more _ _ _ (codes "bits " ++ decimal c.args.rank ++ codes " ") (hex_text 8 c.args.bits) (rw c.from.ensures at c.in_err-put_all.ensures)))

pub returns-in_err-add_hex : goal.returns-in_err-add_hex
returns-in_err-add_hex g c =
    Gathers-stop _ _ _ _ _ _ _ c.from_residual-in_err-add_hex.ensures.1
    (Stopped-more _ _ _ (codes "bits " ++ decimal c.args.rank ++ codes " " ++ hex_text 8 c.args.bits) (codes "\n") (Stopped-next _ _ _ _ _ (codes "bits " ++ decimal c.args.rank ++ codes " ") (hex_text 8 c.args.bits) (rw c.from.ensures at c.in_ok-put_all.ensures) c.in_err-add_hex.ensures))

pub returns : goal.returns
returns g c =
    Added-gathers _ _ _ _ _ _ (codes "bits " ++ decimal c.args.rank ++ codes " " ++ hex_text 8 c.args.bits) (codes "\n") _
    (Added-join _ _ _ _ _ _ (codes "bits " ++ decimal c.args.rank ++ codes " ") (hex_text 8 c.args.bits) (rw c.from.ensures at c.in_ok-put_all.ensures) c.in_ok-add_hex.ensures)
    c.put.ensures
