use Rattle.qm_print.proofs.lines.+add_hex.Given as goal

abbrev pub decreases-add_hex : goal.decreases-add_hex
decreases-add_hex g l = l.digits
