use Rattle.qm_print.proofs.state.add_head.Goals as goal

pub returns : goal.returns
returns g c = rw (c.from.ensures) at c.put_all.ensures
