use Rattle.qm_print.proofs.fault.add_stopped.Goals as goal

pub returns : goal.returns
returns g c = rw (c.from.ensures, c.cause_name.ensures) at c.put_all.ensures
