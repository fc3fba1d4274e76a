use Rattle.qm_print.proofs.fault.add_tape_refused.Goals as goal

pub returns : goal.returns
returns g c = rw (c.from.ensures, c.tape_name.ensures, c.from-2.ensures, c.from-3.ensures) at c.put_all.ensures
