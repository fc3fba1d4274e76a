use Rattle.qm_print.proofs.fault.add_lane_refused.Goals as goal

pub returns : goal.returns
returns g c = rw (c.from.ensures, c.from-2.ensures, c.kind_name.ensures, c.from-3.ensures, c.from-4.ensures, c.from-5.ensures) at c.put_all.ensures
