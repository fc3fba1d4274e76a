use Rattle.std.proofs.Common.{refl, false, true, ◌≡◌}
use Rattle.qm_machine.specs.Views.{facts}
use Rattle.qm_machine.proofs.Passing.{passes_row, stops_asked, stops_row}
use Rattle.qm_machine.proofs.attempt.attempt.Goals as goal

pub returns-in-Some : goal.returns-in-Some
returns-in-Some g c =
    record { stops = stops_asked (facts g.A.Amps.store c.args.body.now) c.args.row c.requires.can.triable c.in-Some.cause c.in-Some.ensures; same = refl }

pub returns-in-Ok : goal.returns-in-Ok
returns-in-Ok g c = record {
  passes = passes_row (facts g.A.Amps.store c.args.body.now) c.args.row c.requires.can.triable c.in-None.ensures
      (λ o. let e : false ≡ true = c.in-Ok.ensures.overflow.1 o in cc);
  did = c.in-Ok.ensures.ok;
}

pub returns-in-Err : goal.returns-in-Err
returns-in-Err g c = record {
  stops = stops_row (facts g.A.Amps.store c.args.body.now) c.args.row c.requires.can.triable c.in-None.ensures (c.in-Err.ensures.overflow.0 refl);
  same = c.in-Err.ensures.err;
}
