use Rattle.qm_print.proofs.check.add_check.Goals as goal

pub returns : goal.returns
returns g c =
    rw (
      c.from.ensures,
      c.ranks.ensures.value,
      c.from-2.ensures,
      c.capacity.ensures,
      c.from-3.ensures,
      c.instruction_total.ensures,
      c.events.ensures,
      c.own_total.ensures,
      c.protocol_total.ensures,
      c.yes_or_no.ensures,
      c.input-input.ensures.value,
    ) at c.put_all.ensures
