use Rattle.std.proofs.Common.{◌+◌, ◌∙◌, [], ◌∷◌, ◌++◌, sym, ap}
use Rattle.std.specs.Prelude.{Some}
use Rattle.qm_lock.proofs.Making.{opens_at}
use Rattle.qm_lock.proofs.desk.Desk.start.Goals as goal

pub new-requires : goal.new-requires
new-requires g c =
    opens_at g.V.Turned.opening g.V.Turned.turns c.args.value _ c.of-about.ensures _
    (c.push_reserved.ensures.items ∙ ap (λ l. l ++ Some c.args.value ∷ []) c.in_ok-slots.ensures.items) c.requires.empty

pub returns-clause-passes : goal.returns-clause-passes
returns-clause-passes g c = λ k p e. let m = c.split_all-passes.ensures.passes k p e in record {
  pass = record { table = m.table; start = m.start_is; first = λ last. c.split_all-passes.ensures.last k p e (ap (λ t. t.number + 1) (sym m.new) ∙ last) };
  free = m.free;
  number = ap (λ t. t.number) m.new;
}

pub returns-clause-new : goal.returns-clause-new
returns-clause-new g c = λ k p e. let m = c.split_all-passes.ensures.passes k p e in (ap (λ t. t.count) m.new, ap (λ t. t.seen) m.new)
