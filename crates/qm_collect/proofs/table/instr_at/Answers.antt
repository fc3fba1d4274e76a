use Rattle.std.proofs.Common.{◌≡◌, ◌∙◌, sym, [], ◌∷◌}
use Rattle.qm_collect.specs.Table.{line_of}
use Rattle.qm_collect.proofs.Tables.{message_alone, message_after}
use Rattle.qm_collect.proofs.table.instr_at.Goals as goal

pub returns-in-None : goal.returns-in-None
returns-in-None c =
    let none : [] ≡ (line_of c.args.which).own = c.in-None.ensures in
    c.message.ensures
    ∙ sym (message_alone c.args.which c.args.rank c.args.ranks (c.if-rank-root.false ∙ c.root.ensures) c.args.j none)

pub returns-else-j-eq0-2 : goal.returns-else-j-eq0-2
returns-else-j-eq0-2 c =
    let own : c.in-Some.gate ∷ [] ≡ (line_of c.args.which).own = c.in-Some.ensures in
    c.message-else-j-eq0-2.ensures
    ∙ sym (message_after c.args.which c.args.rank c.args.ranks (c.if-rank-root.false ∙ c.root.ensures) c.in-Some.gate c.args.j own c.if-j-eq0-2.false)
