use Rattle.std.proofs.Common.{◌+◌, nat_lt, ◌||◌, length, ap, ap₂, ◌∙◌, arith}
use Rattle.std.proofs.lemmas.List.{length-map}
use Rattle.std.proofs.lemmas.List.{get_or-map}
use Rattle.qm_instr.specs.Programs.{RankProgram, idle_rank}
use Rattle.qm_proto.specs.Model.Runs.{halves}
use Rattle.qm_machine.specs.Facts.{size_at}
use Rattle.qm_machine.specs.Views.{tables}
use Rattle.qm_machine.proofs.rules.may_pair.Goals as goal

pub may_pair-requires : goal.may_pair-requires
may_pair-requires c =
    omega (arith, c.requires.known, ap (λ ns. length ns) c.requires.sizes, length-map c.args.input.now.ranks (λ (x : RankProgram). x.buffer))

pub returns : goal.returns
returns c =
    let p = c.args.input.now in
    let t = tables c.args.books.now in
    let to = c.args.lane.to in
    let size = ap (λ ns. size_at ns to) c.requires.sizes ∙ get_or-map (λ (x : RankProgram). x.buffer) p.ranks to idle_rank 0 c.requires.known in
    c.may_pair.ensures ∙ ap₂ (λ n wanted. nat_lt (halves t to + 1) n || wanted) size c.is_wanted.ensures
