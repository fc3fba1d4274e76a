use Rattle.std.proofs.Common.{◌≡◌, cond, true, arith, sym, ap, ◌∙◌}
use Rattle.qm_zomega.specs.Numbers.{zero_number}
use Rattle.qm_denot.specs.WireLists.{wires_of}
use Rattle.qm_denot.specs.Places.{index_of, is_within}
use Rattle.qm_zomega.specs.NumberLists.{number_at}
use Rattle.qm_store.specs.Numerators.{items_of}
use Rattle.qm_store.proofs.ScaledAmpsAmps.value.Goals as goal

pub index_at-requires-clause-ones : goal.index_at-requires-clause-ones
index_at-requires-clause-ones c = rw c.deref.ensures.value c.requires.live

pub number-requires : goal.number-requires
number-requires c =
    let s = c.args.self.now in
    omega (arith, s.size, rw c.deref.ensures.value at c.index_at.ensures.below)

pub returns : goal.returns
returns c =
    let s = c.args.self.now in
    let x = wires_of c.args.ones.now in
    let within : is_within x s.live.items ≡ true = rw c.deref.ensures.value at c.index_at.ensures.within in
    let index : c.index_at.result ≡ index_of s.live.items x = rw c.deref.ensures.value at c.index_at.ensures.value in
    c.number.ensures ∙ ap (number_at (items_of s.numerators)) index
    ∙ sym (ap (λ b. cond b (number_at (items_of s.numerators) (index_of s.live.items x)) zero_number) within)
