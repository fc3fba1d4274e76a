use Rattle.std.proofs.Common.{◌≡◌, ◌<◌, cond, true, length, arith, sym, ap, ◌∙◌}
use Rattle.qm_zomega.specs.Numbers.{zero_number}
use Rattle.qm_denot.specs.WireLists.{wires_of}
use Rattle.qm_denot.specs.Places.{index_of, is_within}
use Rattle.qm_zomega.specs.NumberLists.{number_at}
use Rattle.qm_denot.proofs.Numerators.{number_read}
use Rattle.qm_denot.proofs.plain.PlainAmpsAmps.value.Goals as goal

pub index_at-requires-clause-ones : goal.index_at-requires-clause-ones
index_at-requires-clause-ones c = rw c.deref.ensures.value c.requires.live

pub returns : goal.returns
returns c =
    let s = c.args.self.now in
    let x = wires_of c.args.ones.now in
    let within : is_within x s.live.items ≡ true = rw c.deref.ensures.value at c.index_at.ensures.within in
    let index : c.index_at.result ≡ index_of s.live.items x = rw c.deref.ensures.value at c.index_at.ensures.value in
    let below : c.index_at.result < length s.numerators.items = omega (arith, s.size, rw c.deref.ensures.value at c.index_at.ensures.below) in
    number_read s.numerators.items c.index_at.result (index_of s.live.items x) c.index.result.now index below c.index.ensures
    ∙ sym (ap (λ b. cond b (number_at s.numerators.items (index_of s.live.items x)) zero_number) within)
