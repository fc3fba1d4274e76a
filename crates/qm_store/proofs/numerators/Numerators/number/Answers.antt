use Rattle.std.proofs.Common.{◌<◌, length, refl, sym, ◌∙◌, arith}
use Rattle.qm_zomega.specs.Numbers.{zero_number}
use Rattle.qm_zomega.proofs.SeenLaws.{seen-here}
use Rattle.qm_denot.proofs.Numerators.{number_read}
use Rattle.qm_kernels.specs.Narrow.{narrow_value}
use Rattle.qm_store.proofs.WidenLaws.{narrow_size, narrow_number}
use Rattle.qm_store.proofs.numerators.Numerators.number.Goals as goal

pub index-requires-else-self : goal.index-requires-else-self
index-requires-else-self c =
    let s = c.args.self.now in
    let size = narrow_size s.wide.items s.is_wide s.narrow.items c.if-self.false in
    omega (arith, c.requires, size)

pub returns-then-self : goal.returns-then-self
returns-then-self c =
    let s = c.args.self.now in
    let below : c.args.index < length s.wide.items = rw c.if-self.true at c.requires in
    rw c.if-self.true (number_read s.wide.items c.args.index c.args.index c.index.result.now refl below c.index.ensures)

pub returns-else-self : goal.returns-else-self
returns-else-self c =
    let s = c.args.self.now in
    let size = narrow_size s.wide.items s.is_wide s.narrow.items c.if-self.false in
    let below : c.args.index < length s.narrow.items = omega (arith, c.requires, size) in
    c.widened.ensures
    ∙ sym (seen-here narrow_value zero_number s.narrow.items c.args.index c.index-else-self.result.now below c.index-else-self.ensures)
    ∙ sym (narrow_number s.wide.items s.is_wide s.narrow.items c.args.index c.if-self.false)
