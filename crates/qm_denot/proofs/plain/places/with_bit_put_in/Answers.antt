use Rattle.std.proofs.Common.{◌≡◌, Bool, true, false, refl, sym, ◌∙◌}
use mir.Val.{bool_byte}
use Rattle.qm_denot.specs.Places.{bit_of}
use Rattle.qm_denot.proofs.InsertLaws.{insert_place-closed}
use Rattle.qm_denot.proofs.plain.places.with_bit_put_in.Goals as goal

bool_byte-bit : (b : Bool) → bool_byte b ≡ bit_of b
bool_byte-bit true = refl
bool_byte-bit false = refl

pub returns : goal.returns
returns c =
    let low = c.power.ensures.value in
    let high = c.power-2.ensures.value in
    let size = c.power-3.ensures.value in
    let bit = c.from.ensures ∙ bool_byte-bit c.args.bit in
    rw (low, high, size, bit) (sym (insert_place-closed c.args.place c.args.bit c.args.k))
