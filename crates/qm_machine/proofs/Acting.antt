-- Acts that are never refused
use Rattle.std.proofs.Common.{◌≡◌, true, ◌&&◌, refl}
use Rattle.std.proofs.lemmas.Bool.{and_parts}
use Rattle.qm_denot.specs.declared.Letter.TheVariants.{Had}
use Rattle.qm_proto.specs.declared.Act.{Act}
use Rattle.qm_proto.specs.declared.Act.TheVariants.{Twin, Apply}
use Rattle.qm_machine.specs.Tries.{is_sure, is_quiet}

pub quiet_sure : (a : Act) → is_quiet a ≡ true → is_sure a ≡ true
quiet_sure (Apply (Had w)) e = e
quiet_sure (Twin to) e = refl
quiet_sure _ e = refl

pub three_sure : (a b c : Act) → (is_sure a && (is_quiet b && is_quiet c)) ≡ true → (is_sure a ≡ true) × (is_quiet b ≡ true) × (is_quiet c ≡ true)
three_sure a b c e =
    let h = and_parts (is_sure a) (is_quiet b && is_quiet c) e in
    let k = and_parts (is_quiet b) (is_quiet c) h.1 in
    (h.0, k.0, k.1)
