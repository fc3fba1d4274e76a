use Rattle.std.proofs.Common.{◌≡◌, ◌≤◌, ◌+◌, ◌∙◌, Bool, true, false, cond, ap, refl, arith}
use Rattle.std.specs.Int.{from_bool}
use Rattle.qm_denot.specs.Stores.{Store}
use Rattle.qm_machine.specs.Facts.{Facts, is_pauli}
use Rattle.qm_machine.specs.Views.{facts, tables}
use Rattle.qm_machine.proofs.Squares.{may_apply, did_letter}
use Rattle.qm_machine.proofs.body.Body.letter.Goals as goal

one_or_none : (b : Bool) → from_bool b ≡ cond b 1 0
one_or_none true = refl
one_or_none false = refl

at_most_one : (b : Bool) → cond b 1 0 ≤ 1
at_most_one true = omega arith
at_most_one false = omega arith

pub apply-requires-clause-may : goal.apply-requires-clause-may
unfolding tables
apply-requires-clause-may g c = may_apply _ c.args.rank c.args.letter c.requires.can.sound c.requires.grow c.requires.can.may.0.0

pub overflow_add-self : goal.overflow_add-self
unfolding tables
overflow_add-self g c = let h = c.requires.can.may.0.1 in omega arith

pub overflow_add-self-in-Ok : goal.overflow_add-self-in-Ok
unfolding tables
overflow_add-self-in-Ok g c =
    let h = c.requires.can.may.0.1 in
    let fewer = c.requires.can.sound.fewer in
    let e : c.from.result ≡ cond c.is_pauli.result 1 0 = c.from.ensures ∙ one_or_none c.is_pauli.result in
    let one = at_most_one c.is_pauli.result in
    omega arith

pub returns-in-Ok-clause-ok : goal.returns-in-Ok-clause-ok
unfolding tables
returns-in-Ok-clause-ok g c =
    let counted : cond c.is_pauli.result 1 0 ≡ 0 + cond (is_pauli c.args.letter) 1 0 = rw c.is_pauli.ensures (omega arith) in
    did_letter _ _ c.args.rank c.args.letter c.requires.can refl
    (record {
      stands = c.in-Ok.ensures.stands;
      room = c.in-Ok.ensures.capacity;
      placing = c.requires.can.sound.placing;
      slotted = refl;
      capacity = refl;
      sizes = refl;
      parcels = refl;
      ranks = refl;
      letters = refl;
      paulis = ap (λ n. c.args.self.now.paulis + n) (c.from.ensures ∙ one_or_none c.is_pauli.result ∙ counted);
    })
    c.in-Ok.ensures.live

pub returns-in-Ok-clause-overflow : goal.returns-in-Ok-clause-overflow
unfolding tables
returns-in-Ok-clause-overflow g c = c.in-Ok.ensures.overflow

pub returns-in-Err-clause-overflow : goal.returns-in-Err-clause-overflow
unfolding tables
returns-in-Err-clause-overflow g c = c.in-Err.ensures.overflow

pub returns-in-Err-clause-err : goal.returns-in-Err-clause-err
unfolding tables
returns-in-Err-clause-err g c =
    let old = facts g.A.Amps.store c.args.self.now in
    let with : Store → Facts = λ s. record old { store = s } in
    ap with c.in-Err.ensures.unchanged
