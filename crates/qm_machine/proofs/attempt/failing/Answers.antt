use Rattle.std.proofs.Common.{[], ◌∷◌}
use Rattle.qm_proto.specs.declared.Check.TheVariants.{Possible, Zero, Equal}
use Rattle.qm_proto.specs.declared.Cause.TheVariants as cause
use Rattle.qm_machine.specs.Views.{facts}
use Rattle.qm_machine.proofs.Passing.{passes_possible, stops_possible, passes_zero, stops_zero, passes_equal, stops_equal, asked_by}
use Rattle.qm_machine.proofs.attempt.failing.Goals as goal

pub can_be-requires-clause-live : goal.can_be-requires-clause-live
can_be-requires-clause-live g c =
    let placed = rw c.in-Possible.is at c.requires.may in
    rw c.amps.ensures ((c.requires.sound.live c.in-Possible.w).1 placed)

pub returns-in-Possible : goal.returns-in-Possible
returns-in-Possible g c =
    let f = facts g.A.Amps.store c.args.body.now in
    let w = c.in-Possible.w in
    let m = c.in-Possible.m in
    let yes = rw c.amps.ensures at c.can_be.ensures.yes in
    let no = rw c.amps.ensures at c.can_be.ensures.no in
    rw c.in-Possible.is
    (asked_by f (Possible w m ∷ []) c.can_be.result cause.Impossible c.unless.result c.unless.ensures.yes c.unless.ensures.no
    (λ e. passes_possible f w m (yes e)) (λ e. stops_possible f w m (no e)))

pub always_zero-requires-clause-live : goal.always_zero-requires-clause-live
always_zero-requires-clause-live g c =
    let placed = rw c.in-Zero.is at c.requires.may in
    rw c.amps-in-Zero.ensures ((c.requires.sound.live c.in-Zero.w).1 placed)

pub returns-in-Zero : goal.returns-in-Zero
returns-in-Zero g c =
    let f = facts g.A.Amps.store c.args.body.now in
    let w = c.in-Zero.w in
    let yes = rw c.amps-in-Zero.ensures at c.always_zero.ensures.yes in
    let no = rw c.amps-in-Zero.ensures at c.always_zero.ensures.no in
    rw c.in-Zero.is
    (asked_by f (Zero w ∷ []) c.always_zero.result cause.NotZero c.unless-in-Zero.result c.unless-in-Zero.ensures.yes c.unless-in-Zero.ensures.no
    (λ e. passes_zero f w (yes e)) (λ e. stops_zero f w (no e)))

pub always_equal-requires-clause-live : goal.always_equal-requires-clause-live
always_equal-requires-clause-live g c =
    let two = rw c.in-Equal.is at c.requires.may in
    rw c.amps-in-Equal.ensures ((c.requires.sound.live c.in-Equal.w).1 two.first, (c.requires.sound.live c.in-Equal.v).1 two.second)

pub returns-in-Equal : goal.returns-in-Equal
returns-in-Equal g c =
    let f = facts g.A.Amps.store c.args.body.now in
    let w = c.in-Equal.w in
    let v = c.in-Equal.v in
    let yes = rw c.amps-in-Equal.ensures at c.always_equal.ensures.yes in
    let no = rw c.amps-in-Equal.ensures at c.always_equal.ensures.no in
    rw c.in-Equal.is
    (asked_by f (Equal w v ∷ []) c.always_equal.result cause.NotEqual c.unless-in-Equal.result c.unless-in-Equal.ensures.yes c.unless-in-Equal.ensures.no
    (λ e. passes_equal f w v (yes e)) (λ e. stops_equal f w v (no e)))
