use Rattle.std.proofs.Common.{◌≡◌, ◌≤◌, ◌^◌, ◌++◌, ◌∷◌, [], suc, length, arith, ap, length-append}
use Rattle.std.proofs.Math.Nat.{pow-suc}
use Rattle.std.proofs.Math.Pow.{pow_mono}
use Rattle.qm_denot.proofs.PlaceBounds.{size_small}
use Rattle.qm_denot.proofs.Numerators.{items-pushed}
use Rattle.qm_denot.proofs.FreshLaws.{stands_fresh, size_fresh, keeps_fresh}
use Rattle.qm_store.specs.Numerators.{items_of}
use Rattle.qm_store.proofs.ScaledAmpsAmps.fresh.Goals as goal
use Rattle.qm_store.proofs.ScaledAmpsAmps.fresh.Goals.{After-push}

pub double-requires-clause-small : goal.double-requires-clause-small
double-requires-clause-small c = let s = c.args.self.now in size_small _ _ _ s.size s.few s.small

pub double-requires-clause-room : goal.double-requires-clause-room
double-requires-clause-room c =
    let s = c.args.self.now in
    let p : 2 ^ suc (length s.live.items) ≤ 2 ^ s.capacity = pow_mono c.requires.room in
    omega (arith, s.size, s.room, pow-suc 2 (length s.live.items))

pushed : (c : After-push) → c.push.new.self.items ≡ c.args.self.now.live.items ++ c.args.w ∷ []
pushed c =
    let s = c.args.self.now in
    items-pushed _ s.live.items c.push.new.self.items c.args.w c.push.ensures.items (c.push.ensures.succeeds (omega (arith, c.requires.room, s.live_room, s.live.ok.0)))

pub invariant_of-self : goal.invariant_of-self
invariant_of-self c =
    let s = c.args.self.now in
    let live = pushed (goal.at.invariant_of-self c).After-push in
    record {
      small = s.small;
      few = omega (arith, c.requires.room, ap length live, length-append s.live.items (c.args.w ∷ []));
      live_room = omega (arith, c.push.ensures.capacity, s.live_room);
      size = rw live (size_fresh s.live.items c.args.w (items_of s.numerators) (items_of c.double.new.self) s.exponent s.kept s.size c.requires.absent c.double.ensures.size c.double.ensures.numbers);
      room = omega (arith, c.double.ensures.room, s.room);
      kept = rw live (keeps_fresh s.live.items c.args.w (items_of s.numerators) (items_of c.double.new.self) s.exponent s.kept s.size c.requires.absent c.double.ensures.size c.double.ensures.numbers);
    }

pub returns-clause-stands : goal.returns-clause-stands
returns-clause-stands c =
    let s = c.args.self.now in
    rw (pushed (goal.at.returns-clause-stands c).After-push)
    (stands_fresh s.live.items c.args.w (items_of s.numerators) (items_of c.double.new.self) s.exponent s.kept s.size c.requires.absent c.double.ensures.size c.double.ensures.numbers s.capacity)
