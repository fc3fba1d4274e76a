use Rattle.std.proofs.Common.{◌≡◌, refl, arith, ◌∙◌}
use Rattle.qm_denot.specs.declared.Letter.TheVariants.{Phase}
use Rattle.qm_denot.specs.Wires.{Wires}
use Rattle.qm_denot.specs.Circuits.{with_letter}
use Rattle.qm_denot.specs.ListStores.{listed_value}
use Rattle.qm_denot.proofs.PlaceBounds.{size_small, size_fits}
use Rattle.qm_denot.proofs.KeepingLaws.{phase_value, phase_before, keeps_turned, does_turned}
use Rattle.qm_denot.proofs.plain.PlainAmps.phase.Goals as goal
use Rattle.qm_denot.proofs.plain.PlainAmps.phase.Goals.{After-rewrite}

pub rewrite-requires-clause-small : goal.rewrite-requires-clause-small
rewrite-requires-clause-small c = let s = c.args.self.now in size_small _ _ _ s.size s.few s.small

pub rewrite-requires-clause-room : goal.rewrite-requires-clause-room
rewrite-requires-clause-room c = let s = c.args.self.now in size_fits _ _ _ _ s.size s.few s.spare_room

-- the values after the letter
values : (c : After-rewrite) (x : Wires)
    → listed_value c.args.self.now.live.items c.rewrite.new.numerators.items x ≡ with_letter (Phase c.args.k c.args.w) (listed_value c.args.self.now.live.items c.args.self.now.numerators.items) x
values c =
    let s = c.args.self.now in
    phase_value s.live.items s.numerators.items c.rewrite.new.numerators.items s.kept.distinct s.size c.args.k c.place_of-place.result c.args.w (rw c.deref.ensures.value at c.place_of-place.ensures.first)
    c.rewrite.ensures.rewritten

pub invariant_of-self : goal.invariant_of-self
invariant_of-self c =
    let s = c.args.self.now in
    let size = c.rewrite.ensures.rewritten.size ∙ s.size in
    record {
      small = s.small;
      few = s.few;
      live_room = s.live_room;
      size = size;
      room = omega (arith, c.rewrite.ensures.room, s.spare_room);
      spare_room = omega (arith, c.rewrite.ensures.spare_room, s.room);
      kept = keeps_turned (Phase c.args.k c.args.w) s.live.items s.exponent s.numerators.items c.rewrite.new.numerators.items size s.kept
          (values (goal.at.invariant_of-self c).After-rewrite) (phase_before c.args.k c.args.w);
    }

pub returns : goal.returns
returns c =
    let s = c.args.self.now in
    does_turned (Phase c.args.k c.args.w) s.live.items s.exponent s.numerators.items c.rewrite.new.numerators.items (c.rewrite.ensures.rewritten.size ∙ s.size) s.kept
    (values (goal.at.returns c).After-rewrite) (phase_before c.args.k c.args.w) s.capacity (omega arith) refl
