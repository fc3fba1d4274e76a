use Rattle.std.proofs.Common.{◌≡◌, ◌≤◌, ◌^◌, ◌+◌, ◌++◌, ◌∷◌, [], length, length-append, append_assoc, arith, ap, ◌∙◌}
use Rattle.std.proofs.Math.Pow.{pow_mono}
use Rattle.std.specs.Vec.{with_items}
use Rattle.std.proofs.lemmas.List.{with_items_is}
use Rattle.std.proofs.lemmas.Nat.{pow-add}
use Rattle.qm_denot.specs.declared.plain.rules.Rule.TheVariants.{Pair}
use Rattle.qm_denot.specs.Plain.{IsRewritten}
use Rattle.qm_denot.proofs.Numerators.{items-pushed}
use Rattle.qm_denot.proofs.PlaceBounds.{size_small}
use Rattle.qm_denot.proofs.PairLaws.{size_paired, keeps_paired, does_paired}
use Rattle.qm_denot.proofs.plain.PlainAmps.pair.Goals as goal
use Rattle.qm_denot.proofs.plain.PlainAmps.pair.Goals.{After-rewrite, After-push-2, After-reduce-self}

pub rewrite-requires-clause-small : goal.rewrite-requires-clause-small
rewrite-requires-clause-small c = let s = c.args.self.now in size_small _ _ _ s.size s.few s.small

pub rewrite-requires-clause-room : goal.rewrite-requires-clause-room
rewrite-requires-clause-room c =
    let s = c.args.self.now in
    let few : 2 ^ (length s.live.items + 2) ≤ 2 ^ s.capacity = pow_mono c.requires.may.3 in
    omega (arith, s.size, s.spare_room, pow-add 2 (length s.live.items) 2)

-- the list of live wires after the two pushes
pushed : (c : After-push-2) → c.push-2.new.self.items ≡ c.args.self.now.live.items ++ c.args.a ∷ c.args.b ∷ []
pushed c =
    let s = c.args.self.now in
    let once : c.push.new.self.items ≡ s.live.items ++ c.args.a ∷ [] =
    items-pushed _ s.live.items c.push.new.self.items c.args.a c.push.ensures.items (c.push.ensures.succeeds (omega (arith, c.requires.may.3, s.live_room, s.live.ok.0))) in
    let twice : c.push-2.new.self.items ≡ c.push.new.self.items ++ c.args.b ∷ [] =
    items-pushed _ c.push.new.self.items c.push-2.new.self.items c.args.b c.push-2.ensures.items
    (c.push-2.ensures.succeeds (omega (arith, c.requires.may.3, s.live_room, c.push.ensures.capacity, c.push.new.self.ok.0, ap length once, length-append s.live.items (c.args.a ∷ [])))) in
    twice ∙ ap (λ ws. ws ++ c.args.b ∷ []) once ∙ append_assoc s.live.items (c.args.a ∷ []) (c.args.b ∷ [])

-- the rule counts the live wires
rewritten : (c : After-rewrite) → IsRewritten (Pair (length c.args.self.now.live.items)) c.args.self.now.numerators.items c.rewrite.new.numerators.items
rewritten c =
    let s = c.args.self.now in
    let count : c.len-count.result ≡ length s.live.items = c.len-count.ensures ∙ s.live.ok.0 in
    rw (← count) c.rewrite.ensures.rewritten

-- the vector that `reduce` left
reduced : (c : After-reduce-self) → (with_items c.rewrite.new.numerators c.reduce-self.new.numerators).items ≡ c.reduce-self.new.numerators
reduced c = with_items_is c.rewrite.new.numerators c.reduce-self.new.numerators (c.reduce-self.ensures.size ∙ c.deref_mut.ensures.len)

pub returns : goal.returns
returns c =
    let s = c.args.self.now in
    let at = goal.at.returns c in
    rw (reduced at.After-reduce-self, pushed at.After-push-2)
    (does_paired s.live.items c.args.a c.args.b s.exponent c.reduce-self.result s.numerators.items c.rewrite.new.numerators.items c.reduce-self.new.numerators
    s.kept s.size c.requires.may.0 c.requires.may.1 c.requires.may.2 (rewritten at.After-rewrite) (rw c.deref_mut.ensures.value at c.reduce-self.ensures) s.capacity)

pub invariant_of-self : goal.invariant_of-self
invariant_of-self c =
    let s = c.args.self.now in
    let at = goal.at.invariant_of-self c in
    let is = reduced at.After-reduce-self in
    let live = pushed at.After-push-2 in
    let reduces = rw c.deref_mut.ensures.value at c.reduce-self.ensures in
    record {
      small = s.small;
      few = omega (arith, c.requires.may.3, ap length live, length-append s.live.items (c.args.a ∷ c.args.b ∷ []));
      live_room = omega (arith, c.push.ensures.capacity, c.push-2.ensures.capacity, s.live_room);
      size = rw (is, live)
          (size_paired s.live.items c.args.a c.args.b s.exponent c.reduce-self.result s.numerators.items c.rewrite.new.numerators.items c.reduce-self.new.numerators
          s.kept s.size c.requires.may.0 c.requires.may.1 c.requires.may.2 (rewritten at.After-rewrite) reduces);
      room = omega (arith, c.rewrite.ensures.room, s.spare_room);
      spare_room = omega (arith, c.rewrite.ensures.spare_room, s.room);
      kept = rw (is, live)
          (keeps_paired s.live.items c.args.a c.args.b s.exponent c.reduce-self.result s.numerators.items c.rewrite.new.numerators.items c.reduce-self.new.numerators
          s.kept s.size c.requires.may.0 c.requires.may.1 c.requires.may.2 (rewritten at.After-rewrite) reduces);
    }
