use Rattle.std.proofs.Common.{◌≡◌, ◌≤◌, ◌^◌, ◌+◌, ◌*◌, ◌++◌, ◌∷◌, [], length, length-append, append_assoc, arith, ap, ◌∙◌}
use Rattle.std.proofs.Math.Pow.{pow_mono}
use Rattle.std.proofs.lemmas.Nat.{pow-add}
use Rattle.qm_zomega.specs.Numbers.{zero_number}
use Rattle.qm_zomega.specs.NumberLists.{number_at, IsListOf}
use Rattle.qm_denot.specs.LettersByPlace.{pair_at}
use Rattle.qm_denot.proofs.Numerators.{items-pushed}
use Rattle.qm_denot.proofs.PairLaws.{size_paired, keeps_paired, does_paired}
use Rattle.qm_store.specs.Numerators.{items_of}
use Rattle.qm_store.proofs.ScaledAmps.pair.Goals as goal
use Rattle.qm_store.proofs.ScaledAmps.pair.Goals.{After-pair, After-push-2}

pub pair-requires-clause-room : goal.pair-requires-clause-room
pair-requires-clause-room c =
    let s = c.args.self.now in
    let few : 2 ^ (length s.live.items + 2) ≤ 2 ^ s.capacity = pow_mono c.requires.may.3 in
    omega (arith, s.size, s.room, pow-add 2 (length s.live.items) 2)

-- the list of live wires after the two pushes
pushed : (c : After-push-2) → c.push-2.new.self.items ≡ c.args.self.now.live.items ++ c.args.a ∷ c.args.b ∷ []
pushed c =
    let s = c.args.self.now in
    let once : c.push.new.self.items ≡ s.live.items ++ c.args.a ∷ [] =
    items-pushed _ s.live.items c.push.new.self.items c.args.a c.push.ensures.items (c.push.ensures.succeeds (omega (arith, c.requires.may.3, s.live_room, s.live.ok.0))) in
    let twice : c.push-2.new.self.items ≡ c.push.new.self.items ++ c.args.b ∷ [] =
    items-pushed _ c.push.new.self.items c.push-2.new.self.items c.args.b c.push-2.ensures.items
    (c.push-2.ensures.succeeds (omega (arith, c.requires.may.3, s.live_room, c.push.ensures.capacity, c.push.new.self.ok.0, ap length once, length-append s.live.items (c.args.a ∷ [])))) in
    twice ∙ ap (λ ws. ws ++ c.args.b ∷ []) once ∙ append_assoc s.live.items (c.args.a ∷ []) (c.args.b ∷ [])

-- the list with room for the two
paired : (c : After-pair)
    → IsListOf (items_of c.pair.new.self) (length (items_of c.args.self.now.numerators) * 4) (pair_at zero_number (length c.args.self.now.live.items) (number_at (items_of c.args.self.now.numerators)))
paired c =
    let s = c.args.self.now in
    let count : c.len-count.result ≡ length s.live.items = c.len-count.ensures ∙ s.live.ok.0 in
    rw (← count) c.pair.ensures.paired

pub returns : goal.returns
returns c =
    let s = c.args.self.now in
    let at = goal.at.returns c in
    rw (pushed at.After-push-2)
    (does_paired s.live.items c.args.a c.args.b s.exponent c.reduce.new.exponent (items_of s.numerators) (items_of c.pair.new.self) (items_of c.reduce.new.self)
    s.kept s.size c.requires.may.0 c.requires.may.1 c.requires.may.2 (paired at.After-pair) c.reduce.ensures.done s.capacity)

pub invariant_of-self : goal.invariant_of-self
invariant_of-self c =
    let s = c.args.self.now in
    let at = goal.at.invariant_of-self c in
    let live = pushed at.After-push-2 in
    let reduces = c.reduce.ensures.done in
    record {
      small = s.small;
      few = omega (arith, c.requires.may.3, ap length live, length-append s.live.items (c.args.a ∷ c.args.b ∷ []));
      live_room = omega (arith, c.push.ensures.capacity, c.push-2.ensures.capacity, s.live_room);
      size = rw live
          (size_paired s.live.items c.args.a c.args.b s.exponent c.reduce.new.exponent (items_of s.numerators) (items_of c.pair.new.self) (items_of c.reduce.new.self)
          s.kept s.size c.requires.may.0 c.requires.may.1 c.requires.may.2 (paired at.After-pair) reduces);
      room = omega (arith, c.pair.ensures.room, c.reduce.ensures.room, s.room);
      kept = rw live
          (keeps_paired s.live.items c.args.a c.args.b s.exponent c.reduce.new.exponent (items_of s.numerators) (items_of c.pair.new.self) (items_of c.reduce.new.self)
          s.kept s.size c.requires.may.0 c.requires.may.1 c.requires.may.2 (paired at.After-pair) reduces);
    }
