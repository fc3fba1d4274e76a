use Rattle.std.proofs.Common.{◌≡◌, ◌+◌, ◌<◌, ◌∙◌, refl, sym, ap, subst, arith}
use Rattle.std.proofs.lemmas.List.{get_or-take}
use Rattle.std.proofs.lemmas.List.Elements.{All-set, All-get_or}
use Rattle.qm_buffers.specs.declared.Buffer.{Buffer}
use Rattle.qm_buffers.specs.Halves.{buffer_at, empty_buffer, IsWithinSize}
use Rattle.qm_buffers.proofs.Changes.{in_list, below, changed}
use Rattle.qm_buffers.proofs.Halves.add.Goals as goal

pub invariant_of-self : goal.invariant_of-self
invariant_of-self c =
    let bs = c.self.inside.buffers in
    let few = below (λ b. b.size) refl bs c.args.self.now c.self.inside.ranks c.args.rank c.self.view_is (omega arith) in
    let read : buffer_at bs c.args.rank ≡ buffer_at c.args.self.now c.args.rank =
    sym (get_or-take c.self.inside.ranks bs c.args.rank (empty_buffer 0) few) ∙ ap (λ xs. buffer_at xs c.args.rank) c.self.view_is in
    let room : (buffer_at bs c.from.result).held < (buffer_at bs c.from.result).size =
    subst (λ k. (buffer_at bs k).held < (buffer_at bs k).size) (sym c.from.ensures) (subst (λ (b : Buffer). b.held < b.size) (sym read) c.requires) in
    let within : IsWithinSize (buffer_at bs c.from.result) =
    All-get_or IsWithinSize bs c.from.result (empty_buffer 0) (in_list (λ b. b.size) refl bs c.from.result (omega (arith, room))) c.self.invariant.1 in
    (c.self.invariant.0, All-set IsWithinSize bs c.from.result (record (buffer_at bs c.from.result) { held = (buffer_at bs c.from.result).held + 1 }) (record { held = omega (arith, room); small = within.small }) c.self.invariant.1)

pub returns : goal.returns
returns c =
    changed c.self.inside.buffers c.args.self.now c.self.inside.ranks c.from.result c.args.rank (λ n. n + 1) c.self.view_is c.from.ensures
    (below (λ b. b.size) refl c.self.inside.buffers c.args.self.now c.self.inside.ranks c.args.rank c.self.view_is (omega arith))
