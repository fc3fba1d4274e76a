use Rattle.std.proofs.Common.{◌≤◌, ◌∙◌, ◌++◌, ◌∷◌, [], map, take, sym, ap, slice_index_or, arith, length-set}
use Rattle.std.proofs.lemmas.List.{take_more, take_more_set, map_push}
use Rattle.std.proofs.lemmas.List.Elements.{All-set, All-get_or}
use Rattle.qm_buffers.specs.Halves.{empty_buffer, IsWithinSize}
use Rattle.qm_buffers.proofs.Halves.start.Goals as goal

pub loop-rank-preserved : goal.loop-rank-preserved
loop-rank-preserved c =
    let i = c.loop-rank.rank in
    let bs = c.loop-rank.buffers in
    let size = slice_index_or c.args.sizes.now i 0 in
    let allowed : (1 ≤ size) × (size ≤ 8) = All-get_or (λ s. (1 ≤ s) × (s ≤ 8)) c.args.sizes.now i 0 c.loop-rank-test.true c.requires.sizes in
    record {
      long = length-set bs i (empty_buffer size) ∙ c.loop-rank.invariant.long;
      sizes = take_more_set bs i (empty_buffer size) (omega (arith, c.loop-rank.invariant.long, c.loop-rank-test.true, c.requires.few))
          ∙ ap (λ xs. xs ++ empty_buffer size ∷ []) c.loop-rank.invariant.sizes
          ∙ sym (ap (map empty_buffer) (take_more c.args.sizes.now i 0 c.loop-rank-test.true) ∙ map_push empty_buffer (take i c.args.sizes.now) size);
      within = All-set IsWithinSize bs i (empty_buffer size) (record { held = omega arith; small = allowed.1 }) c.loop-rank.invariant.within;
    }
