use Rattle.std.proofs.Common.{◌≡◌, ◌∙◌, ◌<◌, ◌≤◌, ℕ, length, refl, sym, ap, arith}
use Rattle.qm_instr.specs.Programs.{Programs, RankProgram, instruction_total, with_sizes}
use Rattle.qm_expand.specs.Drafts.{draft}
use Rattle.qm_expand.specs.Expansion.{by_rank, sized_programs}
use Rattle.qm_expand.specs.Walk.{numbers_in, size_at}
use Rattle.qm_expand.specs.Views.{AreSized}
use Rattle.qm_expand.specs.declared.head.Head.{Head}
use Rattle.qm_parse.specs.Words.{size_count}
use Rattle.qm_expand.proofs.SizeLemmas.{size-fits, length-numbers_in, sized_upto, sized_upto-within, sized_upto-more, sized_upto-all, sum_by-sized}
use Rattle.qm_expand.proofs.draft.Draft.start.Goals as goal

fits-qubits : (h : Head) (r : ℕ) → AreSized h → r < h.ranks → (1 ≤ size_at h.version (numbers_in h.qubits.now) r) × (size_at h.version (numbers_in h.qubits.now) r ≤ 16)
fits-qubits h r s low = size-fits h.version h.ranks r 16 h.qubits.now s.counted.qubits s.slots low

fits-buffer : (h : Head) (r : ℕ) → AreSized h → r < h.ranks → (1 ≤ size_at h.version (numbers_in h.buffers.now) r) × (size_at h.version (numbers_in h.buffers.now) r ≤ 8)
fits-buffer h r s low = size-fits h.version h.ranks r 8 h.buffers.now s.counted.buffers s.halves low

count-qubits : (h : Head) → AreSized h → length (numbers_in h.qubits.now) ≡ size_count h.version h.ranks
count-qubits h s = length-numbers_in h.qubits.now ∙ s.counted.qubits

count-buffers : (h : Head) → AreSized h → length (numbers_in h.buffers.now) ≡ size_count h.version h.ranks
count-buffers h s = length-numbers_in h.buffers.now ∙ s.counted.buffers

pub size_of-qubits-requires : goal.size_of-qubits-requires
size_of-qubits-requires c = let f = fits-qubits c.args.head.now c.loop-rank.rank c.requires c.loop-rank-test.true in omega (arith, f.1)

pub size_of-buffer-requires : goal.size_of-buffer-requires
size_of-buffer-requires c = let f = fits-buffer c.args.head.now c.loop-rank.rank c.requires c.loop-rank-test.true in omega (arith, f.1)

pub size-requires-clause-known : goal.size-requires-clause-known
size-requires-clause-known c =
    let h = c.args.head.now in
    let w = sized_upto-within h.version h.ranks (numbers_in h.qubits.now) (numbers_in h.buffers.now) (count-qubits h c.requires) (count-buffers h c.requires) c.loop-rank.rank c.loop-rank-test.true in
    let e = ap (λ (p : Programs). length p.ranks) c.loop-rank.invariant in
    omega (arith, w, e)

pub size-requires-clause-some_qubits : goal.size-requires-clause-some_qubits
size-requires-clause-some_qubits c = let f = fits-qubits c.args.head.now c.loop-rank.rank c.requires c.loop-rank-test.true in let e = c.size_of-qubits.ensures in omega (arith, f.0, e)

pub size-requires-clause-most_qubits : goal.size-requires-clause-most_qubits
size-requires-clause-most_qubits c = let f = fits-qubits c.args.head.now c.loop-rank.rank c.requires c.loop-rank-test.true in let e = c.size_of-qubits.ensures in omega (arith, f.1, e)

pub size-requires-clause-some_buffer : goal.size-requires-clause-some_buffer
size-requires-clause-some_buffer c = let f = fits-buffer c.args.head.now c.loop-rank.rank c.requires c.loop-rank-test.true in let e = c.size_of-buffer.ensures in omega (arith, f.0, e)

pub size-requires-clause-most_buffer : goal.size-requires-clause-most_buffer
size-requires-clause-most_buffer c = let f = fits-buffer c.args.head.now c.loop-rank.rank c.requires c.loop-rank-test.true in let e = c.size_of-buffer.ensures in omega (arith, f.1, e)

pub loop-rank-preserved : goal.loop-rank-preserved
loop-rank-preserved c =
    let h = c.args.head.now in
    let r = c.loop-rank.rank in
    c.size.ensures
    ∙ ap (λ (p : Programs). with_sizes p r c.size_of-qubits.result c.size_of-buffer.result) c.loop-rank.invariant
    ∙ ap (λ q. with_sizes (sized_upto h.version h.ranks (numbers_in h.qubits.now) (numbers_in h.buffers.now) r) r q c.size_of-buffer.result) c.size_of-qubits.ensures
    ∙ ap (λ b. with_sizes (sized_upto h.version h.ranks (numbers_in h.qubits.now) (numbers_in h.buffers.now) r) r (size_at h.version (numbers_in h.qubits.now) r) b) c.size_of-buffer.ensures
    ∙ sized_upto-more h.version h.ranks (numbers_in h.qubits.now) (numbers_in h.buffers.now) (count-qubits h c.requires) (count-buffers h c.requires) r c.loop-rank-test.true

-- behind the last rank all have their sizes
all-sized : (h : Head) (r : ℕ) (p : Programs) → AreSized h → h.ranks ≤ r → r ≤ h.ranks → p ≡ sized_upto h.version h.ranks (numbers_in h.qubits.now) (numbers_in h.buffers.now) r
    → p ≡ sized_programs h.version h.ranks (numbers_in h.qubits.now) (numbers_in h.buffers.now)
all-sized h r p s past end e =
    let last : r ≡ h.ranks = omega (arith, past, end) in
    e ∙ ap (λ k. sized_upto h.version h.ranks (numbers_in h.qubits.now) (numbers_in h.buffers.now) k) last
    ∙ sized_upto-all h.version h.ranks (numbers_in h.qubits.now) (numbers_in h.buffers.now) (count-qubits h s) (count-buffers h s)

pub invariant_of-result : goal.invariant_of-result
invariant_of-result c =
    let h = c.args.head.now in
    record {
      counted = sym
          (ap instruction_total (all-sized h c.loop-rank.rank c.loop-rank.input c.requires c.loop-rank-test.false c.loop-rank.auto.rank-end c.loop-rank.invariant)
          ∙ sum_by-sized (λ (r : RankProgram). length r.instructions) (λ q b. refl) (by_rank h.version h.ranks (numbers_in h.qubits.now)) (by_rank h.version h.ranks (numbers_in h.buffers.now)));
    }

pub returns : goal.returns
returns c =
    let h = c.args.head.now in
    ap (λ (p : Programs). draft p 0) (all-sized h c.loop-rank.rank c.loop-rank.input c.requires c.loop-rank-test.false c.loop-rank.auto.rank-end c.loop-rank.invariant)
