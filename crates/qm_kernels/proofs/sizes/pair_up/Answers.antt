use Rattle.std.proofs.Common.{◌≡◌, ◌*◌, ◌^◌, ◌++◌, length, ap, arith, ◌∙◌}
use Rattle.qm_kernels.proofs.SizeLaws.{quarters_kept, quarter_copied, quarter}
use Rattle.qm_kernels.proofs.sizes.pair_up.Goals as goal

pub copy_from_slice-requires : goal.copy_from_slice-requires
copy_from_slice-requires g c =
    let q = quarter c.args.n (length c.args.list.now) c.requires in
    omega (arith, q, c.split_at_mut-first.ensures.front_len, c.split_at_mut-first.ensures.back_len, c.split_at_mut-last.ensures.front_len, c.split_at_mut-last.ensures.back_len)

pub returns-clause-kept : goal.returns-clause-kept
returns-clause-kept g c = λ past.
    let q = quarter c.args.n (length c.args.list.now) c.requires in
    let first = c.split_at_mut-first.result.0.now in
    let middle = c.split_at_mut-last.result.0.now in
    let last = c.split_at_mut-last.result.1.now in
    let parts : c.args.list.now ≡ first ++ (middle ++ last) = c.split_at_mut-first.ensures.value ∙ ap (λ ys. first ++ ys) c.split_at_mut-last.ensures.value in
    let size1 : length first ≡ 2 ^ c.args.n = omega (arith, q, c.split_at_mut-first.ensures.front_len) in
    let size2 : length middle ≡ 2 * 2 ^ c.args.n = omega (arith, q, c.split_at_mut-last.ensures.front_len) in
    rw (c.copy_from_slice.ensures.after, parts) (quarters_kept past c.args.n first middle last size1 size2)

pub returns-clause-copied : goal.returns-clause-copied
returns-clause-copied g c = λ past.
    let q = quarter c.args.n (length c.args.list.now) c.requires in
    let first = c.split_at_mut-first.result.0.now in
    let middle = c.split_at_mut-last.result.0.now in
    let last = c.split_at_mut-last.result.1.now in
    let parts : c.args.list.now ≡ first ++ (middle ++ last) = c.split_at_mut-first.ensures.value ∙ ap (λ ys. first ++ ys) c.split_at_mut-last.ensures.value in
    let size1 : length first ≡ 2 ^ c.args.n = omega (arith, q, c.split_at_mut-first.ensures.front_len) in
    let size2 : length middle ≡ 2 * 2 ^ c.args.n = omega (arith, q, c.split_at_mut-last.ensures.front_len) in
    rw (c.copy_from_slice.ensures.after, parts) (quarter_copied past c.args.n first middle last size1 size2)
