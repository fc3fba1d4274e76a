use Rattle.std.proofs.Common.{◌∙◌, ◌≡◌, ◌≤◌, ◌+◌, length, drop, filter, get_or, max, false, subst, ap, ap₂, sym, arith}
use Rattle.std.proofs.Math.ListN.{drop_of_length-le}
use Rattle.std.proofs.lemmas.List.{drop_more}
use Rattle.std.proofs.lemmas.List.Sums.{length-filter, count_by-le-length}
use Rattle.qm_denot.specs.declared.Letter.{Letter}
use Rattle.qm_denot.specs.declared.Letter.TheVariants.{Phase}
use Rattle.qm_proto.specs.Model.Ideal.{width}
use Rattle.qm_ideal.specs.Widths.{is_unnamed}
use Rattle.qm_ideal.proofs.WidthLemmas.{IsSoWide, wide_more, wide_end}
use Rattle.qm_ideal.proofs.width.width.Goals as goal

-- what stands for a letter past the end
abbrev no_letter : Letter
no_letter = Phase 0 (record { rank = 0; made = 0; near = false })

pub loop-letter-preserved : goal.loop-letter-preserved
loop-letter-preserved c =
    let letters = c.args.letters.now in
    let i = c.loop-letter.letter-index in
    let ends = c.args.ends.now in
    let all = width letters ends in
    let lack = is_unnamed c.loop-letter.named in
    let lack' = is_unnamed c.note_all.new.named in
    let live = c.loop-letter.live.items in
    let now = c.prepare.new.live in
    let live' = c.pass.new.live.items in
    let widest = c.loop-letter.widest in
    let l = get_or letters i no_letter in
    let here = subst (λ ls. IsSoWide lack live widest ls ends all) (drop_more letters i no_letter c.loop-letter-test.true) c.loop-letter.invariant in
    let more = wide_more lack lack' live now.items live' widest l (drop (i + 1) letters) ends all here c.in_ok-prepare.ensures c.in_ok-pass.ensures c.in_ok-note_all.ensures in
    let long : c.len.result ≡ length now.items = c.len.ensures ∙ now.ok.0 in
    let most : c.max-widest.result ≡ max widest (length now.items) = c.max-widest.ensures ∙ ap (max widest) long in
    subst (λ n. IsSoWide lack' live' n (drop (i + 1) letters) ends all) (sym most) more

pub overflow_add-len : goal.overflow_add-len
overflow_add-len c =
    let long = c.len-2.ensures in
    let some : length (filter (is_unnamed c.loop-letter.named) c.args.ends.now) ≤ length c.args.ends.now = (let e = length-filter (is_unnamed c.loop-letter.named) c.args.ends.now in let l = count_by-le-length (is_unnamed c.loop-letter.named) c.args.ends.now in omega (arith, e, l)) in
    let count = c.unnamed.ensures in
    let cap = c.loop-letter.live.ok.1 in
    let small = c.loop-letter.live.small in
    let few = c.requires in
    omega (arith, long, some, count, cap, small, few)

pub returns : goal.returns
returns c =
    let letters = c.args.letters.now in
    let ends = c.args.ends.now in
    let lack = is_unnamed c.loop-letter.named in
    let live = c.loop-letter.live in
    let none = drop_of_length-le letters c.loop-letter-test.false in
    let last = subst (λ ls. IsSoWide lack live.items c.loop-letter.widest ls ends (width letters ends)) none c.loop-letter.invariant in
    let long : c.len-2.result ≡ length live.items = c.len-2.ensures ∙ live.ok.0 in
    c.max.ensures ∙ ap₂ (λ m n. max c.loop-letter.widest (m + n)) long c.unnamed.ensures
    ∙ wide_end lack live.items c.loop-letter.widest ends (width letters ends) last
