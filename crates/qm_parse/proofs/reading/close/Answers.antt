use Rattle.std.proofs.Common.{◌≡◌, ℕ, ◌<◌, ◌∙◌, sym, ap, length, set, arith}
use Rattle.qm_parse.specs.declared.tree.Node.{Node}
use Rattle.qm_parse.proofs.ListLemmas.{with_stop-set, with_stop-none}
use Rattle.qm_parse.proofs.reading.close.Goals as goal

pub returns-then-node-len : goal.returns-then-node-len
returns-then-node-len c =
    let ns = c.args.nodes.now.items in
    let k = c.args.node in
    let r = c.index.result.now in
    let l : c.len-stop.result ≡ length ns = omega (arith, c.len-stop.ensures) in
    let h : k < length ns = omega (arith, c.len.ensures) in
    sym (with_stop-set (length ns) k r ns h ∙ ap (λ (x : Node). set ns k (record x { stop = length ns })) (sym c.index.ensures) ∙ ap (λ (n : ℕ). set ns k (record r { stop = n })) (sym l))

pub returns-else-node-len : goal.returns-else-node-len
returns-else-node-len c = sym (with_stop-none _ _ _ (omega (arith, c.len.ensures)))
