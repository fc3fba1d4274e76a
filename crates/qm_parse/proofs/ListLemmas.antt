-- Lists of tokens and of nodes, by number
use Rattle.std.proofs.Common.{◌≡◌, ℕ, zero, suc, ◌<◌, ◌≤◌, List, [], ◌∷◌, length, set, get_or, refl, ap, arith}
use Rattle.qm_parse.specs.declared.tree.Node.{Node}
use Rattle.qm_parse.specs.Reaching.{with_stop}

-- two lists that are one have one first element, and one list behind it
pub head-same : {A : Type 0} {x y : A} {xs ys : List A} → x ∷ xs ≡ y ∷ ys → x ≡ y
head-same e = cc

pub tail-same : {A : Type 0} {x y : A} {xs ys : List A} → x ∷ xs ≡ y ∷ ys → xs ≡ ys
tail-same e = cc

pub with_stop-set : (stop n : ℕ) (d : Node) (ns : List Node) → n < length ns → with_stop stop n ns ≡ set ns n (record (get_or ns n d) { stop = stop })
with_stop-set stop n d [] h = absurd (omega arith)
with_stop-set stop zero d (x ∷ xs) h = refl
with_stop-set stop (suc n) d (x ∷ xs) h = ap (λ z. x ∷ z) (with_stop-set stop n d xs (omega arith))

pub with_stop-none : (stop n : ℕ) (ns : List Node) → length ns ≤ n → with_stop stop n ns ≡ ns
with_stop-none stop n [] h = refl
with_stop-none stop zero (x ∷ xs) h = absurd (omega arith)
with_stop-none stop (suc n) (x ∷ xs) h = ap (λ z. x ∷ z) (with_stop-none stop n xs (omega arith))
