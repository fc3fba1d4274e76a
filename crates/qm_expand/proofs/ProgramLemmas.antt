-- The blocks of ranks, and tape lines
use Rattle.std.proofs.Common.{◌≡◌, ◌∙◌, ℕ, suc, ◌+◌, cond, List, [], ◌∷◌, length, take, drop, sym, ap}
use Rattle.qm_parse.specs.declared.tree.Node.{Node}
use Rattle.qm_expand.specs.Steps.{◌>>=◌}
use Rattle.qm_expand.specs.Drafts.{Draft}
use Rattle.qm_expand.specs.Expansion.{rank_scope}
use Rattle.qm_expand.specs.Walk.{Words, own_len, walk, is_all, at_front, blocks_walked}

pub three : (rest behind last next : List Node) (f r b : Node) → rest ≡ f ∷ drop 1 rest → behind ≡ drop 1 rest → behind ≡ r ∷ drop 1 behind
    → last ≡ drop 1 behind → last ≡ b ∷ drop 1 last → next ≡ drop 1 last → rest ≡ f ∷ r ∷ b ∷ next
three rest behind last next f r b first one second two third end =
    first ∙ ap (λ xs. f ∷ xs) (sym one ∙ second ∙ ap (λ xs. r ∷ xs) (sym two ∙ third ∙ ap (λ xs. b ∷ xs) (sym end)))

module _ (words : Words) (nodes : List Node) (head m left rank at used : ℕ) (d : Draft) (more : m ≡ suc left) where
  pub block-none : drop at nodes ≡ [] → blocks_walked words nodes head m rank at used d ≡ blocks_walked words nodes head left (rank + 1) at used d
  block-none none =
      ap (λ k. blocks_walked words nodes head k rank at used d) more
      ∙ ap (at_front (blocks_walked words nodes head left (rank + 1) at used d)
      (λ b rest. let len = own_len b (head + at + 1) (length rest) in
      walk words (length nodes) (rank_scope d.programs rank) (head + at + 1) (take len rest) d
      >>= λ e. blocks_walked words nodes head left (rank + 1) (cond (is_all b.what) at (at + 1 + len)) (at + 1 + len) e)) none

  pub block-some : (b : Node) (rest behind own : List Node) (len : ℕ) → rest ≡ drop at nodes → rest ≡ b ∷ drop 1 rest → behind ≡ drop 1 rest
      → len ≡ own_len b (head + at + 1) (length behind) → own ≡ take len behind
      → blocks_walked words nodes head m rank at used d
      ≡ (walk words (length nodes) (rank_scope d.programs rank) (head + at + 1) own d
      >>= λ e. blocks_walked words nodes head left (rank + 1) (cond (is_all b.what) at (at + 1 + len)) (at + 1 + len) e)
  block-some b rest behind own len is front tail len_is own_is =
      ap (λ k. blocks_walked words nodes head k rank at used d) more
      ∙ ap (at_front (blocks_walked words nodes head left (rank + 1) at used d)
      (λ b rest. let len = own_len b (head + at + 1) (length rest) in
      walk words (length nodes) (rank_scope d.programs rank) (head + at + 1) (take len rest) d
      >>= λ e. blocks_walked words nodes head left (rank + 1) (cond (is_all b.what) at (at + 1 + len)) (at + 1 + len) e))
      (sym is ∙ front ∙ ap (λ xs. b ∷ xs) (sym tail))
      ∙ ap (λ l. walk words (length nodes) (rank_scope d.programs rank) (head + at + 1) (take l behind) d
      >>= λ e. blocks_walked words nodes head left (rank + 1) (cond (is_all b.what) at (at + 1 + l)) (at + 1 + l) e) (sym len_is)
      ∙ ap (λ xs. walk words (length nodes) (rank_scope d.programs rank) (head + at + 1) xs d
      >>= λ e. blocks_walked words nodes head left (rank + 1) (cond (is_all b.what) at (at + 1 + len)) (at + 1 + len) e) (sym own_is)
