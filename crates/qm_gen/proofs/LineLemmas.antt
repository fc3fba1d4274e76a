-- Lines one after another
use Rattle.std.proofs.Common.{◌≡◌, ℕ, suc, ◌+◌, List, [], ◌∷◌, ◌++◌, refl, ap, ◌∙◌, sym, subst, append_assoc}
use Rattle.std.specs.Prelude.{flat_map}
use Rattle.qm_gen.specs.declared.GenKind.{GenKind}
use Rattle.qm_gen.specs.Made.{Lines, lines_text, numbers, rank_lines}

pub lines_text-append : (xs ys : Lines) → lines_text (xs ++ ys) ≡ lines_text xs ++ lines_text ys
lines_text-append [] ys = refl
lines_text-append (x ∷ xs) ys = ap (λ t. x ++ 10 ∷ t) (lines_text-append xs ys) ∙ sym (append_assoc x (10 ∷ lines_text xs) (lines_text ys))

-- lines behind lines
pub written : (text a b : List ℕ) (xs ys : Lines) → a ≡ text ++ lines_text xs → b ≡ a ++ lines_text ys → b ≡ text ++ lines_text (xs ++ ys)
written text a b xs ys d e =
    e ∙ ap (λ t. t ++ lines_text ys) d ∙ append_assoc text (lines_text xs) (lines_text ys) ∙ ap (λ t. text ++ t) (sym (lines_text-append xs ys))

-- a text, with the lines of so many ranks that are left from this one on, is whole
abbrev pub WritesRanks : List ℕ → GenKind → ℕ → ℕ → ℕ → List ℕ → Type 0
WritesRanks text kind size rank n whole = text ++ lines_text (flat_map (rank_lines kind size) (numbers rank n)) ≡ whole

pub ranks-next : (text new : List ℕ) (kind : GenKind) (size rank m n : ℕ) (whole : List ℕ) → WritesRanks text kind size rank n whole → n ≡ suc m → new ≡ text ++ lines_text (rank_lines kind size rank) → WritesRanks new kind size (rank + 1) m whole
ranks-next text new kind size rank m n whole w one is =
    let was = subst (λ k. WritesRanks text kind size rank k whole) one w in
    let more : Lines = flat_map (rank_lines kind size) (numbers (rank + 1) m) in
    ap (λ t. t ++ lines_text more) is
    ∙ append_assoc text (lines_text (rank_lines kind size rank)) (lines_text more)
    ∙ ap (λ t. text ++ t) (sym (lines_text-append (rank_lines kind size rank) more))
    ∙ was

pub ranks-first : (text new : List ℕ) (kind : GenKind) (size m n : ℕ) (head : Lines) → new ≡ text ++ lines_text head → m ≡ n → WritesRanks new kind size 0 m (text ++ lines_text (head ++ flat_map (rank_lines kind size) (numbers 0 n)))
ranks-first text new kind size m n head is same =
    subst (λ k. WritesRanks new kind size 0 k (text ++ lines_text (head ++ flat_map (rank_lines kind size) (numbers 0 n)))) (sym same)
    (written text new _ head (flat_map (rank_lines kind size) (numbers 0 n)) is refl)
