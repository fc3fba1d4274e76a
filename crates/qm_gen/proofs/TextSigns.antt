-- The signs of a text's tokens, line by line
use Rattle.std.proofs.Common.{◌≡◌, ℕ, zero, suc, ◌+◌, ◌≤◌, List, [], ◌∷◌, ◌++◌, length, map, take, drop, Option, Some, None, Ok, refl, sym, ◌∙◌, ap, subst, arith, length-drop, append_assoc}
use Rattle.std.proofs.lemmas.List.{drop-drop, take-append-le, drop-append-le}
use Rattle.qm_lex.specs.declared.tokens.Token.{Token}
use Rattle.qm_lex.specs.Lexing.{tokens_of}
use Rattle.qm_parse.specs.declared.words.Version.TheVariants as version
use Rattle.qm_parse.specs.Signs.{Sign, sign, sign_of}
use Rattle.qm_gen.specs.Made.{Lines, lines_text}
use Rattle.qm_gen.proofs.LineSigns.{Front, Skip, Take, Nothing, front, with_sign, behind_front, line_signs, IsWithin, front-within, IsLexed, HasSigns, gap-lexed, part-lexed}

-- ---- a line, and the lines behind it
-- what holds of a bound on a line's gaps and tokens
LineLexed : ℕ → Type 0
LineLexed n = (whole : List ℕ) (at : ℕ) (xs rest : List ℕ) (ss ts : List Sign) → line_signs n xs ≡ Some ss → drop at whole ≡ xs ++ 10 ∷ rest → HasSigns whole (at + length xs + 1) rest ts → HasSigns whole at (xs ++ 10 ∷ rest) (ss ++ ts)

-- behind what stands at the front of a line the line goes on
goes_on : (whole : List ℕ) (at b k : ℕ) (xs rest : List ℕ) → k ≤ length xs → drop at whole ≡ b ∷ (xs ++ 10 ∷ rest) → drop (at + (k + 1)) whole ≡ drop k xs ++ 10 ∷ rest
goes_on whole at b k xs rest few there =
    let one : k + 1 ≡ suc k = omega arith in
    sym (drop-drop (k + 1) at whole) ∙ ap (drop (k + 1)) there ∙ ap (λ j. drop j (b ∷ (xs ++ 10 ∷ rest))) one ∙ drop-append-le k xs (10 ∷ rest) few

end_of : (at k : ℕ) (b : ℕ) (xs : List ℕ) → k ≤ length xs → at + (k + 1) + length (drop k xs) + 1 ≡ at + length (b ∷ xs) + 1
end_of at k b xs few = omega (arith, length-drop k xs)

rest-lexed : (n : ℕ) → LineLexed n → (whole : List ℕ) (at b k : ℕ) (xs rest : List ℕ) (ss ts : List Sign) → k ≤ length xs → line_signs n (drop k xs) ≡ Some ss → drop at whole ≡ b ∷ (xs ++ 10 ∷ rest) → HasSigns whole (at + length (b ∷ xs) + 1) rest ts → HasSigns whole (at + (k + 1)) (drop (k + 1) (b ∷ (xs ++ 10 ∷ rest))) (ss ++ ts)
unfolding LineLexed
rest-lexed n go whole at b k xs rest ss ts few e there h =
    let one : k + 1 ≡ suc k = omega arith in
    let left : drop (k + 1) (b ∷ (xs ++ 10 ∷ rest)) ≡ drop k xs ++ 10 ∷ rest = ap (λ j. drop j (b ∷ (xs ++ 10 ∷ rest))) one ∙ drop-append-le k xs (10 ∷ rest) few in
    let end : HasSigns whole (at + (k + 1) + length (drop k xs) + 1) rest ts = subst (λ j. HasSigns whole j rest ts) (sym (end_of at k b xs few)) h in
    subst (λ (t : List ℕ). HasSigns whole (at + (k + 1)) t (ss ++ ts)) (sym left) (go whole (at + (k + 1)) (drop k xs) rest ss ts e (goes_on whole at b k xs rest few there) end)

cell-lexed : (n : ℕ) → LineLexed n → (whole : List ℕ) (at b : ℕ) (xs rest : List ℕ) (ss ts : List Sign) (f : Front) → front b xs ≡ f → IsWithin f (length xs) → behind_front (line_signs n) b xs f ≡ Some ss → drop at whole ≡ b ∷ (xs ++ 10 ∷ rest) → HasSigns whole (at + length (b ∷ xs) + 1) rest ts → HasSigns whole at (b ∷ (xs ++ 10 ∷ rest)) (ss ++ ts)
unfolding IsWithin
cell-lexed n go whole at b xs rest ss ts (Skip k) is few e there h =
    gap-lexed whole at b k xs rest (ss ++ ts) is (rest-lexed n go whole at b k xs rest ss ts few e there h)
cell-lexed n go whole at b xs rest ss ts (Take kind k) is few e there h = by_more (line_signs n (drop k xs)) refl e
  where
    one : k + 1 ≡ suc k
    one = omega arith

    bytes : take (k + 1) (b ∷ (xs ++ 10 ∷ rest)) ≡ b ∷ take k xs
    bytes = ap (λ j. take j (b ∷ (xs ++ 10 ∷ rest))) one ∙ ap (λ t. b ∷ t) (take-append-le k xs (10 ∷ rest) few)

    by_more : (o : Option (List Sign)) → line_signs n (drop k xs) ≡ o → with_sign (sign version.One kind (b ∷ take k xs)) o ≡ Some ss → HasSigns whole at (b ∷ (xs ++ 10 ∷ rest)) (ss ++ ts)
    by_more None d f = cc
    by_more (Some us) d f =
        let are : sign version.One kind (b ∷ take k xs) ∷ us ≡ ss = cc in
        let lexed_so = part-lexed whole at b k kind xs rest (us ++ ts) is there (rest-lexed n go whole at b k xs rest us ts few d there h) in
        subst (λ (x : List Sign). HasSigns whole at (b ∷ (xs ++ 10 ∷ rest)) (x ++ ts)) are
        (subst (λ (x : List ℕ). HasSigns whole at (b ∷ (xs ++ 10 ∷ rest)) (sign version.One kind x ∷ (us ++ ts))) bytes lexed_so)
cell-lexed n go whole at b xs rest ss ts Nothing is few e there h = cc

end-lexed : (whole : List ℕ) (at : ℕ) (rest : List ℕ) (ss ts : List Sign) → Some [] ≡ Some ss → HasSigns whole (at + 0 + 1) rest ts → HasSigns whole at (10 ∷ rest) (ss ++ ts)
unfolding HasSigns
end-lexed whole at rest ss ts e h zero line few = absurd (omega arith)
end-lexed whole at rest ss ts e h (suc n) line few =
    let none : [] ≡ ss = cc in
    let place : at + 0 + 1 ≡ at + 1 = omega arith in
    let more : IsLexed whole n (at + 1) (line + 1) rest (ss ++ ts) = subst (λ (x : List Sign). IsLexed whole n (at + 1) (line + 1) rest (x ++ ts)) none (subst (λ j. IsLexed whole n j (line + 1) rest ts) place (h n (line + 1) (omega arith))) in
    record { tokens = more.tokens; lexes = more.lexes; signs = more.signs }

line-lexed : (n : ℕ) → LineLexed n
unfolding LineLexed
line-lexed n whole at [] rest ss ts e there h = end-lexed whole at rest ss ts e h
line-lexed zero whole at (b ∷ xs) rest ss ts e there h = cc
line-lexed (suc n) whole at (b ∷ xs) rest ss ts e there h =
    cell-lexed n (line-lexed n) whole at b xs rest ss ts (front b xs) refl (front-within b xs) e there h

-- ---- lines
abbrev pub joined : Option (List Sign) → Option (List Sign) → Option (List Sign)
joined (Some ss) (Some ts) = Some (ss ++ ts)
joined (Some ss) None = None
joined None o = None

-- the signs of lines, each of which has at most twelve gaps and tokens
abbrev pub lines_signs : Lines → Option (List Sign)
lines_signs [] = Some []
lines_signs (l ∷ ls) = joined (line_signs 12 l) (lines_signs ls)

joined-is : (o p : Option (List Sign)) (us : List Sign) → joined o p ≡ Some us → (ss : List Sign) × (ts : List Sign) × (o ≡ Some ss) × (p ≡ Some ts) × (us ≡ ss ++ ts)
joined-is (Some ss) (Some ts) us e = let same : us ≡ ss ++ ts = cc in (ss, ts, refl, refl, same)
joined-is (Some ss) None us e = cc
joined-is None p us e = cc

lines-lexed : (whole : List ℕ) (at : ℕ) (ls : Lines) (us : List Sign) → lines_signs ls ≡ Some us → drop at whole ≡ lines_text ls → HasSigns whole at (lines_text ls) us
unfolding HasSigns LineLexed
lines-lexed whole at [] us e there m line few = record { tokens = []; lexes = refl; signs = cc }
lines-lexed whole at (l ∷ ls) us e there m line few =
    let parts = joined-is (line_signs 12 l) (lines_signs ls) us e in
    let left : drop (at + length l + 1) whole ≡ lines_text ls =
    ap (λ j. drop j whole) (add_up at (length l)) ∙ sym (drop-drop (length l + 1) at whole) ∙ ap (drop (length l + 1)) there ∙ past l (lines_text ls) in
    let more = lines-lexed whole (at + length l + 1) ls parts.1 parts.3 left in
    subst (λ (x : List Sign). IsLexed whole m at line (l ++ 10 ∷ lines_text ls) x) (sym parts.4)
    (line-lexed 12 whole at l (lines_text ls) parts.0 parts.1 parts.2 there more m line few)
  where
    add_up : (a b : ℕ) → a + b + 1 ≡ a + (b + 1)
    add_up a b = omega arith

    past : (xs rest : List ℕ) → drop (length xs + 1) (xs ++ 10 ∷ rest) ≡ rest
    past [] rest = refl
    past (x ∷ xs) rest = let one : length (x ∷ xs) + 1 ≡ suc (length xs + 1) = omega arith in ap (λ j. drop j (x ∷ (xs ++ 10 ∷ rest))) one ∙ past xs rest

-- the tokens of a text
pub record HasTokens (text : List ℕ) (ss : List Sign) : Type 0 where
  pub tokens : List Token
  pub are : tokens_of text ≡ Ok tokens
  pub signs : map (sign_of version.One text) tokens ≡ ss

-- lines with these signs have tokens with these signs
pub lines-tokens : (ls : Lines) (ss : List Sign) → lines_signs ls ≡ Some ss → HasTokens (lines_text ls) ss
unfolding HasSigns
lines-tokens ls ss e =
    let few : length (lines_text ls) ≤ length (lines_text ls) = omega arith in
    let l = lines-lexed (lines_text ls) 0 ls ss e refl (length (lines_text ls)) 1 few in
    record { tokens = l.tokens; are = l.lexes; signs = l.signs }

-- lines behind lines
pub lines_signs-append : (xs ys : Lines) (ss ts : List Sign) → lines_signs xs ≡ Some ss → lines_signs ys ≡ Some ts → lines_signs (xs ++ ys) ≡ Some (ss ++ ts)
lines_signs-append [] ys ss ts d e = let none : [] ≡ ss = cc in subst (λ (x : List Sign). lines_signs ys ≡ Some (x ++ ts)) none e
lines_signs-append (l ∷ ls) ys us ts d e =
    let parts = joined-is (line_signs 12 l) (lines_signs ls) us d in
    let more = lines_signs-append ls ys parts.1 ts parts.3 e in
    ap (λ o. joined o (lines_signs (ls ++ ys))) parts.2 ∙ ap (λ o. joined (Some parts.0) o) more
    ∙ ap Some (sym (append_assoc parts.0 parts.1 ts)) ∙ ap (λ x. Some (x ++ ts)) (sym parts.4)
