-- Tokens stand one behind the other
use Rattle.std.proofs.Common.{◌≡◌, ℕ, zero, suc, ◌+◌, ◌<◌, ◌≤◌, Bool, true, false, List, [], ◌∷◌, ◌++◌, length, drop, Some, Result, Ok, Err, refl, subst, length-append, length-take, length-drop, arith, if◌then◌else◌}
use Rattle.std.specs.Prelude.{slice_get, take_while, ◌==◌}
use Rattle.std.specs.List.{prefix_len}
use Rattle.qm_lex.specs.declared.tokens.TokenKind.TheVariants.{Symbol}
use Rattle.qm_lex.specs.declared.lexer.Piece.{Piece}
use Rattle.qm_lex.specs.declared.lexer.Piece.TheVariants.{Gap, Part, Bad}
use Rattle.qm_lex.specs.Bytes.{is_blank, is_digit, is_letter, is_word_byte, is_symbol, is_comment_byte}
use Rattle.qm_lex.specs.Pieces.{begins_with, piece_at, HasBytes}
use Rattle.qm_lex.specs.Lexing.{with_first, line_after, behind, tokens_from, tokens_of}
use Rattle.qm_lex.specs.declared.tokens.Token.{Token}
use Rattle.qm_lex.specs.Spans.{SpansRise, LieIn}

-- a later end
pub SpansRise-later : (from end later : ℕ) (ts : List Token) → SpansRise from end ts → end ≤ later → SpansRise from later ts
SpansRise-later from end later [] r l = omega arith
SpansRise-later from end later (t ∷ ts) r l = (r.0, r.1, SpansRise-later t.stop end later ts r.2 l)

-- one more token
pub SpansRise-more : (from end : ℕ) (ts : List Token) (t : Token) → SpansRise from end ts → end ≤ t.start → t.start < t.stop → SpansRise from t.stop (ts ++ t ∷ [])
SpansRise-more from end [] t r a b = let h : from ≤ t.start = omega arith in (h, b, omega arith)
SpansRise-more from end (u ∷ ts) t r a b = (r.0, r.1, SpansRise-more u.stop end ts t r.2 a b)

-- no more tokens than bytes
pub one_more : (items : List Token) (t : Token) (at len : ℕ) → length items ≤ at → 0 < len → length (items ++ t ∷ []) ≤ at + len
one_more items t at len few some = omega (arith, length-append items (t ∷ []))

-- an earlier start
SpansRise-earlier : (from later end : ℕ) (ts : List Token) → from ≤ later → SpansRise later end ts → SpansRise from end ts
SpansRise-earlier from later end [] l r = omega arith
SpansRise-earlier from later end (t ∷ ts) l r = let h = r.0 in let k : from ≤ t.start = omega arith in (k, r.1, r.2)

SpansRise-le : (from end : ℕ) (ts : List Token) → SpansRise from end ts → from ≤ end
SpansRise-le from end [] r = r
SpansRise-le from end (t ∷ ts) r = omega (arith, r.0, r.1, SpansRise-le t.stop end ts r.2)

-- a token among others
pub SpansRise-at : (from end : ℕ) (ts : List Token) (j : ℕ) (t : Token) → SpansRise from end ts → Some t ≡ slice_get ts j → (t.start < t.stop) × (t.stop ≤ end)
SpansRise-at from end [] j t r e = cc
SpansRise-at from end (u ∷ ts) zero t r e = let h : u ≡ t = cc in subst (λ (x : Token). (x.start < x.stop) × (x.stop ≤ end)) h (r.1, SpansRise-le u.stop end ts r.2)
SpansRise-at from end (u ∷ ts) (suc j) t r e = SpansRise-at u.stop end ts j t r.2 e

-- ---- pieces have bytes of the text
HasBytes-if : (b : Bool) (p q : Piece) (n : ℕ) → HasBytes p n → HasBytes q n → HasBytes (if b then p else q) n
HasBytes-if true p q n h k = h
HasBytes-if false p q n h k = k

length-take_while : (p : ℕ → Bool) (xs : List ℕ) → length (take_while p xs) ≤ length xs
length-take_while p xs = omega (arith, length-take (prefix_len p xs) xs)

two-bytes : (rest : List ℕ) → HasBytes (if begins_with 46 rest then Part Symbol 2 else Bad) (suc (length rest))
two-bytes [] = tt
two-bytes (c ∷ cs) = let a : 0 < 2 = omega arith in let b : 2 ≤ suc (length (c ∷ cs)) = omega arith in HasBytes-if (c == 46) (Part Symbol 2) Bad (suc (length (c ∷ cs))) (a, b) tt

HasBytes-piece_at : (b : ℕ) (rest : List ℕ) → HasBytes (piece_at b rest) (suc (length rest))
HasBytes-piece_at b rest =
    let n : ℕ = suc (length rest) in
    let a : 0 < 1 = omega arith in let c : 1 ≤ n = omega arith in
    let t1 = length-take_while is_comment_byte rest in let t2 = length-take_while is_word_byte rest in let t3 = length-take_while is_digit rest in
    let d : 0 < length (take_while is_comment_byte rest) + 1 = omega arith in let e : length (take_while is_comment_byte rest) + 1 ≤ n = omega (arith, t1) in
    let f : 0 < length (take_while is_word_byte rest) + 1 = omega arith in let g : length (take_while is_word_byte rest) + 1 ≤ n = omega (arith, t2) in
    let h : 0 < length (take_while is_digit rest) + 1 = omega arith in let i : length (take_while is_digit rest) + 1 ≤ n = omega (arith, t3) in
    HasBytes-if (is_blank b) _ _ n (a, c) (HasBytes-if (b == 35) _ _ n (d, e) (HasBytes-if (is_letter b) _ _ n (f, g) (HasBytes-if (is_digit b) _ _ n (h, i) (HasBytes-if (is_symbol b) _ _ n (a, c)
    (HasBytes-if (b == 46) _ _ n (two-bytes rest) tt)))))

-- ---- tokens lie in their text
lexed-rises : (n at line : ℕ) (bytes : List ℕ) (ts : List Token) → tokens_from n at line bytes ≡ Ok ts → SpansRise at (at + length bytes) ts
lexed-rises n at line [] ts e = let h : [] ≡ ts = cc in subst (λ (x : List Token). SpansRise at (at + 0) x) h (omega arith)
lexed-rises zero at line (b ∷ rest) ts e = cc
lexed-rises (suc n) at line (b ∷ rest) ts e = by_piece (lexed-rises n) (piece_at b rest) (HasBytes-piece_at b rest) e
  where
    by_rest : (t : Token) (r : Result (List Token) ℕ) → at ≤ t.start → t.start < t.stop → ((us : List Token) → r ≡ Ok us → SpansRise t.stop (at + length (b ∷ rest)) us) → with_first t r ≡ Ok ts → SpansRise at (at + length (b ∷ rest)) ts
    by_rest t (Ok us) l k go f = let h : t ∷ us ≡ ts = cc in subst (λ (x : List Token). SpansRise at (at + length (b ∷ rest)) x) h (l, k, go us refl)
    by_rest t (Err x) l k go f = cc

    by_piece : ((at line : ℕ) (bytes : List ℕ) (ts : List Token) → tokens_from n at line bytes ≡ Ok ts → SpansRise at (at + length bytes) ts) → (p : Piece) → HasBytes p (suc (length rest)) → behind (tokens_from n) at line b rest p ≡ Ok ts → SpansRise at (at + length (b ∷ rest)) ts
    by_piece go (Gap len) h f =
        let l : (at + len) + length (drop len (b ∷ rest)) ≡ at + length (b ∷ rest) = omega (arith, h, length-drop len (b ∷ rest)) in
        SpansRise-earlier at (at + len) (at + length (b ∷ rest)) ts (omega arith) (subst (λ (x : ℕ). SpansRise (at + len) x ts) l (go (at + len) (line_after b line) (drop len (b ∷ rest)) ts f))
    by_piece go (Part kind len) h f =
        let l : (at + len) + length (drop len (b ∷ rest)) ≡ at + length (b ∷ rest) = omega (arith, h, length-drop len (b ∷ rest)) in
        let low : at ≤ at = omega arith in let some : at < at + len = omega (arith, h) in
        by_rest (record { kind = kind; start = at; stop = at + len; line = line }) (tokens_from n (at + len) line (drop len (b ∷ rest))) low some
        (λ us e. subst (λ (x : ℕ). SpansRise (at + len) x us) l (go (at + len) line (drop len (b ∷ rest)) us e)) f
    by_piece go Bad h f = cc

pub tokens_of-LieIn : (text : List ℕ) (ts : List Token) → tokens_of text ≡ Ok ts → LieIn text ts
tokens_of-LieIn text ts e = subst (λ (x : ℕ). SpansRise 0 x ts) (omega arith) (lexed-rises (length text) 0 1 text ts e)
