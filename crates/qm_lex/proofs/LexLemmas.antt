-- The lexer's loop, over its definition.
use Rattle.std.proofs.Common.{◌≡◌, ℕ, zero, suc, ◌+◌, ◌<◌, ◌≤◌, Bool, true, false, List, [], ◌∷◌, ◌++◌, length, get_or, drop, Result, Ok, Err, refl, sym, ◌∙◌, ap, subst, append_assoc, arith, eqb, cond}
use Rattle.std.proofs.Math.Seq.{drop-cons}
use Rattle.std.proofs.lemmas.List.{drop-drop}
use Rattle.qm_lex.specs.declared.tokens.Token.{Token}
use Rattle.qm_lex.specs.declared.tokens.TokenKind.{TokenKind}
use Rattle.qm_lex.specs.declared.lexer.Piece.{Piece}
use Rattle.qm_lex.specs.declared.lexer.Piece.TheVariants.{Gap, Part, Bad}
use Rattle.qm_lex.specs.Lexing.{with_first, line_after, behind, tokens_from, tokens_of}
use Rattle.qm_lex.specs.Pieces.{IsPiece}

abbrev pub with_front : List Token → Result (List Token) ℕ → Result (List Token) ℕ
with_front ts (Ok us) = Ok (ts ++ us)
with_front ts (Err line) = Err line

with_front-first : (ts : List Token) (t : Token) (r : Result (List Token) ℕ) → with_front ts (with_first t r) ≡ with_front (ts ++ t ∷ []) r
with_front-first ts t (Ok us) = ap Ok (sym (append_assoc ts (t ∷ []) us))
with_front-first ts t (Err line) = refl

with_front-none : (r : Result (List Token) ℕ) → with_front [] r ≡ r
with_front-none (Ok us) = refl
with_front-none (Err line) = refl

-- what was read so far, with what is read from here on, is the whole
pub record Ahead (text : List ℕ) (items : List Token) (at line : ℕ) : Type 0 where
  pub bound : ℕ
  pub enough : length text ≤ at + bound
  pub reads : with_front items (tokens_from bound at line (drop at text)) ≡ tokens_of text

pub Ahead-start : (text : List ℕ) → Ahead text [] 0 1
Ahead-start text = record { bound = length text; enough = omega arith; reads = with_front-none (tokens_from (length text) 0 1 text) }

-- one piece
record Stands (text : List ℕ) (items : List Token) (at line : ℕ) (p : Piece) : Type 0 where
  n : ℕ
  rest : List ℕ
  enough : length text ≤ at + suc n
  is : drop at text ≡ get_or text at 0 ∷ rest
  reads : with_front items (behind (tokens_from n) at line (get_or text at 0) rest p) ≡ tokens_of text

stands : (text : List ℕ) (items : List Token) (at line : ℕ) (p : Piece) → Ahead text items at line → at < length text → IsPiece (drop at text) p → Stands text items at line p
stands text items at line p a h i = by_bound a.bound a.enough a.reads
  where
    cell : drop at text ≡ get_or text at 0 ∷ drop (suc at) text
    cell = drop-cons text at 0 h

    piece : IsPiece (get_or text at 0 ∷ drop (suc at) text) p
    piece = subst (λ (x : List ℕ). IsPiece x p) cell i

    by_bound : (m : ℕ) → length text ≤ at + m → with_front items (tokens_from m at line (drop at text)) ≡ tokens_of text → Stands text items at line p
    by_bound zero e r = absurd (omega arith)
    by_bound (suc m) e r = record {
      n = m;
      rest = drop (suc at) text;
      enough = e;
      is = cell;
      reads = ap (λ x. with_front items (behind (tokens_from m) at line (get_or text at 0) (drop (suc at) text) x)) piece ∙ (subst (λ (x : List ℕ). with_front items (tokens_from (suc m) at line x) ≡ tokens_of text) cell r);
    }

pub Ahead-gap : (text : List ℕ) (items : List Token) (at line len : ℕ) → Ahead text items at line → at < length text → 0 < len → IsPiece (drop at text) (Gap len) → Ahead text items (at + len) (line_after (get_or text at 0) line)
Ahead-gap text items at line len a h some i = let s = stands text items at line (Gap len) a h i in record {
  bound = s.n;
  enough = omega (arith, s.enough);
  reads = ap (λ x. with_front items (tokens_from s.n (at + len) (line_after (get_or text at 0) line) x)) (sym (drop-drop len at text) ∙ ap (drop len) s.is) ∙ s.reads;
}

pub Ahead-part : (text : List ℕ) (items : List Token) (at line len : ℕ) (kind : TokenKind) → Ahead text items at line → at < length text → 0 < len → IsPiece (drop at text) (Part kind len) → Ahead text (items ++ record { kind = kind; start = at; stop = at + len; line = line } ∷ []) (at + len) line
Ahead-part text items at line len kind a h some i = let s = stands text items at line (Part kind len) a h i in
    let t : Token = record { kind = kind; start = at; stop = at + len; line = line } in record {
      bound = s.n;
      enough = omega (arith, s.enough);
      reads = sym (with_front-first items t (tokens_from s.n (at + len) line (drop (at + len) text))) ∙ ap (λ x. with_front items (with_first t (tokens_from s.n (at + len) line x))) (sym (drop-drop len at text) ∙ ap (drop len) s.is) ∙ s.reads;
    }

pub Ahead-bad : (text : List ℕ) (items : List Token) (at line : ℕ) → Ahead text items at line → at < length text → IsPiece (drop at text) Bad → tokens_of text ≡ Err line
Ahead-bad text items at line a h i = let s = stands text items at line Bad a h i in sym s.reads

pub line_after-le : (b line : ℕ) → line_after b line ≤ line + 1
line_after-le b line = by_test (eqb b 10)
  where
    by_test : (t : Bool) → cond t (line + 1) line ≤ line + 1
    by_test true = omega arith
    by_test false = omega arith
