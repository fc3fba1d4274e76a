-- What tokens are, by their signs
use Rattle.std.proofs.Common.{◌≡◌, ◌∙◌, ℕ, suc, ◌+◌, List, [], ◌∷◌, ◌++◌, length, map, get_or, Option, Some, None, refl, sym, ap, subst, arith, if◌then◌else◌}
use Rattle.std.specs.Prelude.{slice_get, ◌==◌}
use Rattle.qm_lex.specs.declared.tokens.Token.{Token}
use Rattle.qm_lex.specs.declared.tokens.TokenKind.{TokenKind}
use Rattle.qm_lex.specs.declared.tokens.TokenKind.TheVariants as kind
use Rattle.qm_parse.specs.declared.words.Reserved.{Reserved}
use Rattle.qm_parse.specs.declared.words.Reserved.TheVariants as reserved
use Rattle.qm_parse.specs.declared.words.Verb.{Verb}
use Rattle.qm_parse.specs.declared.words.Version.{Version}
use Rattle.qm_parse.specs.declared.words.Version.TheVariants as version
use Rattle.qm_parse.specs.Words.{reserved_of}
use Rattle.qm_parse.proofs.ListLemmas.{head-same, tail-same}
use Rattle.qm_parse.specs.Signs.{Sign, Number, Act, Ident, word_sign, sign, bytes_of, sign_of, signs_of, verb_of, verbs_of, version_by, version_of}
use Rattle.qm_expand.specs.Walk.{Words, words_in, token_bytes}

-- a token with these bytes, which names this instruction, has a sign
abbrev pub SaidBy : Sign → List ℕ → Option Verb → Type 0
SaidBy (Act v) word verb = verb ≡ Some v
SaidBy (Ident name) word verb = word ≡ name
SaidBy t word verb = Unit {0}

-- the tokens from a number on have these signs
abbrev pub Says : Words → ℕ → List Sign → Type 0
Says words at [] = Unit {0}
Says words at (t ∷ ts) = SaidBy t (words.bytes at) (words.verbs at) × Says words (at + 1) ts

pub says-at : (words : Words) (ts : List Sign) (a b : ℕ) → a ≡ b → Says words a ts → Says words b ts
says-at words ts a b e h = subst (λ n. Says words n ts) e h

pub says-split : (words : Words) (xs ys : List Sign) (at : ℕ) → Says words at (xs ++ ys) → Says words at xs × Says words (at + length xs) ys
says-split words [] ys at h = (tt, says-at words ys at (at + 0) (omega arith) h)
says-split words (x ∷ xs) ys at h =
    let r = says-split words xs ys (at + 1) h.1 in
    ((h.0, r.0), says-at words ys (at + 1 + length xs) (at + length (x ∷ xs)) (omega arith) r.1)

-- ---- the tokens of a text
said-word : (word : List ℕ) (r : Option Reserved) → SaidBy (word_sign word r) word (verb_of (word_sign word r))
said-word word (Some (reserved.Keyword k)) = tt
said-word word (Some (reserved.Verb v)) = refl
said-word word None = refl

said-token : (v : Version) (k : TokenKind) (bytes : List ℕ) → SaidBy (sign v k bytes) bytes (verb_of (sign v k bytes))
said-token v kind.Word bytes = said-word bytes (reserved_of v bytes)
said-token v kind.Number bytes = tt
said-token v kind.Symbol bytes = tt

says-from : (v : Version) (text : List ℕ) (tokens us : List Token) (at : ℕ) → ((j : ℕ) → slice_get tokens (at + j) ≡ slice_get us j)
    → ((j : ℕ) → get_or (map verb_of (map (sign_of v text) tokens)) (at + j) None ≡ get_or (map verb_of (map (sign_of v text) us)) j None)
    → Says (words_in text tokens (map verb_of (map (sign_of v text) tokens))) at (map (sign_of v text) us)
says-from v text tokens [] at h g = tt
says-from v text tokens (u ∷ us) at h g =
    let here : at ≡ at + 0 = omega arith in
    let next : (j : ℕ) → at + 1 + j ≡ at + suc j = λ j. omega arith in
    let verbs = map verb_of (map (sign_of v text) tokens) in
    let t = sign_of v text u in
    let is : token_bytes text (slice_get tokens at) ≡ bytes_of text u = ap (λ n. token_bytes text (slice_get tokens n)) here ∙ ap (token_bytes text) (h 0) in
    let does : get_or verbs at None ≡ verb_of t = ap (λ n. get_or verbs n None) here ∙ g 0 in (
      subst (SaidBy t (token_bytes text (slice_get tokens at))) (sym does) (subst (λ (word : List ℕ). SaidBy t word (verb_of t)) (sym is) (said-token v u.kind (bytes_of text u))),
      says-from v text tokens us (at + 1) (λ j. ap (slice_get tokens) (next j) ∙ h (suc j)) (λ j. ap (λ n. get_or verbs n None) (next j) ∙ g (suc j)),
    )

pub says-all : (text : List ℕ) (tokens : List Token) → Says (words_in text tokens (verbs_of text tokens)) 0 (signs_of text tokens)
says-all text tokens =
    let all : (j : ℕ) → 0 + j ≡ j = λ j. omega arith in
    says-from (version_of text tokens) text tokens tokens 0 (λ j. ap (slice_get tokens) (all j)) (λ j. ap (λ n. get_or (verbs_of text tokens) n None) (all j))

-- ---- the version that a text names
pub version-named : (text : List ℕ) (tokens : List Token) (a : Sign) (n : ℕ) (ts : List Sign) → map (sign_of version.One text) tokens ≡ a ∷ Number n ∷ ts
    → version_of text tokens ≡ (if n == 2 then version.Two else version.One)
version-named text [] a n ts e = cc
version-named text (u ∷ []) a n ts e = cc
version-named text (u ∷ v ∷ us) a n ts e = ap (λ s. version_by (Some s)) (head-same (tail-same e))

pub older-signs : (text : List ℕ) (tokens : List Token) (a : Sign) (ts : List Sign) → map (sign_of version.One text) tokens ≡ a ∷ Number 1 ∷ ts → signs_of text tokens ≡ a ∷ Number 1 ∷ ts
older-signs text tokens a ts e = ap (λ v. map (sign_of v text) tokens) (version-named text tokens a 1 ts e) ∙ e
