-- The tokens of a text as the reading sees them
use Rattle.std.proofs.Common.{◌≡◌, ℕ, zero, suc, ◌+◌, ◌<◌, ◌≤◌, Bool, true, false, nat_le, List, [], ◌∷◌, ◌++◌, map, length, take, drop, get_or, Some, refl, sym, ap, subst, ◌∙◌, arith, if◌then◌else◌}
use Rattle.std.specs.Prelude.{◌==◌}
use Rattle.std.proofs.lemmas.Bool.Decides.{nat_tests}
use Rattle.std.proofs.lemmas.List.{take_more, map-append}
use Rattle.std.proofs.lemmas.Option.{slice_get-get_or}
use Rattle.qm_lex.specs.declared.tokens.Token.{Token}
use Rattle.qm_lex.specs.declared.tokens.TokenKind.{TokenKind}
use Rattle.qm_lex.specs.declared.tokens.TokenKind.TheVariants as kind
use Rattle.qm_lex.specs.Spans.{LieIn}
use Rattle.qm_lex.proofs.SpanLemmas.{SpansRise-at}
use Rattle.qm_parse.specs.declared.looks.Look.{Look}
use Rattle.qm_parse.specs.declared.words.Version.{Version}
use Rattle.qm_parse.specs.declared.words.Version.TheVariants as version
use Rattle.qm_parse.specs.Signs.{Sign, sign, sign_of, bytes_of, signs_of, version_by, version_of}
use Rattle.qm_parse.specs.declared.looks.Look.TheVariants as look
use Rattle.qm_parse.specs.Looks.{look_of, look_at, look_next, verb_seen, version_seen}
use Rattle.qm_parse.specs.Signs.{verb_of, verbs_of, Number, Key, Act, Ident, Symbol}
use Rattle.qm_parse.specs.Weights.{HasFewOperands}
use Rattle.qm_parse.proofs.WordLemmas.{few-word, capped-small, capped-large}

-- the next look is that of the next token
look_next-at : (signs : List Sign) (j : ℕ) → look_next (drop j (map look_of signs)) ≡ look_at (drop j signs)
look_next-at [] zero = refl
look_next-at [] (suc j) = refl
look_next-at (s ∷ ss) zero = refl
look_next-at (s ∷ ss) (suc j) = look_next-at ss j

pub next-look : (signs : List Sign) (j : ℕ) (l : Look) (ls : List Look) → ls ≡ map look_of signs → l ≡ look_next (drop j ls) → l ≡ look_at (drop j signs)
next-look signs j l ls e k = k ∙ ap (λ xs. look_next (drop j xs)) e ∙ look_next-at signs j

-- a token lies in the text
pub LieIn-at : (text : List ℕ) (us ts : List Token) (j : ℕ) (d : Token) → us ≡ ts → LieIn text ts → j < length us
    → ((get_or us j d).start < (get_or us j d).stop) × ((get_or us j d).stop ≤ length text)
LieIn-at text us ts j d e lie h = SpansRise-at 0 (length text) us j (get_or us j d) (rw e lie) (sym (slice_get-get_or us j d h))

-- tokens of a text of a version, as the reading sees them
abbrev pub looks_in : Version → List ℕ → List Token → List Look
looks_in v text ts = map look_of (map (sign_of v text) ts)

-- one token more
pub looks-more : (v : Version) (text : List ℕ) (ts : List Token) (j : ℕ) (d : Token) (l : Look) (ls : List Look) → ls ≡ looks_in v text (take j ts)
    → l ≡ look_of (sign_of v text (get_or ts j d)) → j < length ts → ls ++ l ∷ [] ≡ looks_in v text (take (j + 1) ts)
looks-more v text ts j d l ls e k h =
    ap (λ xs. xs ++ l ∷ []) e ∙ ap (λ x. looks_in v text (take j ts) ++ x ∷ []) k
    ∙ sym (map-append look_of (map (sign_of v text) (take j ts)) (sign_of v text (get_or ts j d) ∷ []))
    ∙ ap (map look_of) (sym (map-append (sign_of v text) (take j ts) (get_or ts j d ∷ [])))
    ∙ sym (ap (looks_in v text) (take_more ts j d h))

-- the version that a token names
pub version-seen : (s : Sign) → version_seen (look_of s) ≡ version_by (Some s)
version-seen (Number v) = by_size (nat_le v 2147483647) refl
  where
    by_size : (b : Bool) → nat_le v 2147483647 ≡ b → version_seen (look_of (Number v)) ≡ version_by (Some (Number v))
    by_size true k = let small : v ≤ 2147483647 = grind (arith, nat_tests) in ap (λ n. version_seen (look.Number n)) (capped-small v small)
    by_size false k =
        let large : 2147483647 < v = grind (arith, nat_tests) in
        let other : v == 2 ≡ false = grind (arith, nat_tests) in
        ap (λ n. version_seen (look.Number n)) (capped-large v large) ∙ sym (ap (λ (b : Bool). if b then version.Two else version.One) other)
version-seen (Key k) = refl
version-seen (Act v) = refl
version-seen (Ident bytes) = refl
version-seen (Symbol m) = refl

-- the verbs of looks are those of their tokens
verb-seen : (s : Sign) → verb_seen (look_of s) ≡ verb_of s
verb-seen (Number v) = refl
verb-seen (Key k) = refl
verb-seen (Act v) = refl
verb-seen (Ident bytes) = refl
verb-seen (Symbol m) = refl

pub verbs-seen : (ss : List Sign) → map verb_seen (map look_of ss) ≡ map verb_of ss
verbs-seen [] = refl
verbs-seen (s ∷ ss) = ap (λ v. v ∷ map verb_seen (map look_of ss)) (verb-seen s) ∙ ap (λ vs. verb_of s ∷ vs) (verbs-seen ss)

-- each verb has few operands
few-sign : (v : Version) (k : TokenKind) (bytes : List ℕ) → HasFewOperands (look_of (sign v k bytes))
few-sign v kind.Word bytes = few-word v bytes
few-sign v kind.Number bytes = tt
few-sign v kind.Symbol bytes = tt

few-look-in : (v : Version) (text : List ℕ) (ts : List Token) (j : ℕ) → HasFewOperands (look_at (drop j (map (sign_of v text) ts)))
few-look-in v text [] zero = tt
few-look-in v text [] (suc j) = tt
few-look-in v text (t ∷ ts) zero = few-sign v t.kind (bytes_of text t)
few-look-in v text (t ∷ ts) (suc j) = few-look-in v text ts j

pub few-look : (text : List ℕ) (ts : List Token) (j : ℕ) → HasFewOperands (look_at (drop j (signs_of text ts)))
few-look text ts j = few-look-in (version_of text ts) text ts j

pub few-next : (text : List ℕ) (ts : List Token) (j : ℕ) (l : Look) → l ≡ look_at (drop j (signs_of text ts)) → HasFewOperands l
few-next text ts j l e = subst (λ (x : Look). HasFewOperands x) (sym e) (few-look text ts j)
