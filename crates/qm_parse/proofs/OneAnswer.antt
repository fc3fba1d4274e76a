-- Tokens have one source tree at most, or one first fault, never both
use Rattle.std.proofs.Common.{◌≡◌, ℕ, ◌<◌, ◌≤◌, List, [], ◌∷◌, ◌++◌, length, refl, sym, ap, ◌∙◌, subst, append_assoc, arith}
use Rattle.std.specs.Prelude.{slice_get}
use Rattle.std.proofs.Common.{inl, inr}
use Rattle.std.proofs.lemmas.List.{append-nil}
use Rattle.std.proofs.lemmas.Option.{same_Some}
use Rattle.qm_lex.specs.declared.tokens.Token.{Token}
use Rattle.qm_parse.specs.declared.errors.ParseError.{ParseError}
use Rattle.qm_parse.specs.declared.errors.ParseError.TheVariants as errors
use Rattle.qm_parse.specs.declared.words.Mark.{Mark}
use Rattle.qm_parse.specs.declared.words.Mark.TheVariants as mark
use Rattle.qm_parse.specs.Signs.{Sign, Number, Key, Act, Ident, Symbol, signs_of}
use Rattle.qm_parse.specs.Trees.{Program}
use Rattle.qm_parse.specs.Faults.{open_behind, open_after, MayOpen, IsShallow, Spells, CanGoOn, StopsAt, IsTooLarge, IsTooDeep, IsUnexpected, IsUnended}
use Rattle.qm_parse.specs.Parsing.{StopsOn}
use Rattle.qm_parse.specs.Laws.{Refused}
use Rattle.qm_parse.proofs.ListLemmas.{head-same, tail-same}
use Rattle.qm_parse.proofs.Numbers.{Small, SmallSign, small-at, program-small}

-- ---- tokens with which a program may go on, and stops
abbrev Goes : List Sign → Type 0
Goes xs = CanGoOn xs × IsShallow 0 xs

shallow-front : (n : ℕ) (xs ys : List Sign) → IsShallow n (xs ++ ys) → IsShallow n xs
shallow-front n [] ys h = tt
shallow-front n (Symbol m ∷ xs) ys h = (h.0, shallow-front (open_behind m n) xs ys h.1)
shallow-front n (Number v ∷ xs) ys h = shallow-front n xs ys h
shallow-front n (Key k ∷ xs) ys h = shallow-front n xs ys h
shallow-front n (Act v ∷ xs) ys h = shallow-front n xs ys h
shallow-front n (Ident bytes ∷ xs) ys h = shallow-front n xs ys h

goes-front : (xs ys : List Sign) → Goes (xs ++ ys) → Goes xs
goes-front xs ys g =
    let c = g.0 in
    (record { program = c.program; may = c.may; rest = ys ++ c.rest; spelled = c.spelled ∙ append_assoc xs ys c.rest }, shallow-front 0 xs ys g.1)

spells-goes : (signs : List Sign) (p : Program) → Spells signs p → (xs ys : List Sign) → signs ≡ xs ++ ys → Goes xs
spells-goes signs p s xs ys e =
    (record { program = p; may = s.may; rest = ys; spelled = s.spelled ∙ e }, shallow-front 0 xs ys (subst (λ (z : List Sign). IsShallow 0 z) e s.shallow))

-- no program goes on with the stop
abbrev Blocks : List Sign → Sign → Type 0
Blocks front stop = ¬ Goes (front ++ stop ∷ [])

unexpected-blocks : (front : List Sign) (stop : Sign) → IsUnexpected front stop → Blocks front stop
unexpected-blocks front stop h g = h.none g.0

large-blocks : (front : List Sign) (stop : Sign) → IsTooLarge front stop → Blocks front stop
large-blocks front stop h g =
    let c = g.0 in
    let all : Small (front ++ stop ∷ c.rest) = subst (λ (z : List Sign). Small z) (c.spelled ∙ append_assoc front (stop ∷ []) c.rest) (program-small c.program c.may) in
    let v : h.value ≤ 2147483647 = subst (λ (t : Sign). SmallSign t) h.number (small-at front stop c.rest all) in
    let l = h.large in
    absurd (omega (arith, v, l))

opens-last : (n : ℕ) (xs : List Sign) (m : Mark) → IsShallow n (xs ++ Symbol m ∷ []) → MayOpen m (open_after n xs)
opens-last n [] m h = h.0
opens-last n (Symbol k ∷ xs) m h = opens-last (open_behind k n) xs m h.1
opens-last n (Number v ∷ xs) m h = opens-last n xs m h
opens-last n (Key k ∷ xs) m h = opens-last n xs m h
opens-last n (Act v ∷ xs) m h = opens-last n xs m h
opens-last n (Ident bytes ∷ xs) m h = opens-last n xs m h

deep-blocks : (front : List Sign) (stop : Sign) → IsTooDeep front stop → Blocks front stop
deep-blocks front stop h g = elim h.opens [
  | inl e ↦ let l : open_after 0 front < 32 = opens-last 0 front mark.OpenBrace (subst (λ (t : Sign). IsShallow 0 (front ++ t ∷ [])) e g.1) in let d = h.deep in absurd (omega (arith, l, d))
  | inr e ↦ let l : open_after 0 front < 32 = opens-last 0 front mark.OpenParenthesis (subst (λ (t : Sign). IsShallow 0 (front ++ t ∷ [])) e g.1) in let d = h.deep in absurd (omega (arith, l, d))
]

-- ---- two stops in the same tokens
-- they are one, or one is behind the other
data Two (f g : List Sign) (s t : Sign) : Type 0 where
  One : f ≡ g → s ≡ t → Two f g s t
  Behind : (m : List Sign) → g ≡ (f ++ s ∷ []) ++ m → Two f g s t
  Before : (m : List Sign) → f ≡ (g ++ t ∷ []) ++ m → Two f g s t

more : (x y : Sign) (f g : List Sign) (s t : Sign) → x ≡ y → Two f g s t → Two (x ∷ f) (y ∷ g) s t
more x y f g s t e (One a b) = One (ap (λ (z : Sign). z ∷ f) e ∙ ap (λ z. y ∷ z) a) b
more x y f g s t e (Behind m a) = Behind m (ap (λ (z : Sign). z ∷ g) (sym e) ∙ ap (λ z. x ∷ z) a)
more x y f g s t e (Before m a) = Before m (ap (λ (z : Sign). z ∷ f) e ∙ ap (λ z. y ∷ z) a)

two : (f g : List Sign) (s t : Sign) (xs ys : List Sign) → f ++ s ∷ xs ≡ g ++ t ∷ ys → Two f g s t
two [] [] s t xs ys e = One refl (head-same e)
two [] (y ∷ g) s t xs ys e = Behind g (ap (λ (z : Sign). z ∷ g) (sym (head-same e)))
two (x ∷ f) [] s t xs ys e = Before f (ap (λ (z : Sign). z ∷ f) (head-same e))
two (x ∷ f) (y ∷ g) s t xs ys e = more x y f g s t (head-same e) (two f g s t xs ys (tail-same e))

one-stop : (signs f g : List Sign) (s t : Sign) → StopsAt signs f s → StopsAt signs g t → Blocks f s → Blocks g t → (f ≡ g) × (s ≡ t)
one-stop signs f g s t a b p q = by_place (two f g s t a.rest b.rest (sym a.whole ∙ b.whole))
  where
    by_place : Two f g s t → (f ≡ g) × (s ≡ t)
    by_place (One e k) = (e, k)
    by_place (Behind m e) = absurd (p (goes-front (f ++ s ∷ []) m (subst (λ (z : List Sign). Goes z) e (b.before, b.shallow))))
    by_place (Before m e) = absurd (q (goes-front (g ++ t ∷ []) m (subst (λ (z : List Sign). Goes z) e (a.before, a.shallow))))

-- ---- reasons
abbrev Blocking : (List Sign → Sign → Type 0) → Type 0
Blocking reason = (front : List Sign) (stop : Sign) → reason front stop → Blocks front stop

same-line : (R Q : List Sign → Sign → Type 0) → Blocking R → Blocking Q → (text : List ℕ) (tokens : List Token) (k l : ℕ) → StopsOn R text tokens k → StopsOn Q text tokens l → k ≡ l
same-line R Q p q text tokens k l a b =
    let o = one-stop (signs_of text tokens) a.front b.front a.stop b.stop a.stops b.stops (p a.front a.stop a.why) (q b.front b.stop b.why) in
    let t : a.token ≡ b.token = same_Some a.token b.token (sym a.there ∙ ap (λ (f : List Sign). slice_get tokens (length f)) o.0 ∙ b.there) in
    a.on ∙ ap (λ (x : Token). x.line) t ∙ sym b.on

-- two reasons that exclude each other
apart : (R Q : List Sign → Sign → Type 0) → Blocking R → Blocking Q → ((front : List Sign) (stop : Sign) → R front stop → Q front stop → ⊥)
    → (text : List ℕ) (tokens : List Token) (k l : ℕ) → StopsOn R text tokens k → StopsOn Q text tokens l → ⊥
apart R Q p q never text tokens k l a b =
    let o = one-stop (signs_of text tokens) a.front b.front a.stop b.stop a.stops b.stops (p a.front a.stop a.why) (q b.front b.stop b.why) in
    never b.front b.stop (subst (λ (s : Sign). R b.front s) o.1 (subst (λ (f : List Sign). R f a.stop) o.0 a.why)) b.why

unexpected-large : (front : List Sign) (stop : Sign) → IsUnexpected front stop → IsTooLarge front stop → ⊥
unexpected-large front stop a b = a.other b

unexpected-deep : (front : List Sign) (stop : Sign) → IsUnexpected front stop → IsTooDeep front stop → ⊥
unexpected-deep front stop a b = a.none b.may

large-deep : (front : List Sign) (stop : Sign) → IsTooLarge front stop → IsTooDeep front stop → ⊥
large-deep front stop a b = elim b.opens [
  | inl e ↦ let h : Number a.value ≡ Symbol mark.OpenBrace = sym a.number ∙ e in cc
  | inr e ↦ let h : Number a.value ≡ Symbol mark.OpenParenthesis = sym a.number ∙ e in cc
]

-- tokens that go on to their end have no stop
no-stop-in : (R : List Sign → Sign → Type 0) → Blocking R → (text : List ℕ) (tokens : List Token) (k : ℕ) → Goes (signs_of text tokens) → StopsOn R text tokens k → ⊥
no-stop-in R p text tokens k g a =
    let s = a.stops in
    p a.front a.stop a.why
    (goes-front (a.front ++ a.stop ∷ []) s.rest (subst (λ (z : List Sign). Goes z) (s.whole ∙ sym (append_assoc a.front (a.stop ∷ []) s.rest)) g))

whole-goes : (signs : List Sign) (p : Program) → Spells signs p → Goes signs
whole-goes signs p s = spells-goes signs p s signs [] (sym (append-nil signs))

-- ---- the laws
pub tree-or-fault : (text : List ℕ) (tokens : List Token) (p : Program) (e : ParseError) → Spells (signs_of text tokens) p → Refused text tokens e → ⊥
tree-or-fault text tokens p (errors.Unexpected k) s h = no-stop-in IsUnexpected unexpected-blocks text tokens k (whole-goes (signs_of text tokens) p s) h
tree-or-fault text tokens p (errors.NumberTooLarge k) s h = no-stop-in IsTooLarge large-blocks text tokens k (whole-goes (signs_of text tokens) p s) h
tree-or-fault text tokens p (errors.TooDeep k) s h = no-stop-in IsTooDeep deep-blocks text tokens k (whole-goes (signs_of text tokens) p s) h
tree-or-fault text tokens p (errors.Unended k) s h = h.0.short p s
tree-or-fault text tokens p errors.Memory s h = h

ended-goes : (signs : List Sign) → IsUnended signs → Goes signs
ended-goes signs h = (h.before, h.shallow)

pub one-fault : (text : List ℕ) (tokens : List Token) (e f : ParseError) → Refused text tokens e → Refused text tokens f → e ≡ f
one-fault text tokens (errors.Unexpected k) (errors.Unexpected l) a b = ap (λ n. errors.Unexpected n) (same-line IsUnexpected IsUnexpected unexpected-blocks unexpected-blocks text tokens k l a b)
one-fault text tokens (errors.NumberTooLarge k) (errors.NumberTooLarge l) a b = ap (λ n. errors.NumberTooLarge n) (same-line IsTooLarge IsTooLarge large-blocks large-blocks text tokens k l a b)
one-fault text tokens (errors.TooDeep k) (errors.TooDeep l) a b = ap (λ n. errors.TooDeep n) (same-line IsTooDeep IsTooDeep deep-blocks deep-blocks text tokens k l a b)
one-fault text tokens (errors.Unended k) (errors.Unended l) a b = ap (λ n. errors.Unended n) (a.1 ∙ sym b.1)
one-fault text tokens (errors.Unexpected k) (errors.NumberTooLarge l) a b = absurd (apart IsUnexpected IsTooLarge unexpected-blocks large-blocks unexpected-large text tokens k l a b)
one-fault text tokens (errors.NumberTooLarge k) (errors.Unexpected l) a b = absurd (apart IsUnexpected IsTooLarge unexpected-blocks large-blocks unexpected-large text tokens l k b a)
one-fault text tokens (errors.Unexpected k) (errors.TooDeep l) a b = absurd (apart IsUnexpected IsTooDeep unexpected-blocks deep-blocks unexpected-deep text tokens k l a b)
one-fault text tokens (errors.TooDeep k) (errors.Unexpected l) a b = absurd (apart IsUnexpected IsTooDeep unexpected-blocks deep-blocks unexpected-deep text tokens l k b a)
one-fault text tokens (errors.NumberTooLarge k) (errors.TooDeep l) a b = absurd (apart IsTooLarge IsTooDeep large-blocks deep-blocks large-deep text tokens k l a b)
one-fault text tokens (errors.TooDeep k) (errors.NumberTooLarge l) a b = absurd (apart IsTooLarge IsTooDeep large-blocks deep-blocks large-deep text tokens l k b a)
one-fault text tokens (errors.Unexpected k) (errors.Unended l) a b = absurd (no-stop-in IsUnexpected unexpected-blocks text tokens k (ended-goes (signs_of text tokens) b.0) a)
one-fault text tokens (errors.Unended k) (errors.Unexpected l) a b = absurd (no-stop-in IsUnexpected unexpected-blocks text tokens l (ended-goes (signs_of text tokens) a.0) b)
one-fault text tokens (errors.NumberTooLarge k) (errors.Unended l) a b = absurd (no-stop-in IsTooLarge large-blocks text tokens k (ended-goes (signs_of text tokens) b.0) a)
one-fault text tokens (errors.Unended k) (errors.NumberTooLarge l) a b = absurd (no-stop-in IsTooLarge large-blocks text tokens l (ended-goes (signs_of text tokens) a.0) b)
one-fault text tokens (errors.TooDeep k) (errors.Unended l) a b = absurd (no-stop-in IsTooDeep deep-blocks text tokens k (ended-goes (signs_of text tokens) b.0) a)
one-fault text tokens (errors.Unended k) (errors.TooDeep l) a b = absurd (no-stop-in IsTooDeep deep-blocks text tokens l (ended-goes (signs_of text tokens) a.0) b)
one-fault text tokens errors.Memory f a b = absurd a
one-fault text tokens e errors.Memory a b = absurd b
