-- Numbers that wait for an operator
use Rattle.std.proofs.Common.{◌≡◌, ◌≢◌, ◌∙◌, ℕ, ℤ, List, [], ◌∷◌, ◌++◌, reverse, Result, Ok, Err, refl, ap}
use Rattle.std.proofs.lemmas.List.{reverse-append}
use Rattle.qm_parse.specs.declared.tree.What.{What}
use Rattle.qm_parse.specs.declared.tree.What.TheVariants as what
use Rattle.qm_expand.specs.declared.ReadError.{ReadError}
use Rattle.qm_expand.specs.declared.ReadError.TheVariants as errors
use Rattle.qm_expand.specs.Steps.{Outcome, ◌>>=◌}
use Rattle.qm_expand.specs.Values.{Scope}
use Rattle.qm_expand.specs.Walk.{Words, Fails, Answers, pushed, on_two, onto}
use Rattle.qm_expand.specs.Views.{IsPushed}

-- a fault of a step is that of the whole
pub Fails-then : {A B : Type 0} (e : ReadError) (o : Outcome A) (f : A → Outcome B) → Fails e o → Fails e (o >>= f)
Fails-then errors.Memory o f h = tt
Fails-then (errors.BadByte line) o f h = absurd h
Fails-then (errors.Unexpected line) o f h = absurd h
Fails-then (errors.NumberTooLarge line) o f h = absurd h
Fails-then (errors.TooDeep line) o f h = absurd h
Fails-then (errors.Unended line) o f h = absurd h
Fails-then (errors.UnknownName line) o f h = ap (λ z. z >>= f) h
Fails-then (errors.OutOfRange line) o f h = ap (λ z. z >>= f) h
Fails-then (errors.TooMany line) o f h = ap (λ z. z >>= f) h

pub IsPushed-from : (left : List ℤ) (r : Result ℤ ReadError) (o : Outcome ℤ) → Answers (λ z. z) r o → IsPushed left r (onto left o)
IsPushed-from left (Ok z) o h = ap (onto left) h
IsPushed-from left (Err e) o h = Fails-then e o (λ z. Ok (z ∷ left)) h

-- the newest number of a stack
pub reverse_push : (xs ys : List ℤ) (x : ℤ) → xs ≡ ys ++ x ∷ [] → reverse xs ≡ x ∷ reverse ys
reverse_push xs ys x e = ap reverse e ∙ reverse-append ys (x ∷ [])

-- an operator takes two
module _ (words : Words) (line : ℕ) (s : Scope) (token value : ℕ) (stack : List ℤ) where
  pub pushed-op : (w : What) → w ≢ what.Num → w ≢ what.Name → w ≢ what.Rank → w ≢ what.Size → pushed words line s w token value stack ≡ on_two line w stack
  pushed-op what.Num a b c d = absurd (a refl)
  pushed-op what.Name a b c d = absurd (b refl)
  pushed-op what.Rank a b c d = absurd (c refl)
  pushed-op what.Size a b c d = absurd (d refl)
  pushed-op what.Plus a b c d = refl
  pushed-op what.Minus a b c d = refl
  pushed-op what.Times a b c d = refl
  pushed-op what.Over a b c d = refl
  pushed-op what.Rest a b c d = refl
  pushed-op what.Arg a b c d = refl
  pushed-op what.Instr a b c d = refl
  pushed-op what.For a b c d = refl
  pushed-op what.All a b c d = refl
  pushed-op what.Block a b c d = refl
  pushed-op what.Own a b c d = refl
  pushed-op what.Protocol a b c d = refl
  pushed-op what.Bits a b c d = refl
