-- Instructions added one by one
use Rattle.std.proofs.Common.{◌≡◌, ◌∙◌, ℕ, zero, suc, ◌+◌, ◌<◌, true, cond, ltb, List, [], ◌∷◌, length, drop, Some, Result, Ok, Err, refl, sym, ap, subst, arith}
use Rattle.std.specs.Prelude.{slice_get, IsErrAnd}
use Rattle.std.proofs.lemmas.Bool.Decides.{nat_tests}
use Rattle.std.proofs.lemmas.Option.{same_Some, none-some}
use Rattle.std.proofs.lemmas.Result.{err_from_is_err_and}
use Rattle.qm_instr.specs.declared.Instr.{Instr}
use Rattle.qm_instr.specs.Programs.{Programs, rank_of, with_instruction, instruction_total}
use Rattle.qm_expand.specs.declared.ReadError.{ReadError}
use Rattle.qm_expand.specs.Steps.{Outcome, ◌>>=◌, OutOfRange, TooMany}
use Rattle.qm_expand.specs.Drafts.{Draft, draft, has_operands, counted, with_made, with_each}
use Rattle.qm_expand.specs.Walk.{Fails, Answers}
use Rattle.qm_expand.proofs.StackLemmas.{Fails-then}

-- the exit of a `?`: the whole is this step, and what follows
pub Answers-exit : {Y A B : Type 0} (view : Y → B) (r : Result Y ReadError) (x : ReadError) (step : Outcome A) (f : A → Outcome B) (whole : Outcome B)
    → IsErrAnd r (λ y. y ≡ x) → Fails x step → whole ≡ (step >>= f) → Answers view r whole
Answers-exit view r x step f whole h s w =
    let p = err_from_is_err_and r h in
    subst (λ q. Answers view q whole) (sym (p.1 ∙ ap Err p.2)) (subst (Fails x) (sym w) (Fails-then x step f s))

module _ (line rank : ℕ) (i : Instr) (p q : Programs) (t : ℕ) (ok : has_operands (rank_of p rank).qubits i ≡ true) where
  pub made_ok : instruction_total p < 100000 → q ≡ with_instruction p rank i → with_made line rank i (draft p t) ≡ Ok (draft q t)
  made_ok few same =
      ap (λ b. cond b (counted line rank i (draft p t)) (Err (OutOfRange line))) ok
      ∙ ap (λ b. cond b (Ok (draft (with_instruction p rank i) t)) (Err (TooMany line))) below
      ∙ ap (λ x. Ok (draft x t)) (sym same)
    where
      below : ltb (instruction_total p) 100000 ≡ true
      below = grind (arith, nat_tests)

pub drop_found : {A : Type 0} (xs : List A) (j : ℕ) (x : A) → slice_get xs j ≡ Some x → drop j xs ≡ x ∷ drop (j + 1) xs
drop_found [] j x e = absurd (none-some x e)
drop_found (y ∷ ys) zero x e = ap (λ z. z ∷ ys) (same_Some y x e)
drop_found (y ∷ ys) (suc j) x e = let n : suc (j + 1) ≡ suc j + 1 = omega arith in drop_found ys j x e ∙ ap (λ k. x ∷ drop k (y ∷ ys)) n

pub each_more : (line rank : ℕ) (is : List Instr) (j : ℕ) (i : Instr) (d : Draft) → slice_get is j ≡ Some i
    → with_each line rank (drop j is) d ≡ (with_made line rank i d >>= with_each line rank (drop (j + 1) is))
each_more line rank is j i d e = ap (λ xs. with_each line rank xs d) (drop_found is j i e)

pub some_within : {A : Type 0} (xs : List A) (j : ℕ) → j < length xs → (x : A) × (slice_get xs j ≡ Some x)
some_within [] j h = absurd (omega arith)
some_within (x ∷ xs) zero h = (x, refl)
some_within (x ∷ xs) (suc j) h = some_within xs j (let l : suc j < suc (length xs) = h in omega arith)
