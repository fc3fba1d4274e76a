-- A schedule with one entry more, and what holds after each legal schedule
use Rattle.std.proofs.Common.{◌≡◌, ℕ, zero, suc, ◌+◌, ◌<◌, List, [], ◌∷◌, ◌++◌, length, fold, Some, slice_get, refl, sym, ap, subst, ◌∙◌, arith}
use Rattle.std.proofs.lemmas.List.Sums.{fold_push}
use Rattle.std.proofs.lemmas.Option.{same_Some}
use Rattle.qm_instr.specs.Programs.{Programs}
use Rattle.qm_proto.specs.Model.State.{State}
use Rattle.qm_proto.specs.Model.Runs.{next}
use Rattle.qm_proto.specs.Model.Schedules.{state_at_start, replay, MayStep, IsLegal, IsLegalFrom}

pub replay-push : (p : Programs) (rs : List ℕ) (r : ℕ) → replay p (rs ++ r ∷ []) ≡ next p (replay p rs) r
unfolding replay
replay-push p rs r = fold_push (next p) (state_at_start p) rs r

legal_from-push : (p : Programs) (s : State) (rs : List ℕ) (r : ℕ)
    → IsLegalFrom p s rs → MayStep p (fold (next p) s rs) r → IsLegalFrom p s (rs ++ r ∷ [])
legal_from-push p s [] r legal may = (may, tt)
legal_from-push p s (q ∷ rs) r legal may = (legal.0, legal_from-push p (next p s q) rs r legal.1 may)

pub legal-push : (p : Programs) (rs : List ℕ) (r : ℕ) → IsLegal p rs → MayStep p (replay p rs) r → IsLegal p (rs ++ r ∷ [])
unfolding replay IsLegal
legal-push p rs r legal may = legal_from-push p (state_at_start p) rs r legal may

-- each entry of a legal schedule is a rank that there is
legal_from-known : (p : Programs) (s : State) (rs : List ℕ) (n r : ℕ) → IsLegalFrom p s rs → slice_get rs n ≡ Some r → r < length p.ranks
legal_from-known p s [] n r legal entry = cc
legal_from-known p s (q ∷ rs) zero r legal entry = subst (λ k. k < length p.ranks) (same_Some q r entry) legal.0.known
legal_from-known p s (q ∷ rs) (suc n) r legal entry = legal_from-known p (next p s q) rs n r legal.1 entry

pub legal-known : (p : Programs) (rs : List ℕ) (n r : ℕ) → IsLegal p rs → slice_get rs n ≡ Some r → r < length p.ranks
unfolding IsLegal
legal-known p rs n r legal entry = legal_from-known p (state_at_start p) rs n r legal entry

-- what is so of a state, and stays so at each step, is so after legal steps; n counts the steps
legal_from_counted : (p : Programs) (P : ℕ → State → Type 0)
    → ((n : ℕ) (s : State) (r : ℕ) → P n s → MayStep p s r → P (n + 1) (next p s r))
    → (n : ℕ) (s : State) (rs : List ℕ) → P n s → IsLegalFrom p s rs → P (n + length rs) (fold (next p) s rs)
legal_from_counted p P step n s [] h legal = let e : n ≡ n + 0 = omega arith in subst (λ k. P k s) e h
legal_from_counted p P step n s (r ∷ rs) h legal =
    let e : (n + 1) + length rs ≡ n + length (r ∷ rs) = omega arith in
    subst (λ k. P k (fold (next p) (next p s r) rs)) e (legal_from_counted p P step (n + 1) (next p s r) rs (step n s r h legal.0) legal.1)

-- what is so at the start, and stays so at each step, is so after each legal schedule
pub over_legal_counted : (p : Programs) (P : ℕ → State → Type 0) → P 0 (state_at_start p)
    → ((n : ℕ) (s : State) (r : ℕ) → P n s → MayStep p s r → P (n + 1) (next p s r))
    → (rs : List ℕ) → IsLegal p rs → P (length rs) (replay p rs)
unfolding replay IsLegal
over_legal_counted p P start step rs legal =
    let e : 0 + length rs ≡ length rs = omega arith in
    subst (λ k. P k (fold (next p) (state_at_start p) rs)) e (legal_from_counted p P step 0 (state_at_start p) rs start legal)

pub over_legal : (p : Programs) (P : State → Type 0) → P (state_at_start p)
    → ((s : State) (r : ℕ) → P s → MayStep p s r → P (next p s r))
    → (rs : List ℕ) → IsLegal p rs → P (replay p rs)
over_legal p P start step rs legal = over_legal_counted p (λ n s. P s) start (λ n s r h may. step s r h may) rs legal

-- and so it is where each step is known to go on from a legal schedule
module _ (p : Programs) (P : State → Type 0) (start : P (state_at_start p))
    (step : (qs : List ℕ) (r : ℕ) → IsLegal p qs → MayStep p (replay p qs) r → P (replay p qs) → P (next p (replay p qs) r)) where
  -- a legal schedule leads to the state, and P is so of it
  abbrev IsReached : State → Type 0
  IsReached s = (qs : List ℕ) × IsLegal p qs × (replay p qs ≡ s) × P s

  start_reached : IsReached (state_at_start p)
  unfolding replay IsLegal
  start_reached = ([], tt, refl, start)

  step_reached : (s : State) (r : ℕ) → IsReached s → MayStep p s r → IsReached (next p s r)
  step_reached s r (qs, legal, left, so) may =
      let may_there : MayStep p (replay p qs) r = subst (λ u. MayStep p u r) (sym left) may in
      let here : P (replay p qs) = subst P (sym left) so in (
        qs ++ r ∷ [],
        legal-push p qs r legal may_there,
        replay-push p qs r ∙ ap (λ u. next p u r) left,
        subst (λ u. P (next p u r)) left (step qs r legal may_there here),
      )

  pub over_runs : (rs : List ℕ) → IsLegal p rs → P (replay p rs)
  over_runs rs legal = (over_legal p IsReached start_reached step_reached rs legal).3
