-- Passes that have seen and added nothing, of which the last is taken
use Rattle.std.proofs.Common.{◌≡◌, ℕ, List, [], ◌∷◌, ◌++◌, length, sym, subst}
use Rattle.qm_lock.specs.Passes.{IsReady, IsNew}
use Rattle.qm_lock.specs.declared.desk.Desk.{Desk}
use Rattle.qm_lock.specs.declared.desk.Pass.{Pass}
use Rattle.qm_lock.proofs.Places.{last_at, before}
use Rattle.qm_ranks.specs.declared.desk.Playing.{Playing}
use Rattle.qm_ranks.specs.Workers.{AreNew}

module _ {A : Type 0} where
  pub last_is_ready : (d : Desk (Playing A)) (all rest : List (Pass (Playing A))) (p : Pass (Playing A)) (k : ℕ) → AreNew d all → all ≡ rest ++ p ∷ [] → k ≡ length rest → IsReady d k p
  last_is_ready d all rest p k new is place = subst (λ n. IsReady d n p) (sym place) (new (length rest) p (last_at all rest p is)).0

  pub last_is_new : (d : Desk (Playing A)) (all rest : List (Pass (Playing A))) (p : Pass (Playing A)) → AreNew d all → all ≡ rest ++ p ∷ [] → IsNew p
  last_is_new d all rest p new is = (new (length rest) p (last_at all rest p is)).1

  pub others_are_new : (d : Desk (Playing A)) (all rest : List (Pass (Playing A))) (p : Pass (Playing A)) → AreNew d all → all ≡ rest ++ p ∷ [] → AreNew d rest
  others_are_new d all rest p new is k q at = new k q (before all rest p is k q at)
