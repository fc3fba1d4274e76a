-- Each letter goes by the entries of a block of its highest place alone
use Rattle.std.proofs.Common.{ℕ, ◌+◌, ◌*◌, ◌<◌, ◌^◌, Bool, true, false, not, cond, ◌&&◌, ap, ap₂, ◌∙◌}
use Rattle.qm_zomega.specs.Numbers.{◌⊕◌, ◌⊖◌, negative, omega_times}
use Rattle.qm_denot.specs.Circuits.{same_bit}
use Rattle.qm_denot.specs.Places.{has_place, set_place}
use Rattle.qm_denot.specs.LettersByPlace.{phase_at, flip_at, had_at, cross_at, sign_at, keep_at}
use Rattle.qm_kernels.specs.IndexLaws.{has_place-above, set_place-above, set_place-near}
use Rattle.qm_kernels.specs.DoneLaws.{IsLocal}

module _ (e : ℕ) where
  pub flip_local : {A : Type 0} (p : ℕ) → p < e → IsLocal {B = A} (2 ^ e) (flip_at p)
  flip_local p h = record {
    shifted =
        λ f m r. ap (λ b. f (set_place p (not b) (m * 2 ^ e + r))) (has_place-above p e m r h)
        ∙ ap f (set_place-above p e m r (not (has_place p r)) h);
    near = λ f g m r l agree. agree _ (set_place-near p e m r (not (has_place p r)) h l);
  }

  pub phase_local : (k p : ℕ) → p < e → IsLocal (2 ^ e) (phase_at k p)
  phase_local k p h = record {
    shifted = λ f m r. ap (λ b. cond b (omega_times k (f (m * 2 ^ e + r))) (f (m * 2 ^ e + r))) (has_place-above p e m r h);
    near = λ f g m r l agree. ap (λ z. cond (has_place p r) (omega_times k z) z) (agree r l);
  }

  pub sign_local : (p q : ℕ) → p < e → q < e → IsLocal (2 ^ e) (sign_at p q)
  sign_local p q hp hq = record {
    shifted =
        λ f m r. ap₂ (λ a b. cond (a && b) (negative (f (m * 2 ^ e + r))) (f (m * 2 ^ e + r)))
        (has_place-above p e m r hp) (has_place-above q e m r hq);
    near = λ f g m r l agree. ap (λ z. cond (has_place p r && has_place q r) (negative z) z) (agree r l);
  }

  pub keep_local : {A : Type 0} (o : A) (p : ℕ) (m : Bool) → p < e → IsLocal (2 ^ e) (keep_at o p m)
  keep_local o p b h = record {
    shifted = λ f m r. ap (λ a. cond (same_bit a b) (f (m * 2 ^ e + r)) o) (has_place-above p e m r h);
    near = λ f g m r l agree. ap (λ z. cond (same_bit (has_place p r) b) z o) (agree r l);
  }

  pub cross_local : {A : Type 0} (c t : ℕ) → c < e → t < e → IsLocal {B = A} (2 ^ e) (cross_at c t)
  cross_local c t hc ht = record {
    shifted = λ f m r.
        ap (λ b. cond b (flip_at t f (m * 2 ^ e + r)) (f (m * 2 ^ e + r))) (has_place-above c e m r hc)
        ∙ ap (λ z. cond (has_place c r) z (f (m * 2 ^ e + r))) ((flip_local t ht).shifted f m r);
    near = λ f g m r l agree. ap₂ (λ y z. cond (has_place c r) y z) ((flip_local t ht).near f g m r l agree) (agree r l);
  }

  pub had_local : (p : ℕ) → p < e → IsLocal (2 ^ e) (had_at p)
  had_local p h = record {
    shifted = λ f m r.
        let n = m * 2 ^ e in
        ap (λ b. cond b (f (set_place p false (n + r)) ⊖ f (n + r)) (f (n + r) ⊕ f (set_place p true (n + r)))) (has_place-above p e m r h)
        ∙ ap₂ (λ i j. cond (has_place p r) (f i ⊖ f (n + r)) (f (n + r) ⊕ f j))
        (set_place-above p e m r false h) (set_place-above p e m r true h);
    near = λ f g m r l agree.
        ap₂ (λ low high. cond (has_place p r) (low ⊖ f r) (f r ⊕ high))
        (agree _ (set_place-near p e m r false h l)) (agree _ (set_place-near p e m r true h l))
        ∙ ap (λ z. cond (has_place p r) (g (set_place p false r) ⊖ z) (z ⊕ g (set_place p true r))) (agree r l);
  }
