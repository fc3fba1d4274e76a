-- Acts after acts
use Rattle.std.proofs.Common.{◌≡◌, ℕ, List, [], ◌∷◌, ◌++◌, refl, sym, ap, ◌∙◌, append_assoc}
use Rattle.qm_proto.specs.Model.State.{Tables}
use Rattle.qm_proto.specs.declared.Act.{Act}
use Rattle.qm_proto.specs.Model.Acts.{after_act, act_letters, after_acts, acts_letters}
use Rattle.qm_proto.specs.May.{Limits, limits_after, limits_after_all}

pub after_acts-append : (r : ℕ) (xs ys : List Act) (t : Tables) → after_acts r (xs ++ ys) t ≡ after_acts r ys (after_acts r xs t)
after_acts-append r [] ys t = refl
after_acts-append r (a ∷ xs) ys t = after_acts-append r xs ys (after_act r a t)

pub acts_letters-append : (r : ℕ) (xs ys : List Act) (t : Tables)
    → acts_letters r (xs ++ ys) t ≡ acts_letters r xs t ++ acts_letters r ys (after_acts r xs t)
acts_letters-append r [] ys t = refl
acts_letters-append r (a ∷ xs) ys t =
    let u = after_act r a t in
    ap (λ ls. act_letters r a t ++ ls) (acts_letters-append r xs ys u)
    ∙ sym (append_assoc (act_letters r a t) (acts_letters r xs u) (acts_letters r ys (after_acts r xs u)))

pub limits_after_all-append : (xs ys : List Act) (s : Limits) → limits_after_all (xs ++ ys) s ≡ limits_after_all ys (limits_after_all xs s)
limits_after_all-append [] ys s = refl
limits_after_all-append (a ∷ xs) ys s = limits_after_all-append xs ys (limits_after a s)
