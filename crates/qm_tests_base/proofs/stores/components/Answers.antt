use Rattle.std.proofs.Common.{ℕ, zero, suc, ◌<◌, [], ◌∷◌, get_or, Contains, arith}
use Rattle.qm_denot.specs.declared.Wire.{Wire}
use Rattle.qm_tests_base.proofs.stores.components.Goals as goal

each_of_two : (P : Wire → Type 0) (v w d : Wire) (k : ℕ) → P v → P w → k < 2 → P (get_or (v ∷ w ∷ []) k d)
each_of_two P v w d zero at_v at_w h = at_v
each_of_two P v w d (suc zero) at_v at_w h = at_w
each_of_two P v w d (suc (suc k)) at_v at_w h = absurd (omega arith)

each_of_three : (P : Wire → Type 0) (u v w d : Wire) (k : ℕ) → P u → P v → P w → k < 3 → P (get_or (u ∷ v ∷ w ∷ []) k d)
each_of_three P u v w d zero at_u at_v at_w h = at_u
each_of_three P u v w d (suc k) at_u at_v at_w h = each_of_two P v w d k at_v at_w (omega arith)

pub value-z-requires-in-len2-clause-live : goal.value-z-requires-in-len2-clause-live
value-z-requires-in-len2-clause-live g c = λ k d h.
    each_of_two (Contains (g.A.Amps.store c.args.amps.now).live) _ _ d k (c.is_live-then-ne.ensures.0 c.if-is_live-2.true) (c.is_live-then-is_live-2.ensures.0 c.if-is_live-3.true) h

pub value-z-requires-in-len3-clause-live : goal.value-z-requires-in-len3-clause-live
value-z-requires-in-len3-clause-live g c = λ k d h.
    let all = c.are_live.ensures c.if-are_live.true in
    each_of_three (Contains (g.A.Amps.store c.args.amps.now).live) _ _ _ d k all.3 all.4 all.5 h

each_of_four : (P : Wire → Type 0) (t u v w d : Wire) (k : ℕ) → P t → P u → P v → P w → k < 4 → P (get_or (t ∷ u ∷ v ∷ w ∷ []) k d)
each_of_four P t u v w d zero at_t at_u at_v at_w h = at_t
each_of_four P t u v w d (suc k) at_t at_u at_v at_w h = each_of_three P u v w d k at_u at_v at_w (omega arith)

each_of_five : (P : Wire → Type 0) (s t u v w d : Wire) (k : ℕ) → P s → P t → P u → P v → P w → k < 5 → P (get_or (s ∷ t ∷ u ∷ v ∷ w ∷ []) k d)
each_of_five P s t u v w d zero at_s at_t at_u at_v at_w h = at_s
each_of_five P s t u v w d (suc k) at_s at_t at_u at_v at_w h = each_of_four P t u v w d k at_t at_u at_v at_w (omega arith)

pub value-z-requires-in-len4-clause-live : goal.value-z-requires-in-len4-clause-live
value-z-requires-in-len4-clause-live g c = λ k d h.
    let all = c.four_live.ensures c.if-four_live.true in
    each_of_four (Contains (g.A.Amps.store c.args.amps.now).live) _ _ _ _ d k all.6 all.7 all.8 all.9 h

pub value-z-requires-in-len5-clause-live : goal.value-z-requires-in-len5-clause-live
value-z-requires-in-len5-clause-live g c = λ k d h.
    let all = c.five_live.ensures c.if-five_live.true in
    each_of_five (Contains (g.A.Amps.store c.args.amps.now).live) _ _ _ _ _ d k all.10 all.11 all.12 all.13 all.14 h
