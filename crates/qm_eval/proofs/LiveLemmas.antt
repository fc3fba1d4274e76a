-- Letters one after another: which wires are live and which are named, and that each letter finds its operands
use Rattle.std.proofs.Common.{◌≡◌, ◌<◌, Bool, true, false, not, ◌&&◌, ◌||◌, cond, List, [], ◌∷◌, ◌++◌, filter, fold, Contains, refl, sym, ap, subst, ◌∙◌, append_assoc}
use Rattle.std.proofs.lemmas.List.{append-nil}
use Rattle.qm_denot.specs.declared.Wire.{Wire}
use Rattle.qm_denot.specs.declared.Letter.{Letter}
use Rattle.qm_denot.specs.declared.Letter.TheVariants.{Phase, Flip, Had, Cx, Cz, Pair, Keep, Take, Rename}
use Rattle.qm_denot.specs.CircuitFacts.{IsProper, AllProper}
use Rattle.qm_denot.specs.Stores.{Store, MayGrow, MayApply}
use Rattle.qm_denot.specs.WireLists.{Lacks, Distinct, lacks}
use Rattle.qm_denot.specs.Wires.{is_wire}
use Rattle.qm_denot.specs.Weights.{operands, also}
use Rattle.qm_denot.proofs.OperandFacts.{Each, EachOperand}
use Rattle.qm_denot.proofs.Sets.{is_wire_other}
use Rattle.qm_proto.specs.Model.Ideal.{made_fresh}
use Rattle.qm_eval.specs.Live.{all_live, ready_for, live_past, live_through}
use Rattle.qm_eval.proofs.ListLemmas.{and_false, lacks-append, lacks-all_live, lacks-also, lacks-without, lacks-renamed, absent_where, made_live, lacks-second}
use Rattle.qm_denot.proofs.NameLists.{lacks-first}

-- ---- one letter
-- whether the letter gives the wire up
abbrev pub gives : Letter → Wire → Bool
gives (Take v m) w = is_wire v w
gives (Rename a b) w = is_wire a w
gives _ w = false

given_named : (l : Letter) (w : Wire) → gives l w ≡ true → lacks (operands l) w ≡ false
given_named (Take v m) w e = ap (λ b. not b && true) e
given_named (Rename a b) w e = ap (λ x. not x && (not (is_wire b w) && true)) e
given_named _ w e = cc

last_apart : (l n : Bool) → ((l && true) && n) ≡ (l && (n && true))
last_apart true true = refl
last_apart true false = refl
last_apart false n = refl

-- a wire that the letter doesn't give up is live after it where it was before, or the letter names it
pub lacks-past : (l : Letter) (live : List Wire) (w : Wire) → gives l w ≡ false → lacks (live_past live l) w ≡ (lacks live w && lacks (operands l) w)
lacks-past (Take v m) live w e = lacks-without (all_live live (v ∷ [])) v w e ∙ lacks-all_live (v ∷ []) live w
lacks-past (Pair a b) live w e = lacks-append live (a ∷ b ∷ []) w
lacks-past (Rename a b) live w e =
    let ready = all_live live (a ∷ []) in
    let had : lacks ready a ≡ false = lacks-all_live (a ∷ []) live a ∙ ap (λ x. lacks live a && x) (lacks-first [] a) ∙ and_false (lacks live a) in
    lacks-renamed ready a b w e
    ∙ ap (λ x. lacks ready w && (x || not (is_wire b w))) had
    ∙ ap (λ x. x && not (is_wire b w)) (lacks-all_live (a ∷ []) live w)
    ∙ ap (λ x. (lacks live w && (not x && true)) && not (is_wire b w)) e
    ∙ last_apart (lacks live w) (not (is_wire b w))
    ∙ ap (λ x. lacks live w && (not x && (not (is_wire b w) && true))) (sym e)
lacks-past (Phase k v) live w e = lacks-all_live (v ∷ []) live w
lacks-past (Flip v) live w e = lacks-all_live (v ∷ []) live w
lacks-past (Had v) live w e = lacks-all_live (v ∷ []) live w
lacks-past (Cx c t) live w e = lacks-all_live (c ∷ t ∷ []) live w
lacks-past (Cz c t) live w e = lacks-all_live (c ∷ t ∷ []) live w
lacks-past (Keep v m) live w e = lacks-all_live (v ∷ []) live w

-- ---- live wires and named wires
-- each of the known wires is live where it is named, and every live wire is named
pub record Tracks (live named : List Wire) (Known : Wire → Type 0) : Type 0 where
  pub known : (w : Wire) → Known w → lacks named w ≡ lacks live w
  pub within : (w : Wire) → lacks live w ≡ false → lacks named w ≡ false

pub tracks_weaker : (live named : List Wire) (K J : Wire → Type 0) → ((w : Wire) → J w → K w) → Tracks live named K → Tracks live named J
tracks_weaker live named K J weaker h = record { known = λ w j. h.known w (weaker w j); within = h.within }

tracks_past : (l : Letter) (live named : List Wire) (K : Wire → Type 0) → Tracks live named K
    → Tracks (live_past live l) (also named (operands l)) (λ w. K w × (gives l w ≡ false))
tracks_past l live named K h = record {
  known = λ w k. lacks-also (operands l) named w ∙ ap (λ b. b && lacks (operands l) w) (h.known w k.0) ∙ sym (lacks-past l live w k.1);
  within = λ w e. lacks-also (operands l) named w ∙ by_given w e (gives l w) refl;
}
  where
    by_parts : (w : Wire) (a b : Bool) → lacks live w ≡ a → lacks (operands l) w ≡ b → (a && b) ≡ false → (lacks named w && lacks (operands l) w) ≡ false
    by_parts w true b p q e = ap (λ x. lacks named w && x) (q ∙ e) ∙ and_false (lacks named w)
    by_parts w false b p q e = ap (λ x. x && lacks (operands l) w) (h.within w p)

    by_given : (w : Wire) → lacks (live_past live l) w ≡ false → (b : Bool) → gives l w ≡ b → (lacks named w && lacks (operands l) w) ≡ false
    by_given w e true g = ap (λ x. lacks named w && x) (given_named l w g) ∙ and_false (lacks named w)
    by_given w e false g = by_parts w (lacks live w) (lacks (operands l) w) refl refl (sym (lacks-past l live w g) ∙ e)

-- ---- the wires that a letter needs
abbrev AreAlike : List Wire → List Wire → List Wire → Type 0
AreAlike live named ws = Each (λ w. lacks named w ≡ lacks live w) ws

alike_more : (live named : List Wire) (w : Wire) (ws : List Wire) → Lacks ws w → AreAlike live named ws → AreAlike (live ++ w ∷ []) named ws
alike_more live named w [] l h = tt
alike_more live named w (v ∷ ws) l h =
    let other : is_wire w v ≡ false = is_wire_other w v (λ e. l.0 (sym e)) in
    let same : lacks (live ++ w ∷ []) v ≡ lacks live v = lacks-append live (w ∷ []) v ∙ ap (λ b. lacks live v && (not b && true)) other ∙ and_true (lacks live v) in
    (h.0 ∙ sym same, alike_more live named w ws l.1 h.1)
  where
    and_true : (a : Bool) → (a && true) ≡ a
    and_true true = refl
    and_true false = refl

-- those that aren't live are those that aren't named
made_so : (ws live named : List Wire) → Distinct ws → AreAlike live named ws → all_live live ws ≡ live ++ filter (lacks named) ws
made_so [] live named d h = sym (append-nil live)
made_so (w ∷ ws) live named d h =
    by_bool (made_so ws (live ++ w ∷ []) named d.1 (alike_more live named w ws d.0 h.1)) (made_so ws live named d.1 h.1) (lacks live w) refl
  where
    by_bool : all_live (live ++ w ∷ []) ws ≡ (live ++ w ∷ []) ++ filter (lacks named) ws → all_live live ws ≡ live ++ filter (lacks named) ws
        → (b : Bool) → lacks live w ≡ b → all_live (cond b (live ++ w ∷ []) live) ws ≡ live ++ filter (lacks named) (w ∷ ws)
    by_bool more same true e =
        more
        ∙ append_assoc live (w ∷ []) (filter (lacks named) ws)
        ∙ ap (λ b. live ++ cond b (w ∷ filter (lacks named) ws) (filter (lacks named) ws)) (sym (h.0 ∙ e))
    by_bool more same false e =
        same
        ∙ ap (λ b. live ++ cond b (w ∷ filter (lacks named) ws) (filter (lacks named) ws)) (sym (h.0 ∙ e))

module _ (P : Wire → Type 0) where
  needed : (l : Letter) → Each P (operands l) → Each P (made_fresh l)
  needed (Pair a b) h = tt
  needed (Rename a b) h = (h.0, tt)
  needed (Phase k w) h = h
  needed (Flip w) h = h
  needed (Had w) h = h
  needed (Cx c t) h = h
  needed (Cz c t) h = h
  needed (Keep w m) h = h
  needed (Take w m) h = h

needed_once : (l : Letter) → IsProper l → Distinct (made_fresh l)
needed_once (Pair a b) h = tt
needed_once (Rename a b) h = (tt, tt)
needed_once (Phase k w) h = h
needed_once (Flip w) h = h
needed_once (Had w) h = h
needed_once (Cx c t) h = h
needed_once (Cz c t) h = h
needed_once (Keep w m) h = h
needed_once (Take w m) h = h

-- ---- the letter may be applied
-- what a letter asks beside its operands
abbrev pub MayCome : List Wire → Letter → Type 0
MayCome live (Phase k w) = k < 8
MayCome live (Pair a b) = ⊥
MayCome live (Rename a b) = lacks live b ≡ true
MayCome live _ = Unit {0}

module _ (live : List Wire) (s : Store) where
  there : (ws : List Wire) (w : Wire) → s.live ≡ all_live live ws → lacks ws w ≡ false → Contains s.live w
  there ws w is e = subst (λ vs. Contains vs w) (sym is) (made_live ws live w e)

  may_apply : (l : Letter) → IsProper l → MayCome live l → s.live ≡ ready_for l live → MayGrow s → MayApply l s
  may_apply (Phase k w) proper come is grow = (come, there (w ∷ []) w is (lacks-first [] w))
  may_apply (Flip w) proper come is grow = there (w ∷ []) w is (lacks-first [] w)
  may_apply (Had w) proper come is grow = (there (w ∷ []) w is (lacks-first [] w), grow)
  may_apply (Cx c t) proper come is grow =
      (there (c ∷ t ∷ []) c is (lacks-first (t ∷ []) c), there (c ∷ t ∷ []) t is (lacks-second [] c t), λ e. proper.0.0 (sym e))
  may_apply (Cz c t) proper come is grow =
      (there (c ∷ t ∷ []) c is (lacks-first (t ∷ []) c), there (c ∷ t ∷ []) t is (lacks-second [] c t), λ e. proper.0.0 (sym e))
  may_apply (Pair a b) proper come is grow = absurd come
  may_apply (Keep w m) proper come is grow = there (w ∷ []) w is (lacks-first [] w)
  may_apply (Take w m) proper come is grow = there (w ∷ []) w is (lacks-first [] w)
  may_apply (Rename a b) proper come is grow =
      let other : is_wire a b ≡ false = is_wire_other a b (λ e. proper.0.0 (sym e)) in
      let lacked : lacks (all_live live (a ∷ [])) b ≡ true =
      lacks-all_live (a ∷ []) live b ∙ ap (λ x. x && (not (is_wire a b) && true)) come ∙ ap (λ x. not x && true) other in
      (there (a ∷ []) a is (lacks-first [] a), λ c. absent_where (all_live live (a ∷ [])) b lacked (subst (λ vs. Contains vs b) is c))

-- where these wires are live and those named, the letter finds its operands
pub record Follows (live named : List Wire) (l : Letter) : Type 0 where
  pub same : ready_for l live ≡ live ++ filter (lacks named) (made_fresh l)
  pub may : (s : Store) → s.live ≡ ready_for l live → MayGrow s → MayApply l s

follows : (l : Letter) (live named : List Wire) (K : Wire → Type 0) → Tracks live named K → Each K (operands l) → IsProper l → MayCome live l → Follows live named l
follows l live named K h ops proper come = record {
  same = made_so (made_fresh l) live named (needed_once l proper) (alike (made_fresh l) (needed K l ops));
  may = λ s is grow. may_apply live s l proper come is grow;
}
  where
    alike : (ws : List Wire) → Each K ws → AreAlike live named ws
    alike [] k = tt
    alike (w ∷ ws) k = (h.known w k.0, alike ws k.1)

-- ---- letters one after another
-- each letter finds its operands after those before it
abbrev pub AllFollow : List Wire → List Wire → List Letter → Type 0
AllFollow live named [] = Unit {0}
AllFollow live named (l ∷ ls) = Follows live named l × AllFollow (live_past live l) (also named (operands l)) ls

-- the wires that are named after letters
abbrev pub named_through : List Wire → List Letter → List Wire
named_through named ls = fold (λ ws l. also ws (operands l)) named ls

pub follow-append : (ls ks : List Letter) (live named : List Wire) → AllFollow live named ls → AllFollow (live_through live ls) (named_through named ls) ks
    → AllFollow live named (ls ++ ks)
follow-append [] ks live named h k = k
follow-append (l ∷ ls) ks live named h k = (h.0, follow-append ls ks (live_past live l) (also named (operands l)) h.1 k)

-- a letter that gives up no wire
abbrev pub GivesNone : Letter → Type 0
GivesNone l = (w : Wire) → gives l w ≡ false

-- what letters ask beside their operands: each may come, and only the last gives up a wire
abbrev pub AllMayCome : List Wire → List Letter → Type 0
AllMayCome live [] = Unit {0}
AllMayCome live (l ∷ []) = MayCome live l
AllMayCome live (l ∷ k ∷ ls) = MayCome live l × GivesNone l × AllMayCome (live_past live l) (k ∷ ls)

-- whether one of the letters gives the wire up
abbrev pub given : List Letter → Wire → Bool
given [] w = false
given (l ∷ ls) w = gives l w || given ls w

none_of : (a b : Bool) → (a || b) ≡ false → (a ≡ false) × (b ≡ false)
none_of true b e = cc
none_of false b e = (refl, e)

-- the letters find their operands among the known wires, and those of them that are not given up are tracked afterwards
pub record Passes (live named : List Wire) (K : Wire → Type 0) (ls : List Letter) : Type 0 where
  pub follow : AllFollow live named ls
  pub tracks : Tracks (live_through live ls) (named_through named ls) (λ w. K w × (given ls w ≡ false))

pub pass : (ls : List Letter) (live named : List Wire) (K : Wire → Type 0) → Tracks live named K → EachOperand K ls → AllProper ls → AllMayCome live ls → Passes live named K ls
pass [] live named K h ops proper come = record { follow = tt; tracks = tracks_weaker live named K _ (λ w j. j.0) h }
pass (l ∷ []) live named K h ops proper come =
    let past = tracks_past l live named K h in
    record {
      follow = (follows l live named K h ops.0 proper.0 come, tt);
      tracks = tracks_weaker (live_past live l) (also named (operands l)) _ _ (λ w j. (j.0, (none_of (gives l w) false j.1).0)) past;
    }
pass (l ∷ k ∷ ls) live named K h ops proper come =
    let past = tracks_past l live named K h in
    let kept = tracks_weaker (live_past live l) (also named (operands l)) _ K (λ w j. (j, come.1 w)) past in
    let rest = pass (k ∷ ls) (live_past live l) (also named (operands l)) K kept ops.1 proper.1 come.2 in
    record {
      follow = (follows l live named K h ops.0 proper.0 come.0, rest.follow);
      tracks = tracks_weaker (live_through live (l ∷ k ∷ ls)) (named_through named (l ∷ k ∷ ls)) _ _ (λ w j. (j.0, (none_of (gives l w) (given (k ∷ ls) w) j.1).1)) rest.tracks;
    }
