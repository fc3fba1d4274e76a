-- What lists of wires lack, by tests
use Rattle.std.proofs.Common.{◌≡◌, suc, Bool, true, false, not, ◌&&◌, ◌||◌, cond, List, [], ◌∷◌, ◌++◌, Contains, refl, sym, ap, ◌∙◌, arith}
use Rattle.qm_denot.specs.declared.Wire.{Wire}
use Rattle.qm_denot.specs.Wires.{is_wire}
use Rattle.qm_denot.specs.WireLists.{lacks, without_wire, with_renamed}
use Rattle.qm_denot.specs.Weights.{also}
use Rattle.std.proofs.lemmas.Bool.{false_from_ne_true}
use Rattle.qm_denot.proofs.LiveWires.{absent_where_lacked, Lacks-from_absent}
use Rattle.qm_denot.proofs.NameLists.{Lacks-from_test, lacks-where_Lacks, lacks-first}
use Rattle.qm_denot.proofs.Sets.{same_from_is}
use Rattle.qm_eval.specs.Live.{with_live, all_live}

-- ---- tests
regrouped : (a b c : Bool) → ((a && b) && c) ≡ (a && (b && c))
regrouped true b c = refl
regrouped false b c = refl

and_true : (a : Bool) → (a && true) ≡ a
and_true true = refl
and_true false = refl

pub and_false : (a : Bool) → (a && false) ≡ false
and_false true = refl
and_false false = refl

-- a test that is false where another one fails
under : (a n : Bool) → (n ≡ false → a ≡ false) → a ≡ (a && n)
under a true h = sym (and_true a)
under a false h = h refl ∙ sym (and_false a)

-- a wire that is another one is lacked as that one is
lacked_as : (ws : List Wire) (v u : Wire) → lacks ws v ≡ false → not (is_wire v u) ≡ false → lacks ws u ≡ false
lacked_as ws v u e same = ap (lacks ws) (sym (same_from_is v u (true_from_not (is_wire v u) same))) ∙ e
  where
    true_from_not : (b : Bool) → not b ≡ false → b ≡ true
    true_from_not true e = refl
    true_from_not false e = cc

-- ---- longer lists
pub lacks-append : (xs ys : List Wire) (u : Wire) → lacks (xs ++ ys) u ≡ (lacks xs u && lacks ys u)
lacks-append [] ys u = refl
lacks-append (x ∷ xs) ys u =
    ap (λ b. not (is_wire x u) && b) (lacks-append xs ys u) ∙ sym (regrouped (not (is_wire x u)) (lacks xs u) (lacks ys u))

lacks-with_live : (live : List Wire) (w u : Wire) → lacks (with_live live w) u ≡ (lacks live u && not (is_wire w u))
lacks-with_live live w u = by_bool (lacks live w) refl
  where
    by_bool : (b : Bool) → lacks live w ≡ b → lacks (cond b (live ++ w ∷ []) live) u ≡ (lacks live u && not (is_wire w u))
    by_bool true e = lacks-append live (w ∷ []) u ∙ ap (λ b. lacks live u && b) (and_true (not (is_wire w u)))
    by_bool false e = under (lacks live u) (not (is_wire w u)) (lacked_as live w u e)

pub lacks-all_live : (ws live : List Wire) (u : Wire) → lacks (all_live live ws) u ≡ (lacks live u && lacks ws u)
lacks-all_live [] live u = sym (and_true (lacks live u))
lacks-all_live (w ∷ ws) live u =
    lacks-all_live ws (with_live live w) u ∙ ap (λ b. b && lacks ws u) (lacks-with_live live w u)
    ∙ regrouped (lacks live u) (not (is_wire w u)) (lacks ws u)

swapped : (n l v : Bool) → ((n && l) && v) ≡ (l && (n && v))
swapped true l v = refl
swapped false true v = refl
swapped false false v = refl

pub lacks-also : (vs ws : List Wire) (u : Wire) → lacks (also ws vs) u ≡ (lacks ws u && lacks vs u)
lacks-also [] ws u = sym (and_true (lacks ws u))
lacks-also (v ∷ vs) ws u = by_bool (lacks-also vs (v ∷ ws) u) (lacks-also vs ws u) (lacks ws v) refl
  where
    by_bool : lacks (also (v ∷ ws) vs) u ≡ (lacks (v ∷ ws) u && lacks vs u) → lacks (also ws vs) u ≡ (lacks ws u && lacks vs u)
        → (b : Bool) → lacks ws v ≡ b → lacks (cond b (also (v ∷ ws) vs) (also ws vs)) u ≡ (lacks ws u && lacks (v ∷ vs) u)
    by_bool more same true e = more ∙ swapped (not (is_wire v u)) (lacks ws u) (lacks vs u)
    by_bool more same false e =
        same ∙ ap (λ b. b && lacks vs u) (under (lacks ws u) (not (is_wire v u)) (lacked_as ws v u e))
        ∙ regrouped (lacks ws u) (not (is_wire v u)) (lacks vs u)

-- ---- lists that lose a wire
pub lacks-without : (ws : List Wire) (w u : Wire) → is_wire w u ≡ false → lacks (without_wire ws w) u ≡ lacks ws u
lacks-without [] w u other = refl
lacks-without (v ∷ ws) w u other = by_bool (lacks-without ws w u other) (is_wire v w) refl
  where
    by_bool : lacks (without_wire ws w) u ≡ lacks ws u
        → (b : Bool) → is_wire v w ≡ b → lacks (cond b (without_wire ws w) (v ∷ without_wire ws w)) u ≡ (not (is_wire v u) && lacks ws u)
    by_bool rest true e = rest ∙ ap (λ b. not b && lacks ws u) (sym (ap (λ x. is_wire x u) (same_from_is v w e) ∙ other))
    by_bool rest false e = ap (λ b. not (is_wire v u) && b) rest

put_in : (n l m : Bool) → (n && (l && (m || n))) ≡ (l && n)
put_in true true true = refl
put_in true true false = refl
put_in true false m = refl
put_in false true m = refl
put_in false false m = refl

pub lacks-renamed : (ws : List Wire) (a b u : Wire) → is_wire a u ≡ false
    → lacks (with_renamed ws a b) u ≡ (lacks ws u && (lacks ws a || not (is_wire b u)))
lacks-renamed [] a b u other = refl
lacks-renamed (v ∷ ws) a b u other = by_bool (lacks-renamed ws a b u other) (is_wire v a) refl
  where
    by_bool : lacks (with_renamed ws a b) u ≡ (lacks ws u && (lacks ws a || not (is_wire b u))) → (t : Bool) → is_wire v a ≡ t
        → lacks (cond t b v ∷ with_renamed ws a b) u ≡ ((not (is_wire v u) && lacks ws u) && ((not t && lacks ws a) || not (is_wire b u)))
    by_bool rest true e =
        ap (λ x. not (is_wire b u) && x) rest
        ∙ put_in (not (is_wire b u)) (lacks ws u) (lacks ws a)
        ∙ ap (λ x. (not x && lacks ws u) && not (is_wire b u)) (sym (ap (λ x. is_wire x u) (same_from_is v a e) ∙ other))
    by_bool rest false e =
        ap (λ x. not (is_wire v u) && x) rest
        ∙ sym (regrouped (not (is_wire v u)) (lacks ws u) (lacks ws a || not (is_wire b u)))

-- ---- what a list contains
pub has_where : (ws : List Wire) (w : Wire) → lacks ws w ≡ false → Contains ws w
has_where [] w e = cc
has_where (v ∷ ws) w e = by_bool (has_where ws w) (is_wire v w) refl e
  where
    by_bool : (lacks ws w ≡ false → Contains ws w) → (b : Bool) → is_wire v w ≡ b → (not b && lacks ws w) ≡ false → Contains (v ∷ ws) w
    by_bool rest true same e = (0, omega arith, same_from_is v w same)
    by_bool rest false same e = let h = rest e in (suc h.0, omega (arith, h.1), h.2)

pub absent_where : (ws : List Wire) (w : Wire) → lacks ws w ≡ true → ¬ (Contains ws w)
absent_where ws w e = absent_where_lacked ws w (Lacks-from_test ws w e)

-- a wire of the list is live among those that were made live
pub made_live : (ws live : List Wire) (w : Wire) → lacks ws w ≡ false → Contains (all_live live ws) w
made_live ws live w e = has_where (all_live live ws) w (lacks-all_live ws live w ∙ ap (λ b. lacks live w && b) e ∙ and_false (lacks live w))

pub lacks-second : (ws : List Wire) (v w : Wire) → lacks (v ∷ w ∷ ws) w ≡ false
lacks-second ws v w = ap (λ b. not (is_wire v w) && b) (lacks-first ws w) ∙ and_false (not (is_wire v w))

-- ---- a wire that is or isn't live
pub lacked_if_absent : (ws : List Wire) (w : Wire) → ¬ (Contains ws w) → lacks ws w ≡ true
lacked_if_absent ws w h = lacks-where_Lacks ws w (Lacks-from_absent ws w h)

pub had_if_there : (ws : List Wire) (w : Wire) → Contains ws w → lacks ws w ≡ false
had_if_there ws w h = false_from_ne_true (lacks ws w) (λ e. absent_where ws w e h)

pub live_new : (live : List Wire) (w : Wire) → ¬ (Contains live w) → all_live live (w ∷ []) ≡ live ++ w ∷ []
live_new live w h = ap (λ b. cond b (live ++ w ∷ []) live) (lacked_if_absent live w h)

pub live_old : (live : List Wire) (w : Wire) → Contains live w → all_live live (w ∷ []) ≡ live
live_old live w h = ap (λ b. cond b (live ++ w ∷ []) live) (had_if_there live w h)
