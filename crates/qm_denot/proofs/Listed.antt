-- Amplitudes at listed sets of wires, which compute
use Rattle.std.proofs.Common.{◌≡◌, ℕ, Bool, true, false, not, ◌&&◌, cond, if◌then◌else◌, List, [], ◌∷◌, ◌++◌, refl, sym, ap, ap₂, ◌∙◌}
use Rattle.qm_zomega.specs.Numbers.{Number, zero_number, one_number, plus, minus, turned, ◌⊕◌, ◌⊖◌, negative, omega_times}
use Rattle.qm_denot.specs.declared.Wire.{Wire}
use Rattle.qm_denot.specs.declared.Letter.{Letter}
use Rattle.qm_denot.specs.declared.Letter.TheVariants.{Phase, Flip, Had, Cx, Cz, Pair, Keep, Take, Rename}
use Rattle.qm_denot.specs.Wires.{Wires, has, put, is_wire, is_empty, no_wires}
use Rattle.qm_denot.specs.WireLists.{lacks, without_wire}
use Rattle.qm_denot.specs.Circuits.{Amplitudes, Circuit, with_letter, with_letters, at_start, amp, halvings, same_bit}
use Rattle.qm_denot.specs.WorkedCircuits.{column, Shows, WorkedCircuits}
use Rattle.qm_denot.proofs.Sets.{has-put, is_wire_itself, is_wire_other, same_from_is, has-no_wires, is_empty-no_wires, not_empty, has-put_same, put_has, put_twice, put_swap}
use Rattle.qm_denot.proofs.NameLists.{not_sym, other_from_is}

-- the set of the wires of a list
abbrev pub shown : List Wire → Wires
shown [] = no_wires
shown (w ∷ ws) = put (shown ws) w true

abbrev listed_has : List Wire → Wire → Bool
listed_has ws w = not (lacks ws w)

abbrev listed_put : List Wire → Wire → Bool → List Wire
listed_put ws w true = w ∷ ws
listed_put ws w false = without_wire ws w

abbrev listed_empty : List Wire → Bool
listed_empty [] = true
listed_empty (w ∷ ws) = false

is_wire_sym : (v w : Wire) → is_wire v w ≡ is_wire w v
is_wire_sym v w = elim (is_wire v w) as (λ b. is_wire v w ≡ b → b ≡ is_wire w v) [
  | true ↦ λ e. sym (ap (λ u. is_wire w u) (same_from_is v w e) ∙ is_wire_itself w)
  | false ↦ λ e. sym (is_wire_other w v (not_sym (other_from_is v w e)))
] refl

has_more : (a b : Bool) → cond a true (not b) ≡ not (not a && b)
has_more true b = refl
has_more false b = refl

has-shown : (ws : List Wire) (w : Wire) → has (shown ws) w ≡ listed_has ws w
has-shown [] w = has-no_wires w
has-shown (v ∷ ws) w =
    has-put (shown ws) v true w ∙ ap₂ (λ a h. cond a true h) (is_wire_sym w v) (has-shown ws w) ∙ has_more (is_wire v w) (lacks ws w)

put-shown : (ws : List Wire) (w : Wire) (b : Bool) → put (shown ws) w b ≡ shown (listed_put ws w b)
put-shown ws w true = refl
put-shown [] w false = put_has no_wires w false (has-no_wires w)
put-shown (v ∷ ws) w false = elim (is_wire v w) as (λ b. is_wire v w ≡ b → put (shown (v ∷ ws)) w false ≡ shown (cond b (without_wire ws w) (v ∷ without_wire ws w))) [
  | true ↦ λ e. ap (λ u. put (put (shown ws) u true) w false) (same_from_is v w e) ∙ put_twice (shown ws) w true false ∙ put-shown ws w false
  | false ↦ λ e. put_swap (shown ws) v w true false (other_from_is v w e) ∙ ap (λ x. put x v true) (put-shown ws w false)
] refl

is_empty-shown : (ws : List Wire) → is_empty (shown ws) ≡ listed_empty ws
is_empty-shown [] = is_empty-no_wires
is_empty-shown (w ∷ ws) = not_empty _ w (has-put_same (shown ws) w true)

-- a letter on amplitudes at listed sets
abbrev listed_letter : Letter → (List Wire → Number) → List Wire → Number
listed_letter (Phase k w) g x = if listed_has x w then omega_times k (g x) else g x
listed_letter (Flip w) g x = g (listed_put x w (not (listed_has x w)))
listed_letter (Had w) g x = if listed_has x w then g (listed_put x w false) ⊖ g x else g x ⊕ g (listed_put x w true)
listed_letter (Cx c t) g x = if listed_has x c then g (listed_put x t (not (listed_has x t))) else g x
listed_letter (Cz c t) g x = if listed_has x c && listed_has x t then negative (g x) else g x
listed_letter (Pair a b) g x = if same_bit (listed_has x a) (listed_has x b) then g (listed_put (listed_put x a false) b false) else zero_number
listed_letter (Keep w m) g x = if same_bit (listed_has x w) m then g x else zero_number
listed_letter (Take w m) g x = if listed_has x w then zero_number else g (listed_put x w m)
listed_letter (Rename a b) g x = if listed_has x a then zero_number else g (listed_put (listed_put x a (listed_has x b)) b false)

abbrev listed_letters : List Letter → (List Wire → Number) → List Wire → Number
listed_letters [] g = g
listed_letters (l ∷ ls) g = listed_letters ls (listed_letter l g)

module _ (f : Amplitudes) (g : List Wire → Number) (same : (ws : List Wire) → f (shown ws) ≡ g ws) where
  at_put : (x : List Wire) (w : Wire) (b c : Bool) → b ≡ c → f (put (shown x) w b) ≡ g (listed_put x w c)
  at_put x w b c e = ap (λ d. f (put (shown x) w d)) e ∙ ap f (put-shown x w c) ∙ same _

  two_put : (x : List Wire) (v w : Wire) (b c d : Bool) → b ≡ c → f (put (put (shown x) v b) w d) ≡ g (listed_put (listed_put x v c) w d)
  two_put x v w b c d e = ap (λ y. f (put y w d)) (ap (put (shown x) v) e ∙ put-shown x v c) ∙ at_put (listed_put x v c) w d d refl

  with_letter-shown : (l : Letter) (x : List Wire) → with_letter l f (shown x) ≡ listed_letter l g x
  with_letter-shown (Phase k w) x = let h = has-shown x w in let s = same x in rw (h, s) refl
  with_letter-shown (Flip w) x = at_put x w _ _ (ap not (has-shown x w))
  with_letter-shown (Had w) x =
      let h = has-shown x w in let s = same x in let p = at_put x w false false refl in let q = at_put x w true true refl in rw (h, s, p, q) refl
  with_letter-shown (Cx c t) x = let p = at_put x t _ _ (ap not (has-shown x t)) in let h = has-shown x c in let s = same x in rw (p, h, s) refl
  with_letter-shown (Cz c t) x = let h = has-shown x c in let k = has-shown x t in let s = same x in rw (h, k, s) refl
  with_letter-shown (Pair a b) x =
      let h = has-shown x a in let k = has-shown x b in let p = two_put x a b false false false refl in rw (h, k, p) refl
  with_letter-shown (Keep w m) x = let h = has-shown x w in let s = same x in rw (h, s) refl
  with_letter-shown (Take w m) x = let h = has-shown x w in let p = at_put x w m m refl in rw (h, p) refl
  with_letter-shown (Rename a b) x = let h = has-shown x a in let p = two_put x a b _ _ false (has-shown x b) in rw (p, h) refl

with_letters-shown : (ls : List Letter) (f : Amplitudes) (g : List Wire → Number) → ((ws : List Wire) → f (shown ws) ≡ g ws)
    → (x : List Wire) → with_letters ls f (shown x) ≡ listed_letters ls g x
with_letters-shown [] f g same x = same x
with_letters-shown (l ∷ ls) f g same x = with_letters-shown ls (with_letter l f) (listed_letter l g) (with_letter-shown f g same l) x

abbrev pub listed_amp : Circuit → List Wire → Number
listed_amp c = listed_letters c (λ x. if listed_empty x then one_number else zero_number)

amp-shown : (c : Circuit) (x : List Wire) → amp c (shown x) ≡ listed_amp c x
unfolding amp
amp-shown c x = with_letters-shown c at_start _ (λ ws. let e = is_empty-shown ws in rw e refl) x

abbrev pub listed_column : List Wire → Circuit → List Wire → List Number
listed_column [] c x = listed_amp c x ∷ []
listed_column (w ∷ ws) c x = listed_column ws c (listed_put x w false) ++ listed_column ws c (listed_put x w true)

column-shown : (ws : List Wire) (c : Circuit) (x : List Wire) → column ws c (shown x) ≡ listed_column ws c x
column-shown [] c x = ap (λ z. z ∷ []) (amp-shown c x)
column-shown (w ∷ ws) c x =
    let half : (b : Bool) → column ws c (put (shown x) w b) ≡ listed_column ws c (listed_put x w b) =
    λ b. ap (column ws c) (put-shown x w b) ∙ column-shown ws c (listed_put x w b) in
    ap₂ (λ a b. a ++ b) (half false) (half true)

-- what computes shows what the definitions say
pub shows : (c : Circuit) (ws : List Wire) (numbers : List Number) (h : ℕ) → listed_column ws c [] ≡ numbers → halvings c ≡ h → Shows c ws numbers h
shows c ws numbers h amplitudes halved = record { amplitudes = column-shown ws c [] ∙ amplitudes; halved = halved }

pub worked_circuits : WorkedCircuits
unfolding is_wire plus minus turned negative
worked_circuits = record {
  empty = shows _ _ _ _ refl refl;
  had = shows _ _ _ _ refl refl;
  had_twice = shows _ _ _ _ refl refl;
  turned = shows _ _ _ _ refl refl;
  signed = shows _ _ _ _ refl refl;
  kept = shows _ _ _ _ refl refl;
  renamed = shows _ _ _ _ refl refl;
  copied = shows _ _ _ _ refl refl;
  copied_by_zero = shows _ _ _ _ refl refl;
  uncopied = shows _ _ _ _ refl refl;
  moved = shows _ _ _ _ refl refl;
  reached = shows _ _ _ _ refl refl;
}
