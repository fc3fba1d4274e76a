-- The best way is one from a direct predecessor, and no other is better
use Rattle.std.proofs.Common.{◌≡◌, ◌≢◌, ℕ, suc, ◌+◌, ◌<◌, ◌≤◌, nat_eq, nat_lt, max, Bool, true, false, ◌&&◌, ◌||◌, cond, Option, Some, None, ◌⊎◌, inl, inr, refl, sym, ap, subst, ◌∙◌, arith}
use Rattle.std.proofs.lemmas.Bool.Decides.{leb_tells, eqb_tells}
use Rattle.qm_cost.specs.declared.Links.{Links}
use Rattle.qm_cost.specs.declared.Way.{Way}
use Rattle.qm_cost.specs.Longest.{lag_in}
use Rattle.qm_cost.specs.Turns.{is_number, larger}
use Rattle.qm_cost.specs.Ways.{way_of, is_better, better_of, best_way}

-- ---- of two ways
abbrev Picks : Bool → (x i y k : ℕ) → Type 0
Picks true x i y k = (x ≤ y) × (x ≡ y → k ≤ i)
Picks false x i y k = (y ≤ x) × (y ≡ x → i ≤ k)

module _ (x i y k : ℕ) where
  by_tests : (p q r : Bool) → ((p ≡ true) × (suc x ≤ y)) ⊎ ((p ≡ false) × (y < suc x)) → ((q ≡ true) × (x ≡ y)) ⊎ ((q ≡ false) × (x ≢ y))
      → ((r ≡ true) × (suc k ≤ i)) ⊎ ((r ≡ false) × (i < suc k)) → Picks (p || (q && r)) x i y k
  by_tests true q r (inl h) b c = (omega arith, λ e. omega arith)
  by_tests true q r (inr h) b c = absurd (let e : true ≡ false = h.0 in cc)
  by_tests false true true (inl h) b c = absurd (let e : false ≡ true = h.0 in cc)
  by_tests false true true (inr h) (inr g) c = absurd (let e : true ≡ false = g.0 in cc)
  by_tests false true true (inr h) (inl g) (inr f) = absurd (let e : true ≡ false = f.0 in cc)
  by_tests false true true (inr h) (inl g) (inl f) = (omega arith, λ e. omega arith)
  by_tests false true false (inl h) b c = absurd (let e : false ≡ true = h.0 in cc)
  by_tests false true false (inr h) b (inl f) = absurd (let e : false ≡ true = f.0 in cc)
  by_tests false true false (inr h) b (inr f) = (omega arith, λ e. omega arith)
  by_tests false false r (inl h) b c = absurd (let e : false ≡ true = h.0 in cc)
  by_tests false false r (inr h) (inl g) c = absurd (let e : false ≡ true = g.0 in cc)
  by_tests false false r (inr h) (inr g) c = (omega arith, λ e. absurd (g.1 (sym e)))

  picks : Picks (nat_lt x y || (nat_eq x y && nat_lt k i)) x i y k
  picks = by_tests (nat_lt x y) (nat_eq x y) (nat_lt k i) (leb_tells (suc x) y) (eqb_tells x y) (leb_tells (suc k) i)

-- the way w is at least as good as another, where there is one
abbrev pub Beats : Option Way → Way → Type 0
Beats None w = Unit {0}
Beats (Some a) w = (a.length ≤ w.length) × (a.length ≡ w.length → w.at ≤ a.at)

pub record IsTopOf (a b : Option Way) (w : Way) : Type 0 where
  pub first : Beats a w
  pub second : Beats b w
  pub one : (a ≡ Some w) ⊎ (b ≡ Some w)

beats_itself : (w : Way) → Beats (Some w) w
beats_itself w = (omega arith, λ e. omega arith)

top_of_two : (t : Bool) (a b : Way) → Picks t a.length a.at b.length b.at → IsTopOf (Some a) (Some b) (cond t b a)
top_of_two true a b h = record { first = (h.0, h.1); second = beats_itself b; one = inr refl }
top_of_two false a b h = record { first = beats_itself a; second = (h.0, h.1); one = inl refl }

top : (a b : Option Way) (w : Way) → better_of a b ≡ Some w → IsTopOf a b w
top None b w e = record { first = tt; second = subst (λ o. Beats o w) (sym e) (beats_itself w); one = inr e }
top (Some a) None w e = record { first = subst (λ o. Beats o w) (sym e) (beats_itself w); second = tt; one = inl e }
top (Some a) (Some b) w e =
    let t = is_better a b in
    let s : cond t b a ≡ w = cc in
    subst (λ u. IsTopOf (Some a) (Some b) u) s (top_of_two t a b (picks a.length a.at b.length b.at))

none_of_two : (a b : Option Way) → better_of a b ≡ None → (a ≡ None) × (b ≡ None)
none_of_two None b e = (refl, e)
none_of_two (Some a) None e = absurd (cc)
none_of_two (Some a) (Some b) e = absurd (cc)

-- what beats the better of two beats both
both_beaten : (a b : Option Way) (w : Way) → Beats (better_of a b) w → Beats a w × Beats b w
both_beaten None b w h = (tt, h)
both_beaten (Some a) None w h = (h, tt)
both_beaten (Some a) (Some b) w h = by (is_better a b) (picks a.length a.at b.length b.at) h
  where
    by : (t : Bool) → Picks t a.length a.at b.length b.at → Beats (Some (cond t b a)) w → Beats (Some a) w × Beats (Some b) w
    by true p h = ((omega arith, λ e. chain_true p h e), h)
      where
        chain_true : Picks true a.length a.at b.length b.at → Beats (Some b) w → a.length ≡ w.length → w.at ≤ a.at
        chain_true p h e =
            let q : a.length ≡ b.length = omega arith in
            let r : b.length ≡ w.length = omega arith in
            let u : b.at ≤ a.at = p.1 q in
            let v : w.at ≤ b.at = h.1 r in
            omega arith
    by false p h = (h, (omega arith, λ e. chain_false p h e))
      where
        chain_false : Picks false a.length a.at b.length b.at → Beats (Some a) w → b.length ≡ w.length → w.at ≤ b.at
        chain_false p h e =
            let q : b.length ≡ a.length = omega arith in
            let r : a.length ≡ w.length = omega arith in
            let u : a.at ≤ b.at = p.1 q in
            let v : w.at ≤ a.at = h.1 r in
            omega arith

-- ---- the lag
-- of bits where the event gave them, and 0 where it is only one of the others
abbrev lag_of : ℕ → Links → ℕ → Option ℕ
lag_of bits l i = cond (is_number l.post i) (Some bits) (cond (is_number l.own i || is_number l.partner i) (Some 0) None)

max_zero : (n : ℕ) → max n 0 ≡ n
max_zero n = omega arith

same_by : (p q r : Bool) (bits : ℕ)
    → larger (cond p (Some bits) None) (larger (cond q (Some 0) None) (cond r (Some 0) None)) ≡ cond p (Some bits) (cond (q || r) (Some 0) None)
same_by true true true bits = ap Some (max_zero bits)
same_by true true false bits = ap Some (max_zero bits)
same_by true false true bits = ap Some (max_zero bits)
same_by true false false bits = refl
same_by false true true bits = refl
same_by false true false bits = refl
same_by false false true bits = refl
same_by false false false bits = refl

lag_same : (bits : ℕ) (l : Links) (i : ℕ) → lag_in bits l i ≡ lag_of bits l i
lag_same bits l i = same_by (is_number l.post i) (is_number l.own i) (is_number l.partner i) bits

number_there : (o : Option ℕ) (i : ℕ) → is_number o i ≡ true → o ≡ Some i
number_there None i e = absurd (cc)
number_there (Some k) i e = elim (eqb_tells k i) [ inl h ↦ ap Some h.1 | inr h ↦ absurd (let g : nat_eq k i ≡ false = h.0 in cc) ]

number_itself : (i : ℕ) → nat_eq i i ≡ true
number_itself i = elim (eqb_tells i i) [ inl h ↦ h.0 | inr h ↦ absurd (h.1 refl) ]

there_number : (o : Option ℕ) (i : ℕ) → o ≡ Some i → is_number o i ≡ true
there_number o i e = subst (λ v. is_number v i ≡ true) (sym e) (number_itself i)

lag_by : (p q r : Bool) (bits m : ℕ) → cond p (Some bits) (cond (q || r) (Some 0) None) ≡ Some m
    → ((p ≡ true) × (m ≡ bits)) ⊎ (((q ≡ true) ⊎ (r ≡ true)) × (m ≡ 0))
lag_by true q r bits m e = inl (refl, (cc))
lag_by false true r bits m e = inr (inl refl, (cc))
lag_by false false true bits m e = inr (inr refl, (cc))
lag_by false false false bits m e = absurd (cc)

none_by : (p q r : Bool) (bits : ℕ) → p ≡ false → q ≡ false → r ≡ false → cond p (Some bits) (cond (q || r) (Some 0) None) ≡ None
none_by false false false bits a b c = refl
none_by true q r bits a b c = absurd (cc)
none_by false true r bits a b c = absurd (cc)
none_by false false true bits a b c = absurd (cc)

pub below_links : (bits : ℕ) (l : Links) (i m : ℕ) (P : ℕ → Type 0) → ((k : ℕ) → l.post ≡ Some k → P k) → ((k : ℕ) → l.own ≡ Some k → P k)
    → ((k : ℕ) → l.partner ≡ Some k → P k) → lag_in bits l i ≡ Some m → P i
below_links bits l i m P post own partner e =
    elim (lag_by (is_number l.post i) (is_number l.own i) (is_number l.partner i) bits m (sym (lag_same bits l i) ∙ e)) [
      | inl h ↦ post i (number_there l.post i h.0)
      | inr h ↦
          elim h.0 [
            | inl g ↦ own i (number_there l.own i g)
            | inr g ↦ partner i (number_there l.partner i g)
          ]
    ]

-- a lag is that of bits, or 0
pub lag_either : (bits : ℕ) (l : Links) (i m : ℕ) → lag_in bits l i ≡ Some m → (m ≡ bits) ⊎ (m ≡ 0)
lag_either bits l i m e =
    elim (lag_by (is_number l.post i) (is_number l.own i) (is_number l.partner i) bits m (sym (lag_same bits l i) ∙ e)) [
      | inl h ↦ inl h.1
      | inr h ↦ inr h.1
    ]

-- ---- ways
pub record IsTop (best : ℕ → ℕ) (bits : ℕ) (l : Links) (w : Way) : Type 0 where
  pub lag : ℕ
  pub linked : lag_in bits l w.at ≡ Some lag
  pub value : w.length ≡ lag + best w.at
  pub most : (k m : ℕ) → lag_in bits l k ≡ Some m → m + best k ≤ w.length
  pub least : (k m : ℕ) → lag_in bits l k ≡ Some m → m + best k ≡ w.length → w.at ≤ k

module _ (best : ℕ → ℕ) (bits : ℕ) (l : Links) where
  way_there : (o : Option ℕ) (lag : ℕ) (w : Way) → way_of best o lag ≡ Some w → (o ≡ Some w.at) × (w.length ≡ best w.at + lag)
  way_there None lag w e = absurd (cc)
  way_there (Some i) lag w e =
      let s : record { length = best i + lag; at = i } ≡ w = (cc) in
      subst (λ (u : Way). (Some i ≡ Some u.at) × (u.length ≡ best u.at + lag)) s (refl, refl)

  beaten : (o : Option ℕ) (lag : ℕ) (w : Way) (k : ℕ) → Beats (way_of best o lag) w → o ≡ Some k → (best k + lag ≤ w.length) × (best k + lag ≡ w.length → w.at ≤ k)
  beaten o lag w k h e = subst (λ v. Beats (way_of best v lag) w) e h

  none_way : (o : Option ℕ) (lag : ℕ) → way_of best o lag ≡ None → (i : ℕ) → is_number o i ≡ false
  none_way None lag e i = refl
  none_way (Some k) lag e i = absurd (cc)

  abbrev AllBeaten : Way → Type 0
  AllBeaten w = Beats (way_of best l.post bits) w × (Beats (way_of best l.own 0) w × Beats (way_of best l.partner 0) w)

  most_of : (w : Way) → AllBeaten w → (k m : ℕ) → lag_of bits l k ≡ Some m → (m + best k ≤ w.length) × (m + best k ≡ w.length → w.at ≤ k)
  most_of w h k m e =
      elim (lag_by (is_number l.post k) (is_number l.own k) (is_number l.partner k) bits m e) [
        | inl g ↦ let b = beaten l.post bits w k h.0 (number_there l.post k g.0) in within m bits g.1 b
        | inr g ↦
            elim g.0 [
              | inl f ↦ let b = beaten l.own 0 w k h.1.0 (number_there l.own k f) in within m 0 g.1 b
              | inr f ↦ let b = beaten l.partner 0 w k h.1.1 (number_there l.partner k f) in within m 0 g.1 b
            ]
      ]
    where
      within : (m lag : ℕ) → m ≡ lag → (best k + lag ≤ w.length) × (best k + lag ≡ w.length → w.at ≤ k) → (m + best k ≤ w.length) × (m + best k ≡ w.length → w.at ≤ k)
      within m lag e b = (omega arith, λ s. let q : best k + lag ≡ w.length = omega arith in b.1 q)

  -- of a way from the own rank or the partner's, the lag is 0, or the event gave the bits too and the lag of bits is 0
  plain_lag : (w : Way) → AllBeaten w → (is_number l.own w.at || is_number l.partner w.at) ≡ true → w.length ≡ best w.at + 0
      → (lag : ℕ) × (lag_of bits l w.at ≡ Some lag) × (w.length ≡ lag + best w.at)
  plain_lag w h e v = by (is_number l.post w.at) refl
    where
      by : (t : Bool) → is_number l.post w.at ≡ t → (lag : ℕ) × (lag_of bits l w.at ≡ Some lag) × (w.length ≡ lag + best w.at)
      by true s =
          let b : best w.at + bits ≤ w.length = (beaten l.post bits w w.at h.0 (number_there l.post w.at s)).0 in
          (bits, rw s, omega arith)
      by false s = (0, rw (s, e), omega arith)

  post_lag : (w : Way) → l.post ≡ Some w.at → w.length ≡ best w.at + bits → (lag : ℕ) × (lag_of bits l w.at ≡ Some lag) × (w.length ≡ lag + best w.at)
  post_lag w e v = let s : is_number l.post w.at ≡ true = there_number l.post w.at e in (bits, rw s, omega arith)

  or_left : (p q : Bool) → p ≡ true → (p || q) ≡ true
  or_left true q e = refl
  or_left false q e = absurd (cc)

  or_right : (p q : Bool) → q ≡ true → (p || q) ≡ true
  or_right true q e = refl
  or_right false q e = e

  lag_of_top : (w : Way) → AllBeaten w
      → ((way_of best l.post bits ≡ Some w) ⊎ (way_of best l.own 0 ≡ Some w)) ⊎ (way_of best l.partner 0 ≡ Some w)
      → (lag : ℕ) × (lag_of bits l w.at ≡ Some lag) × (w.length ≡ lag + best w.at)
  lag_of_top w h (inl (inl e)) = let g = way_there l.post bits w e in post_lag w g.0 g.1
  lag_of_top w h (inl (inr e)) =
      let g = way_there l.own 0 w e in plain_lag w h (or_left _ _ (there_number l.own w.at g.0)) g.1
  lag_of_top w h (inr e) =
      let g = way_there l.partner 0 w e in plain_lag w h (or_right _ _ (there_number l.partner w.at g.0)) g.1

  pub top_way : (w : Way) → best_way best bits l ≡ Some w → IsTop best bits l w
  top_way w e =
      let a = way_of best l.post bits in
      let b = way_of best l.own 0 in
      let c = way_of best l.partner 0 in
      let t = top (better_of a b) c w e in
      let u = both_beaten a b w t.first in
      let all : AllBeaten w = (u.0, (u.1, t.second)) in
      let from : ((a ≡ Some w) ⊎ (b ≡ Some w)) ⊎ (c ≡ Some w) =
      elim t.one [ inl f ↦ inl (top a b w f).one | inr f ↦ inr f ] in
      let g = lag_of_top w all from in
      record {
        lag = g.0;
        linked = lag_same bits l w.at ∙ g.1;
        value = g.2;
        most = λ k m f. (most_of w all k m (sym (lag_same bits l k) ∙ f)).0;
        least = λ k m f s. (most_of w all k m (sym (lag_same bits l k) ∙ f)).1 s;
      }

  pub no_way : best_way best bits l ≡ None → (i : ℕ) → lag_in bits l i ≡ None
  no_way e i =
      let h = none_of_two _ _ e in
      let g = none_of_two _ _ h.0 in
      lag_same bits l i ∙ none_by _ _ _ bits (none_way l.post bits g.0 i) (none_way l.own 0 g.1 i) (none_way l.partner 0 h.1 i)
