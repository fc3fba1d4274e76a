-- Longest chains: by one pass over the events each knows the longest chain that ends at it
use Rattle.std.proofs.Common.{◌≡◌, ℕ, ◌+◌, ◌<◌, ◌≤◌, List, [], ◌∷◌, Option, Some, None, unwrap_or, ◌⊎◌, inl, inr, refl, sym, ap, subst, ◌∙◌, arith}
use Rattle.qm_cost.specs.Longest.{IsBest, IsAlone, IsPassed, Leads}
use Rattle.std.proofs.lemmas.Bool.Decides.{leb_tells}
use Rattle.qm_cost.specs.Chains.{Work, IsBefore, IsChain, length_of, EndsFirst, GoesBackFirst, GoesBack, IsReported}

-- ---- one chain alone is reported
le_or_lt : (j k : ℕ) → (j ≤ k) ⊎ (k < j)
le_or_lt j k = elim (leb_tells j k) [ inl h ↦ inl h.1 | inr h ↦ inr h.1 ]

none_longer : (w : Work) → w.count ≡ 0 → (d : List ℕ) → IsChain w d → length_of w d ≤ 0
none_longer w e [] a = omega arith
none_longer w e (k ∷ ks) a = let h : k < w.count = a.0 in absurd (omega arith)

same_number : (i k : ℕ) → i ≤ k → k ≤ i → i ≡ k
same_number i k h g = omega arith

module _ (w : Work) where
  -- event j can't follow what is no direct predecessor
  none_follows : (i j : ℕ) → w.lag i j ≡ None → IsBefore w i j → ⊥
  none_follows i j e (l, s) = cc

  back_alike : (j : ℕ) (is ks : List ℕ) → IsChain w (j ∷ is) → IsChain w (j ∷ ks) → GoesBack w (j ∷ is) → GoesBack w (j ∷ ks)
      → length_of w (j ∷ is) ≡ length_of w (j ∷ ks) → is ≡ ks
  back_alike j [] [] a b f g e = refl
  back_alike j [] (k ∷ ks) a b f g e = absurd (none_follows k j (f.0 k) b.1)
  back_alike j (i ∷ is) [] a b f g e = absurd (none_follows i j (g.0 i) a.1)
  back_alike j (i ∷ is) (k ∷ ks) a b f g e =
      let same : i ≡ k = same_number i k (f.0 k ks b (sym e)) (g.0 i is a e) in
      let there : IsChain w (i ∷ ks) = subst (λ n. IsChain w (n ∷ ks)) (sym same) b.2 in
      let back : GoesBack w (i ∷ ks) = subst (λ n. GoesBack w (n ∷ ks)) (sym same) g.1 in
      let whole : length_of w (j ∷ i ∷ is) ≡ length_of w (j ∷ i ∷ ks) =
      e ∙ ap (λ n. length_of w (j ∷ n ∷ ks)) (sym same) in
      let alike : length_of w (i ∷ is) ≡ length_of w (i ∷ ks) = omega arith in
      ap (λ l. i ∷ l) (back_alike i is ks a.2 there f.1 back alike) ∙ ap (λ n. n ∷ ks) same

  chain_within : (j : ℕ) (is : List ℕ) → IsChain w (j ∷ is) → w.count ≡ 0 → ⊥
  chain_within j is a e = let h : j < w.count = a.0 in omega arith

  pub one_reported : (c d : List ℕ) → IsReported w c → IsReported w d → c ≡ d
  one_reported [] [] r s = refl
  one_reported [] (k ∷ ks) r s = absurd (chain_within k ks s.chain r.last)
  one_reported (j ∷ is) [] r s = absurd (chain_within j is r.chain s.last)
  one_reported (j ∷ is) (k ∷ ks) r s =
      let e : length_of w (j ∷ is) ≡ length_of w (k ∷ ks) =
      same_number _ _ (s.longest (j ∷ is) r.chain) (r.longest (k ∷ ks) s.chain) in
      let same : j ≡ k = same_number j k (r.last k ks s.chain (sym e)) (s.last j is r.chain e) in
      let there : IsChain w (j ∷ ks) = subst (λ n. IsChain w (n ∷ ks)) (sym same) s.chain in
      let back : GoesBack w (j ∷ ks) = subst (λ n. GoesBack w (n ∷ ks)) (sym same) s.before in
      let alike : length_of w (j ∷ is) ≡ length_of w (j ∷ ks) = e ∙ ap (λ n. length_of w (n ∷ ks)) (sym same) in
      ap (λ l. j ∷ l) (back_alike j is ks r.chain there r.before back alike) ∙ ap (λ n. n ∷ ks) same

-- ---- one pass finds it
module _ (w : Work) (best : ℕ → ℕ) (from : ℕ → Option ℕ) (passed : (j : ℕ) → j < w.count → IsPassed w best j (from j))
    (below : (i j l : ℕ) → j < w.count → w.lag i j ≡ Some l → i < j) where
  takes_within : (j : ℕ) (o : Option ℕ) → IsPassed w best j o → w.takes j ≤ best j
  takes_within j None h = omega (arith, h.value)
  takes_within j (Some i) h = omega (arith, h.value)

  step_within : (j : ℕ) (o : Option ℕ) → IsPassed w best j o → (k l : ℕ) → w.lag k j ≡ Some l → w.takes j + (l + best k) ≤ best j
  step_within j None h k l e = let n : w.lag k j ≡ None = h.none k in cc
  step_within j (Some i) h k l e = let m : l + best k ≤ h.lag + best i = h.most k l e in omega (arith, h.value)

  -- no chain that ends at j is longer
  pub within_best : (j : ℕ) (is : List ℕ) → IsChain w (j ∷ is) → length_of w (j ∷ is) ≤ best j
  within_best j [] a = let h : w.takes j ≤ best j = takes_within j (from j) (passed j a.0) in omega arith
  within_best j (i ∷ is) a =
      let l : ℕ = a.1.0 in
      let e : w.lag i j ≡ Some l = a.1.1 in
      let rest : length_of w (i ∷ is) ≤ best i = within_best i is a.2 in
      let step : w.takes j + (l + best i) ≤ best j = step_within j (from j) (passed j a.0) i l e in
      let lag : unwrap_or (w.lag i j) 0 ≡ l = ap (λ o. unwrap_or o 0) e in
      omega arith

  -- a direct predecessor from which the length can be had has no lower number than the one kept
  least_before : (j i : ℕ) (is : List ℕ) → IsBest w best j i → length_of w (j ∷ i ∷ is) ≡ best j → GoesBackFirst w j (i ∷ is)
  least_before j i is b whole k ks chain same =
      let m : ℕ = chain.1.0 in
      let e : w.lag k j ≡ Some m = chain.1.1 in
      let lag : unwrap_or (w.lag k j) 0 ≡ m = ap (λ o. unwrap_or o 0) e in
      let value : best j ≡ w.takes j + (b.lag + best i) = b.value in
      let within : length_of w (k ∷ ks) ≤ best k = within_best k ks chain.2 in
      let most : m + best k ≤ b.lag + best i = b.most k m e in
      let length : length_of w (j ∷ k ∷ ks) ≡ best j = same ∙ whole in
      let equal : m + best k ≡ b.lag + best i = omega arith in
      b.least k m e equal

  -- a chain that is traced is as long as its end's best
  pub traced_length : (j : ℕ) (is : List ℕ) → j < w.count → Leads from (from j) is None → IsChain w (j ∷ is) × (length_of w (j ∷ is) ≡ best j) × GoesBack w (j ∷ is)
  traced_length j [] h t =
      let alone : IsAlone w best j = subst (λ o. IsPassed w best j o) t (passed j h) in
      let v : best j ≡ w.takes j = alone.value in
      ((h, tt, tt), (omega arith), (alone.none, tt))
  traced_length j (i ∷ is) h t =
      let b : IsBest w best j i = subst (λ o. IsPassed w best j o) t.0 (passed j h) in
      let less : i < j = below i j b.lag h b.linked in
      let here : i < w.count = omega arith in
      let rest = traced_length i is here t.1 in
      let chain : IsChain w (j ∷ i ∷ is) = (h, (b.lag, b.linked), rest.0) in
      let lag : unwrap_or (w.lag i j) 0 ≡ b.lag = ap (λ o. unwrap_or o 0) b.linked in
      let value : best j ≡ w.takes j + (b.lag + best i) = b.value in
      let rest_value : length_of w (i ∷ is) ≡ best i = rest.1 in
      let whole : length_of w (j ∷ i ∷ is) ≡ best j = omega arith in
      (chain, whole, (least_before j i is b whole, rest.2))

  within_all : (j : ℕ) (is : List ℕ) → length_of w (j ∷ is) ≡ best j → ((k : ℕ) → k < w.count → best k ≤ best j)
      → (d : List ℕ) → IsChain w d → length_of w d ≤ length_of w (j ∷ is)
  within_all j is e most [] a = omega arith
  within_all j is e most (k ∷ ks) a =
      let b : length_of w (k ∷ ks) ≤ best k = within_best k ks a in
      let m : best k ≤ best j = most k a.0 in
      omega arith

  ends_first : (j : ℕ) (is : List ℕ) → length_of w (j ∷ is) ≡ best j → ((k : ℕ) → k < j → best k < best j) → EndsFirst w (j ∷ is)
  ends_first j is e first k ks a same =
      elim (le_or_lt j k) [
        | inl h ↦ h
        | inr h ↦
            let b : length_of w (k ∷ ks) ≤ best k = within_best k ks a in
            let f : best k < best j = first k h in
            absurd (omega arith)
      ]

  -- and where that end is the first of those whose best is the largest, the chain is the one reported
  pub traced_reported : (j : ℕ) (is : List ℕ) → j < w.count → Leads from (from j) is None
      → ((k : ℕ) → k < w.count → best k ≤ best j) → ((k : ℕ) → k < j → best k < best j) → IsReported w (j ∷ is)
  traced_reported j is h t most first =
      let r = traced_length j is h t in
      record {
        chain = r.0;
        longest = within_all j is r.1 most;
        last = ends_first j is r.1 first;
        before = r.2;
      }

pub none_reported : (w : Work) → w.count ≡ 0 → IsReported w []
none_reported w e = record { chain = tt; longest = none_longer w e; last = e; before = tt }
