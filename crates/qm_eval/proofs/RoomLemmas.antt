-- A store whose capacity is at least the width has room for the wires that letters need, and for those in slots at the end
use Rattle.std.proofs.Common.{◌≡◌, ℕ, zero, suc, ◌+◌, ◌<◌, ◌≤◌, ◌⊎◌, inl, inr, Bool, true, false, cond, List, [], ◌∷◌, ◌++◌, length, filter, Option, Some, None, refl, sym, ap, subst, ◌∙◌, arith}
use Rattle.std.proofs.lemmas.Bool.{and_parts}
use Rattle.std.proofs.lemmas.List.{length-append}
use Rattle.std.proofs.lemmas.List.Sums.{fold-append}
use Rattle.qm_denot.specs.declared.Wire.{Wire}
use Rattle.qm_denot.specs.declared.Letter.{Letter}
use Rattle.qm_denot.specs.Stores.{Store, live_after}
use Rattle.qm_denot.specs.WireLists.{lacks}
use Rattle.qm_denot.specs.Weights.{operands, also}
use Rattle.qm_denot.proofs.OperandFacts.{Each}
use Rattle.qm_proto.specs.Model.Ideal.{made_fresh, width_from}
use Rattle.qm_eval.specs.Live.{with_live, all_live, HasRoomFor, MakesLive, ready_for, live_past, AllMayFollow, live_through}
use Rattle.qm_eval.proofs.ListLemmas.{lacks-append}
use Rattle.qm_eval.proofs.LiveLemmas.{AllFollow, named_through}

-- ---- more wires are live
grows_once : (live : List Wire) (w : Wire) → length live ≤ length (with_live live w)
grows_once live w = by_bool (lacks live w)
  where
    by_bool : (b : Bool) → length live ≤ length (cond b (live ++ w ∷ []) live)
    by_bool true = let e = length-append live (w ∷ []) in omega (arith, e)
    by_bool false = omega arith

pub all_live-grows : (ws live : List Wire) → length live ≤ length (all_live live ws)
all_live-grows [] live = omega arith
all_live-grows (w ∷ ws) live = let one = grows_once live w in let rest = all_live-grows ws (with_live live w) in omega (arith, one, rest)

-- but no more of them than those that aren't named
abbrev LivesOrUnnamed : List Wire → List Wire → Wire → Type 0
LivesOrUnnamed live named w = lacks live w ≡ true → lacks named w ≡ true

unnamed_more : (live named : List Wire) (w : Wire) (ws : List Wire) → Each (LivesOrUnnamed live named) ws → Each (LivesOrUnnamed (live ++ w ∷ []) named) ws
unnamed_more live named w [] h = tt
unnamed_more live named w (v ∷ ws) h =
    ((λ e. h.0 (and_parts (lacks live v) (lacks (w ∷ []) v) (sym (lacks-append live (w ∷ []) v) ∙ e)).0), unnamed_more live named w ws h.1)

all_live-few : (ws live named : List Wire) → Each (LivesOrUnnamed live named) ws → length (all_live live ws) ≤ length live + length (filter (lacks named) ws)
all_live-few [] live named h = omega arith
all_live-few (w ∷ ws) live named h =
    by_bool (all_live-few ws (live ++ w ∷ []) named (unnamed_more live named w ws h.1)) (all_live-few ws live named h.1) (lacks live w) refl
  where
    at_least : (b : Bool) → length (filter (lacks named) ws) ≤ length (cond b (w ∷ filter (lacks named) ws) (filter (lacks named) ws))
    at_least true = omega arith
    at_least false = omega arith

    by_bool : length (all_live (live ++ w ∷ []) ws) ≤ length (live ++ w ∷ []) + length (filter (lacks named) ws)
        → length (all_live live ws) ≤ length live + length (filter (lacks named) ws) → (b : Bool) → lacks live w ≡ b
        → length (all_live (cond b (live ++ w ∷ []) live) ws) ≤ length live + length (filter (lacks named) (w ∷ ws))
    by_bool rest same true e =
        let one = length-append live (w ∷ []) in
        let new : length (filter (lacks named) (w ∷ ws)) ≡ suc (length (filter (lacks named) ws)) =
        ap (λ b. length (cond b (w ∷ filter (lacks named) ws) (filter (lacks named) ws))) (h.0 e) in
        omega (arith, rest, one, new)
    by_bool rest same false e = let some = at_least (lacks named w) in omega (arith, same, some)

-- ---- wires made live one after another
pub made_none : (s : Store) → MakesLive [] s s
made_none s = record { live = refl; stands = λ c h. h; capacity = refl }

pub made_then : (s t u : Store) (ws vs : List Wire) → MakesLive ws s t → MakesLive vs t u → MakesLive (ws ++ vs) s u
made_then s t u ws vs a b = record {
  live = b.live ∙ ap (λ live. all_live live vs) a.live ∙ sym (fold-append with_live s.live ws vs);
  stands = λ c h. b.stands c (a.stands c h);
  capacity = b.capacity ∙ a.capacity;
}

-- ---- letter by letter
module _ (capacity : ℕ) where
  pub all_may_follow : (ls : List Letter) (live named ends : List Wire) → AllFollow live named ls → width_from live named ls ends ≤ capacity
      → AllMayFollow capacity live ls
  all_may_follow [] live named ends h few = tt
  all_may_follow (l ∷ ls) live named ends h few =
      let new = filter (lacks named) (made_fresh l) in
      let long : length (ready_for l live) ≡ length (live ++ new) = ap (λ (ws : List Wire). length ws) h.0.same in (
        record { room = omega (arith, long, few); may = h.0.may },
        all_may_follow ls (live_past live l) (also named (operands l)) ends h.1
            (subst (λ ws. width_from (live_after l ws) (also named (operands l)) ls ends ≤ capacity) (sym h.0.same) (omega (arith, few))),
      )

  end_fits : (ls : List Letter) (live named ends : List Wire) → AllFollow live named ls → width_from live named ls ends ≤ capacity
      → length (live_through live ls) + length (filter (lacks (named_through named ls)) ends) ≤ capacity
  end_fits [] live named ends h few = few
  end_fits (l ∷ ls) live named ends h few =
      end_fits ls (live_past live l) (also named (operands l)) ends h.1
      (subst (λ ws. width_from (live_after l ws) (also named (operands l)) ls ends ≤ capacity) (sym h.0.same) (omega (arith, few)))

  pub ends_have_room : (ls : List Letter) (live named ends : List Wire) → AllFollow live named ls → width_from live named ls ends ≤ capacity
      → Each (λ w. lacks (named_through named ls) w ≡ lacks (live_through live ls) w) ends
      → length (all_live (live_through live ls) ends) ≤ capacity
  ends_have_room ls live named ends h few same =
      let fit = end_fits ls live named ends h few in
      let most = all_live-few ends (live_through live ls) (named_through named ls) (unnamed ends same) in
      omega (arith, fit, most)
    where
      unnamed : (ws : List Wire) → Each (λ w. lacks (named_through named ls) w ≡ lacks (live_through live ls) w) ws
          → Each (LivesOrUnnamed (live_through live ls) (named_through named ls)) ws
      unnamed [] k = tt
      unnamed (w ∷ ws) k = ((λ e. k.0 ∙ e), unnamed ws k.1)

-- ---- lists that grow piece by piece
module _ (g : ℕ → List Wire) (piece : ℕ → List Wire) (more : (n : ℕ) → g (suc n) ≡ g n ++ piece n) where
  same_or_less : (r n : ℕ) → r ≤ suc n → (r ≡ suc n) ⊎ (r ≤ n)
  same_or_less r n h = grind arith

  pieces_grow : (live : List Wire) (n r : ℕ) → r ≤ n → length (all_live live (g r)) ≤ length (all_live live (g n))
  pieces_grow live zero r below =
      let e : r ≡ 0 = omega (arith, below) in subst (λ k. length (all_live live (g k)) ≤ length (all_live live (g 0))) (sym e) (omega arith)
  pieces_grow live (suc n) r below = elim (same_or_less r n below) [
    | inl e ↦ subst (λ k. length (all_live live (g k)) ≤ length (all_live live (g (suc n)))) (sym e) (omega arith)
    | inr less ↦
        let rest = pieces_grow live n r less in
        let grown = all_live-grows (piece n) (all_live live (g n)) in
        let is : length (all_live live (g (suc n))) ≡ length (all_live (all_live live (g n)) (piece n)) =
        ap (λ ws. length (all_live live ws)) (more n) ∙ ap (λ (ws : List Wire). length ws) (fold-append with_live live (g n) (piece n)) in
        omega (arith, rest, grown, is)
  ]

  -- a store with room for n pieces, r of which are live, has room for the next one
  pub piece_fits : (s t : Store) (n r : ℕ) → r < n → HasRoomFor (g n) s → MakesLive (g r) s t → HasRoomFor (piece r) t
  piece_fits s t n r below room made =
      let grown = pieces_grow s.live n (suc r) (omega (arith, below)) in
      let is : length (all_live t.live (piece r)) ≡ length (all_live s.live (g (suc r))) =
      ap (λ live. length (all_live live (piece r))) made.live ∙ ap (λ (ws : List Wire). length ws) (sym (fold-append with_live s.live (g r) (piece r)))
      ∙ ap (λ ws. length (all_live s.live ws)) (sym (more r)) in
      let capacity = made.capacity in
      omega (arith, grown, is, capacity, room)

  -- and once that one is made live, one piece more is
  pub piece_made : (s t u : Store) (r : ℕ) → MakesLive (g r) s t → MakesLive (piece r) t u → MakesLive (g (suc r)) s u
  piece_made s t u r made next = subst (λ ws. MakesLive ws s u) (sym (more r)) (made_then s t u (g r) (piece r) made next)

-- ---- an empty slot
pub none_where_not_some : {T : Type 0} (o : Option T) → ((t : T) → o ≡ Some t → ⊥) → o ≡ None
none_where_not_some None h = refl
none_where_not_some (Some t) h = absurd (h t refl)
