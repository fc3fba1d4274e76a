-- What a message has begun makes what it owes, up to the outcomes that it has used: the laws of the lines in which they differ
use Rattle.std.proofs.Common.{◌≡◌, ◌≢◌, ℕ, Bool, List, [], ◌∷◌, ◌++◌, sym, ap, subst, append_assoc}
use Rattle.qm_denot.specs.declared.Wire.{Wire}
use Rattle.qm_denot.specs.declared.Letter.{Letter}
use Rattle.qm_denot.specs.declared.Letter.TheVariants.{Phase, Flip, Had, Cx, Pair, Take, Rename}
use Rattle.qm_denot.specs.Circuits.{Circuit, IsEqualUpTo}
use Rattle.qm_denot.specs.Circuits.{IsBlank}
use Rattle.qm_denot.specs.Protocols.{letter_if}
use Rattle.qm_denot.proofs.EqualUpTo.{equal_append, equal_trans}
use Rattle.qm_denot.proofs.Inverses.{equal_flip_twice}
use Rattle.qm_denot.proofs.ProtocolLaws.{equal_pair, equal_copy, equal_near, equal_move, equal_reach}
use Rattle.qm_simulation.specs.Following.Debts.{pair_letters}
use Rattle.qm_simulation.proofs.Following.SafeDebts.{moved_near, corrections_of}

-- equal lists of letters after one circuit, and the same letters after both
equal_more : (n : ℕ) (c xs ys ls : List Letter) → IsEqualUpTo n (c ++ xs) (c ++ ys) → IsEqualUpTo n (c ++ (xs ++ ls)) (c ++ (ys ++ ls))
equal_more n c xs ys ls h =
    subst (λ z. IsEqualUpTo n z (c ++ (ys ++ ls))) (append_assoc c xs ls)
    (subst (λ z. IsEqualUpTo n ((c ++ xs) ++ ls) z) (append_assoc c ys ls) (equal_append n (c ++ xs) (c ++ ys) ls h))

module _ (c : Circuit) (w e f : Wire) (we : w ≢ e) (wf : w ≢ f) (ef : e ≢ f) (e_blank : IsBlank c e) (f_blank : IsBlank c f) where
  -- a pair, and letters after it
  pub pair_begun : (ls : List Letter) → IsEqualUpTo 0 (c ++ Pair e f ∷ ls) (c ++ (pair_letters e f ++ ls))
  pair_begun ls = equal_more 0 c (Pair e f ∷ []) (pair_letters e f) ls (equal_pair c w e f we wf ef e_blank f_blank)

  -- the deciding Post of a copy, or the first Post of a reach
  pub copy_settled : (m : Bool) → IsEqualUpTo 1 (c ++ Pair e f ∷ Cx w e ∷ Take e m ∷ []) (c ++ Cx w f ∷ letter_if m (Flip f))
  copy_settled m =
      let ls = Cx w e ∷ Take e m ∷ [] in
      equal_trans 0 1 (c ++ Pair e f ∷ ls) (c ++ (pair_letters e f ++ ls)) (c ++ Cx w f ∷ letter_if m (Flip f)) (pair_begun ls) (equal_copy c w e f we wf ef e_blank f_blank m)

  -- a move whose near half is measured away
  pub near_begun : (m : Bool) → IsEqualUpTo 1 (c ++ Pair e f ∷ Cx w e ∷ Had w ∷ Take e m ∷ []) (c ++ moved_near w f m)
  near_begun m =
      let ls = Cx w e ∷ Had w ∷ Take e m ∷ [] in
      equal_trans 0 1 (c ++ Pair e f ∷ ls) (c ++ (pair_letters e f ++ ls)) (c ++ moved_near w f m) (pair_begun ls) (equal_near c w e f we wf ef e_blank f_blank m)

  -- the deciding Post of a move
  pub move_settled : (m n : Bool) → IsEqualUpTo 2 (c ++ Pair e f ∷ Cx w e ∷ Had w ∷ Take e m ∷ Take w n ∷ []) (c ++ Rename w f ∷ corrections_of n m f)
  move_settled m n =
      let ls = Take w n ∷ [] in
      let joined : Cx w f ∷ (letter_if m (Flip f) ++ Had w ∷ Take w n ∷ []) ≡ moved_near w f m ++ ls = ap (λ zs. Cx w f ∷ zs) (sym (append_assoc (letter_if m (Flip f)) (Had w ∷ []) ls)) in
      equal_trans 1 1 (c ++ Pair e f ∷ Cx w e ∷ Had w ∷ Take e m ∷ Take w n ∷ []) (c ++ (moved_near w f m ++ ls)) (c ++ Rename w f ∷ corrections_of n m f)
      (equal_more 1 c (Pair e f ∷ Cx w e ∷ Had w ∷ Take e m ∷ []) (moved_near w f m) ls (near_begun m))
      (subst (λ zs. IsEqualUpTo 1 (c ++ zs) (c ++ Rename w f ∷ corrections_of n m f)) joined (equal_move c w f wf f_blank m n))

  -- a reach at its second rank, after its half is corrected
  pub flip_begun : (b : Bool) → IsEqualUpTo 1 (c ++ ((Pair e f ∷ Cx w e ∷ Take e b ∷ []) ++ letter_if b (Flip f))) (c ++ Cx w f ∷ [])
  flip_begun b =
      let ls = letter_if b (Flip f) in
      let one = equal_more 1 c (Pair e f ∷ Cx w e ∷ Take e b ∷ []) (Cx w f ∷ ls) ls (copy_settled b) in
      let two : IsEqualUpTo 0 (c ++ ((Cx w f ∷ ls) ++ ls)) (c ++ Cx w f ∷ []) =
      subst (λ z. IsEqualUpTo 0 z (c ++ Cx w f ∷ [])) (append_assoc c (Cx w f ∷ []) (ls ++ ls)) (equal_flip_twice (c ++ Cx w f ∷ []) b f) in
      equal_trans 1 0 (c ++ ((Pair e f ∷ Cx w e ∷ Take e b ∷ []) ++ ls)) (c ++ ((Cx w f ∷ ls) ++ ls)) (c ++ Cx w f ∷ []) one two

  -- and after more letters there
  pub reach_begun : (b : Bool) (ls : List Letter) → IsEqualUpTo 1 (c ++ (((Pair e f ∷ Cx w e ∷ Take e b ∷ []) ++ letter_if b (Flip f)) ++ ls)) (c ++ Cx w f ∷ ls)
  reach_begun b ls = equal_more 1 c ((Pair e f ∷ Cx w e ∷ Take e b ∷ []) ++ letter_if b (Flip f)) (Cx w f ∷ []) ls (flip_begun b)

  -- the deciding Post of a reach, of the target v
  pub reach_settled : (b : Bool) (v : Wire) → w ≢ v → f ≢ v → (n : Bool)
      → IsEqualUpTo 2 (c ++ (((Pair e f ∷ Cx w e ∷ Take e b ∷ []) ++ letter_if b (Flip f)) ++ Cx f v ∷ Had f ∷ Take f n ∷ [])) (c ++ Cx w v ∷ letter_if n (Phase 4 w))
  reach_settled b v wv fv n =
      let ls = Cx f v ∷ Had f ∷ Take f n ∷ [] in
      equal_trans 1 1 (c ++ (((Pair e f ∷ Cx w e ∷ Take e b ∷ []) ++ letter_if b (Flip f)) ++ ls)) (c ++ Cx w f ∷ ls) (c ++ Cx w v ∷ letter_if n (Phase 4 w))
      (reach_begun b ls) (equal_reach c w f v wf wv fv f_blank n)
