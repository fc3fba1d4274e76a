-- Laws of text that is gathered on a page, and how it comes to the sink
use Rattle.std.proofs.Common.{◌≡◌, ℕ, ◌+◌, ◌<◌, ◌≤◌, List, [], ◌∷◌, ◌++◌, length, take, drop, get_or, suc, Result, Ok, Err, refl, sym, ◌∙◌, ap, subst, append_assoc, drop-cons}
use Rattle.std.proofs.lemmas.List.{append-nil, take-append-drop, take_more, take_all}
use Rattle.std.proofs.lemmas.Result.{err_from_is_err_and}
use Rattle.std.specs.Prelude.{IsErrAnd}
use Rattle.std.specs.List.{flat_map}
use Rattle.qm_io.specs.Ends.{SinkView, Took, Broke, Puts}
use Rattle.qm_io.proofs.EndLemmas.{Took-nothing, Took-join, Took-broke, Broke-more, Broke-next, Took-puts, Puts-stop}
use Rattle.qm_print.specs.Gathering.{Added, Stopped, Gathers}
use Rattle.qm_print.specs.declared.page.Piece.{Piece}
use Rattle.qm_print.specs.Pieces.{piece_text, followed_by_all, pieces_text}

-- nothing was added
pub Added-nothing : (v : SinkView) (held : List ℕ) → Added v v held held []
Added-nothing v held = record { gone = []; took = Took-nothing v; whole = append-nil held }

-- two texts one after the other
pub Added-join : (u v w : SinkView) (h i j a b : List ℕ) → Added u v h i a → Added v w i j b → Added u w h j (a ++ b)
Added-join u v w h i j a b s t = record {
  gone = s.gone ++ t.gone;
  took = Took-join u v w s.gone t.gone s.took t.took;
  whole = sym (append_assoc h a b) ∙ ap (λ x. x ++ b) s.whole ∙ append_assoc s.gone i b ∙ ap (λ x. s.gone ++ x) t.whole ∙ sym (append_assoc s.gone t.gone j);
}

-- a sink that failed at a front of a text failed at the text
pub Stopped-more : (u w : SinkView) (h a b : List ℕ) → Stopped u w h a → Stopped u w h (a ++ b)
Stopped-more u w h a b t = record { broke = subst (Broke u w) (append_assoc h a b) (Broke-more u w (h ++ a) b t.broke) }

-- a text, then one at which the sink failed
pub Stopped-next : (u v w : SinkView) (h i a b : List ℕ) → Added u v h i a → Stopped v w i b → Stopped u w h (a ++ b)
Stopped-next u v w h i a b s t =
    let e : h ++ (a ++ b) ≡ s.gone ++ (i ++ b) = sym (append_assoc h a b) ∙ ap (λ x. x ++ b) s.whole ∙ append_assoc s.gone i b in
    record { broke = Took-broke u v w s.gone (i ++ b) [] (h ++ (a ++ b)) s.took t.broke (e ∙ sym (append-nil (s.gone ++ (i ++ b)))) }

-- a text, then the last one, whose result is returned
pub Added-gathers : {T E : Type 0} (u v w : SinkView) (h i j a b : List ℕ) (r : Result T E) → Added u v h i a → Gathers v w i j b r → Gathers u w h j (a ++ b) r
Added-gathers u v w h i j a b (Ok x) s t = Added-join u v w h i j a b s t
Added-gathers u v w h i j a b (Err x) s t = Stopped-next u v w h i a b s t

-- the exit of a `?`
pub Gathers-stop : {T E : Type 0} (Q : E → Type 0) (r : Result T E) (u w : SinkView) (h j whole : List ℕ) → IsErrAnd r Q → Stopped u w h whole → Gathers u w h j whole r
Gathers-stop Q r u w h j whole q b = let p = err_from_is_err_and r q in rw p.1 b

-- a whole text on a page that was blank, and then the page is written out
pub Added-puts : {T E : Type 0} (u v w : SinkView) (h text : List ℕ) (r : Result T E) → Added u v [] h text → Puts v w h r → Puts u w text r
Added-puts u v w h text r s t = subst (λ x. Puts u w x r) (sym s.whole) (Took-puts u v w s.gone h r s.took t)

-- what was on the page was written out, and then a text was put as it is
pub Took-gathers : {T E : Type 0} (u v w : SinkView) (h text : List ℕ) (r : Result T E) → Took u v h → Puts v w text r → Gathers u w h [] text r
Took-gathers u v w h text (Ok x) s t = record { gone = h ++ text; took = Took-join u v w h text s t; whole = sym (append-nil (h ++ text)) }
Took-gathers u v w h text (Err x) s t = record { broke = Broke-next u v w h text s t }

-- and the exit of a `?` in a call that writes to the page and then to the sink
pub Stopped-puts : {T E : Type 0} (Q : E → Type 0) (r : Result T E) (u w : SinkView) (text : List ℕ) → IsErrAnd r Q → Stopped u w [] text → Puts u w text r
Stopped-puts Q r u w text q s = Puts-stop Q r u w text q s.broke

-- ---- a text for each element of a list
pub flat_map-append : {X A : Type 0} (f : X → List A) (xs ys : List X) → flat_map f (xs ++ ys) ≡ flat_map f xs ++ flat_map f ys
flat_map-append f [] ys = refl
flat_map-append f (x ∷ xs) ys = ap (λ zs. f x ++ zs) (flat_map-append f xs ys) ∙ sym (append_assoc (f x) (flat_map f xs) (flat_map f ys))

module _ {X : Type 0} (f : X → List ℕ) (u v w : SinkView) (h i : List ℕ) (xs : List X) (n : ℕ) (d : X) (more : n < length xs) where
  -- the texts of n elements were added, and then that of one more
  pub Added-each : (j : List ℕ) → Added u v h i (flat_map f (take n xs)) → Added v w i j (f (get_or xs n d)) → Added u w h j (flat_map f (take (n + 1) xs))
  Added-each j s t =
      let text = f (get_or xs n d) in
      let e : flat_map f (take (n + 1) xs) ≡ flat_map f (take n xs) ++ text =
      ap (flat_map f) (take_more xs n d more) ∙ flat_map-append f (take n xs) (get_or xs n d ∷ []) ∙ ap (λ x. flat_map f (take n xs) ++ x) (append-nil text) in
      subst (Added u w h j) (sym e) (Added-join u v w h i j _ _ s t)

  -- and at that one the sink broke
  pub Stopped-each : Added u v h i (flat_map f (take n xs)) → Stopped v w i (f (get_or xs n d)) → Stopped u w h (flat_map f xs)
  Stopped-each s t =
      let text = f (get_or xs n d) in
      let rest = flat_map f (drop (suc n) xs) in
      let e : flat_map f xs ≡ (flat_map f (take n xs) ++ text) ++ rest =
      ap (flat_map f) (sym (take-append-drop n xs) ∙ ap (λ (ys : List X). take n xs ++ ys) (drop-cons xs n d more))
      ∙ flat_map-append f (take n xs) (get_or xs n d ∷ drop (suc n) xs) ∙ sym (append_assoc (flat_map f (take n xs)) text rest) in
      rw e (Stopped-more u w h (flat_map f (take n xs) ++ text) rest (Stopped-next u v w h i _ _ s t))

-- the texts of all elements were added
pub Added-all : {X : Type 0} (f : X → List ℕ) (u w : SinkView) (h j : List ℕ) (xs : List X) (n : ℕ) → length xs ≤ n → Added u w h j (flat_map f (take n xs)) → Added u w h j (flat_map f xs)
Added-all f u w h j xs n all s = rw (take_all n xs all) at s

-- ---- pieces
followed_by_all-flat : (text : List ℕ) (ps : List Piece) → followed_by_all text ps ≡ text ++ flat_map piece_text ps
followed_by_all-flat text [] = sym (append-nil text)
followed_by_all-flat text (p ∷ ps) = followed_by_all-flat (text ++ piece_text p) ps ∙ append_assoc text (piece_text p) (flat_map piece_text ps)

-- the texts of pieces are one text for each
pub pieces_text-flat : (ps : List Piece) → flat_map piece_text ps ≡ pieces_text ps
pieces_text-flat [] = refl
pieces_text-flat (p ∷ ps) = sym (followed_by_all-flat (piece_text p) ps)
