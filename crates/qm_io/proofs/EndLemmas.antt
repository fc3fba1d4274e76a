-- Laws of what ends tell, for those that write a text in several puts or read one in several pieces.
use Rattle.std.proofs.Common.{◌≡◌, ℕ, ◌+◌, ◌-◌, List, [], ◌++◌, length, take, drop, Option, Some, None, Result, Ok, Err, refl, sym, ◌∙◌, ap, append_assoc, arith, inl, inr}
use Rattle.std.proofs.lemmas.List.{append-nil, take-append-drop, take_rest, take_at}
use Rattle.std.proofs.lemmas.Result.{err_from_is_err_and}
use Rattle.std.proofs.lemmas.Simd.{chunk-drop}
use Rattle.std.proofs.Math.Seq.{take-add}
use Rattle.std.specs.Prelude.{IsErrAnd}
use Rattle.qm_io.specs.Ends.{SinkView, SourceView, Rose, followed_by, led_by, Took, Broke, Puts, Gave}

followed_by-nil : (o : Option (List ℕ)) → followed_by o [] ≡ o
followed_by-nil None = refl
followed_by-nil (Some told) = ap Some (append-nil told)

followed_by-followed_by : (o : Option (List ℕ)) (a b : List ℕ) → followed_by (followed_by o a) b ≡ followed_by o (a ++ b)
followed_by-followed_by None a b = refl
followed_by-followed_by (Some told) a b = ap Some (append_assoc told a b)

led_by-led_by : (a b : List ℕ) (o : Option (List ℕ)) → led_by a (led_by b o) ≡ led_by (a ++ b) o
led_by-led_by a b None = refl
led_by-led_by a b (Some told) = ap Some (sym (append_assoc a b told))

-- a count that rose after it had stayed
Rose-later : (a b c : ℕ) → b ≡ a → Rose b c → Rose a c
Rose-later a b c e (inl h) = inl (omega (arith, h))
Rose-later a b c e (inr h) = inr h

-- a sink that was not called took nothing
pub Took-nothing : (v : SinkView) → Took v v []
Took-nothing v = record { taken = sym (followed_by-nil v.taken); faults = refl }

-- two puts one after the other
pub Took-join : (u v w : SinkView) (a b : List ℕ) → Took u v a → Took v w b → Took u w (a ++ b)
Took-join u v w a b s t = record {
  taken = t.taken ∙ ap (λ o. followed_by o b) s.taken ∙ followed_by-followed_by u.taken a b;
  faults = t.faults ∙ s.faults;
}

-- a put, then one that broke, and a rest that was never put
pub Took-broke : (u v w : SinkView) (a b c whole : List ℕ) → Took u v a → Broke v w b → whole ≡ a ++ b ++ c → Broke u w whole
Took-broke u v w a b c whole s t e = record {
  front = a ++ t.front;
  back = t.back ++ c;
  whole = e ∙ ap (λ x. a ++ x ++ c) t.whole ∙ regroup a t.front t.back c;
  taken = t.taken ∙ ap (λ o. followed_by o t.front) s.taken ∙ followed_by-followed_by u.taken a t.front;
  grows = omega (arith, s.faults, t.grows);
  rose = Rose-later _ _ _ s.faults t.rose;
}
  where
    regroup : (x p q z : List ℕ) → x ++ (p ++ q) ++ z ≡ (x ++ p) ++ (q ++ z)
    regroup x p q z = simp append_assoc

-- a put that broke, and a rest that was never put
pub Broke-more : (u w : SinkView) (a b : List ℕ) → Broke u w a → Broke u w (a ++ b)
Broke-more u w a b t = Took-broke u u w [] a b (a ++ b) (Took-nothing u) t refl

-- a put, then one that broke
pub Broke-next : (u v w : SinkView) (a b : List ℕ) → Took u v a → Broke v w b → Broke u w (a ++ b)
Broke-next u v w a b s t = Took-broke u v w a b [] (a ++ b) s t (sym (append-nil _))

-- a put, then the last one, whose result is returned
pub Took-puts : {T E : Type 0} (u v w : SinkView) (a b : List ℕ) (r : Result T E) → Took u v a → Puts v w b r → Puts u w (a ++ b) r
Took-puts u v w a b (Ok x) s t = Took-join u v w a b s t
Took-puts u v w a b (Err x) s t = Broke-next u v w a b s t

-- a put, then a flush, whose result is returned
pub Took-flushed : {T E : Type 0} (u v w : SinkView) (a : List ℕ) (r : Result T E) → Took u v a → Puts v w [] r → Puts u w a r
Took-flushed u v w a r s t = rw (append-nil a) at (Took-puts u v w a [] r s t)

-- the exit of a `?`
pub Puts-stop : {T E : Type 0} (Q : E → Type 0) (r : Result T E) (u w : SinkView) (whole : List ℕ) → IsErrAnd r Q → Broke u w whole → Puts u w whole r
Puts-stop Q r u w whole h b = let p = err_from_is_err_and r h in rw p.1 b

-- a front of the bytes was taken, and then a front of the rest
pub Took-more : (u v w : SinkView) (bytes : List ℕ) (at n : ℕ) → Took u v (take at bytes) → Took v w (take n (take (length bytes - at) (drop at bytes))) → Took u w (take (at + n) bytes)
Took-more u v w bytes at n s t = rw (take-add at n bytes) (Took-join u v w _ _ s (rw (take_rest bytes at) at t))

-- a front of the bytes was taken, and then the sink failed
pub Took-stop : (u v w : SinkView) (bytes : List ℕ) (at : ℕ) → Took u v (take at bytes) → Broke v w [] → Broke u w bytes
Took-stop u v w bytes at s t = Took-broke u v w (take at bytes) [] (drop at bytes) bytes s t (sym (take-append-drop at bytes) ∙ ap (λ x. x ++ drop at bytes) (sym (append-nil _)))

-- two pieces given one after the other
pub Gave-join : (u v w : SourceView) (a b : List ℕ) → Gave u v a → Gave v w b → Gave u w (a ++ b)
Gave-join u v w a b s t = record {
  left = s.left ∙ ap (led_by a) t.left ∙ led_by-led_by a b w.left;
  faults = t.faults ∙ s.faults;
}

-- a front that was copied out, and what is left behind it
pub front_copied : (bytes part rest : List ℕ) (at n m : ℕ) → part ≡ take m (drop at bytes) → m ≡ n → length part ≡ n → drop at bytes ≡ take n (part ++ rest) ++ drop (at + n) bytes
front_copied bytes part rest at n m e k l = chunk-drop at n bytes ∙ ap (λ x. x ++ drop (at + n) bytes) (sym (take_at part rest n l ∙ (rw k at e)))
