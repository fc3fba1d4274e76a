-- Letters that a feed takes one after another
use Rattle.std.proofs.Common.{◌≡◌, ◌∙◌, List, [], ◌∷◌, ◌++◌, length, Result, Err, IfErr, IsErrAnd, sym, ap, subst, append_assoc}
use Rattle.std.proofs.lemmas.Result.{err_from_is_err_and}
use Rattle.qm_denot.specs.declared.Letter.{Letter}
use Rattle.qm_denot.specs.Circuits.{Circuit}
use Rattle.qm_confluence.specs.Drawn.{Outcome}
use Rattle.qm_ideal.specs.declared.DrawnError.{DrawnError}
use Rattle.qm_ideal.specs.declared.DrawnError.TheVariants as error
use Rattle.qm_ideal.specs.Drawings.{Drawing, drawing, with_stop, OfLetter}
use Rattle.qm_ideal.specs.UnderWay.{ExplainsWriting}

-- an error that is passed on
pub passed_on : {T E : Type 0} (Q : E → Type 0) (r : Result T E) (x : E) → IsErrAnd r (λ y. y ≡ x) → Q x → IfErr r Q
passed_on Q r x h a = let e = err_from_is_err_and r h in subst (λ r. IfErr r Q) (sym (e.1 ∙ ap (λ y. Err y) e.2)) a

-- some of the letters were taken; a feed that stops at the next one stops at it among all of them
pub stops_later : (before between after : Drawing → Type 0) (c more : Circuit) (taken : List Letter) (l : Letter) (rest ls : List Letter)
    → ls ≡ taken ++ l ∷ rest → more ≡ c ++ taken → ((xs : List Outcome) → before (drawing c xs) → between (drawing more xs))
    → (e : DrawnError) → ExplainsWriting between after more (l ∷ []) e → ExplainsWriting before after c ls e
stops_later before between after c more taken l rest ls all is on error.Memory h = tt
stops_later before between after c more taken l rest ls all is on (error.Stopped at why) h =
    let here : more ++ h.done ≡ c ++ (taken ++ h.done) = ap (λ k. k ++ h.done) is ∙ append_assoc c taken h.done in
    record {
      done = taken ++ h.done;
      next = h.next;
      rest = h.rest ++ rest;
      all = all ∙ ap (λ k. taken ++ (k ++ rest)) h.all ∙ ap (λ k. taken ++ k) (append_assoc h.done (h.next ∷ h.rest) rest)
          ∙ sym (append_assoc taken h.done (h.next ∷ (h.rest ++ rest)));
      taken = h.taken ∙ ap length here;
      fed = λ xs f. subst (λ k. after (with_stop (drawing k xs) why (OfLetter h.next))) here (h.fed xs (on xs f));
    }
