use Rattle.std.proofs.Common.{◌∙◌, [], ◌∷◌, length, refl, sym, ap, subst, append-nil}
use Rattle.qm_ideal.specs.Drawings.{drawing, with_stop, OfLetter}
use Rattle.qm_ideal.specs.UnderWay.{ExplainsWriting}
use Rattle.qm_ideal.proofs.run.write_one.Goals as goal

pub returns-in-Err-clause-err : goal.returns-in-Err-clause-err
returns-in-Err-clause-err g c p =
    let before = g.F.Feed.feeds c.args.feed.now p in
    let after = g.F.Feed.feeds c.take.new.self p in
    let ls = c.args.letters.now.items in
    let none = sym (append-nil ls) in
    subst (ExplainsWriting before after ls (c.args.letter ∷ [])) (sym c.stopped.ensures) (record {
      done = [];
      next = c.args.letter;
      rest = [];
      all = refl;
      taken = ap length (c.deref.ensures.value ∙ none);
      fed = λ xs f. subst (λ k. after (with_stop (drawing k xs) c.in-Err.why (OfLetter c.args.letter))) none (c.in-Err.ensures.err p (drawing ls xs) f);
    })
