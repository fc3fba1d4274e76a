use Rattle.std.proofs.Common.{◌∙◌, [], ◌∷◌, ◌++◌, sym, ap, append_assoc, append-nil}
use Rattle.qm_proto.specs.Model.Acts.{list_of}
use Rattle.qm_ideal.proofs.WritingLemmas.{passed_on, stops_later}
use Rattle.qm_ideal.proofs.run.write.Goals as goal

pub returns-in_err-write_one-in-One-clause-err : goal.returns-in_err-write_one-in-One-clause-err
returns-in_err-write_one-in-One-clause-err g c =
    let old = c.args.letters.now.items in
    passed_on _ _ _ c.from_residual.ensures.1 (λ p. stops_later (g.F.Feed.feeds c.args.feed.now p) _ _ old _ ([]) c.in-One.a ([]) _ (ap list_of c.in-One.is)
    (sym (append-nil old)) (λ xs f. f) _ (c.in_err-write_one-in-One.ensures.err p))

pub returns-in_err-write_one-in-Two-clause-err : goal.returns-in_err-write_one-in-Two-clause-err
returns-in_err-write_one-in-Two-clause-err g c =
    let old = c.args.letters.now.items in
    passed_on _ _ _ c.from_residual-in_err-write_one-in-Two.ensures.1 (λ p. stops_later (g.F.Feed.feeds c.args.feed.now p) _ _ old _ ([]) c.in-Two.a (c.in-Two.b ∷ []) _ (ap list_of c.in-Two.is)
    (sym (append-nil old)) (λ xs f. f) _ (c.in_err-write_one-in-Two.ensures.err p))

pub returns-in_err-write_one-in-Three-clause-err : goal.returns-in_err-write_one-in-Three-clause-err
returns-in_err-write_one-in-Three-clause-err g c =
    let old = c.args.letters.now.items in
    passed_on _ _ _ c.from_residual-in_err-write_one-in-Three.ensures.1 (λ p. stops_later (g.F.Feed.feeds c.args.feed.now p) _ _ old _ ([]) c.in-Three.a (c.in-Three.b ∷ c.in-Three.c ∷ []) _ (ap list_of c.in-Three.is)
    (sym (append-nil old)) (λ xs f. f) _ (c.in_err-write_one-in-Three.ensures.err p))

pub returns-in_err-write_one-in-Two-2-clause-err : goal.returns-in_err-write_one-in-Two-2-clause-err
returns-in_err-write_one-in-Two-2-clause-err g c =
    let old = c.args.letters.now.items in
    passed_on _ _ _ c.from_residual-in_err-write_one-in-Two-2.ensures.1 (λ p. stops_later (g.F.Feed.feeds c.args.feed.now p) _ _ old _ (c.in-Two.a ∷ []) c.in-Two.b ([]) _ (ap list_of c.in-Two.is)
    (c.in_ok-write_one-in-Two.ensures.written) (c.in_ok-write_one-in-Two.ensures.fed p) _ (c.in_err-write_one-in-Two-2.ensures.err p))

pub returns-in_err-write_one-in-Three-2-clause-err : goal.returns-in_err-write_one-in-Three-2-clause-err
returns-in_err-write_one-in-Three-2-clause-err g c =
    let old = c.args.letters.now.items in
    passed_on _ _ _ c.from_residual-in_err-write_one-in-Three-2.ensures.1 (λ p. stops_later (g.F.Feed.feeds c.args.feed.now p) _ _ old _ (c.in-Three.a ∷ []) c.in-Three.b (c.in-Three.c ∷ []) _ (ap list_of c.in-Three.is)
    (c.in_ok-write_one-in-Three.ensures.written) (c.in_ok-write_one-in-Three.ensures.fed p) _ (c.in_err-write_one-in-Three-2.ensures.err p))

pub returns-in_err-write_one-in-Three-3-clause-err : goal.returns-in_err-write_one-in-Three-3-clause-err
returns-in_err-write_one-in-Three-3-clause-err g c =
    let old = c.args.letters.now.items in
    passed_on _ _ _ c.from_residual-in_err-write_one-in-Three-3.ensures.1 (λ p. stops_later (g.F.Feed.feeds c.args.feed.now p) _ _ old _ (c.in-Three.a ∷ c.in-Three.b ∷ []) c.in-Three.c ([]) _ (ap list_of c.in-Three.is)
    (c.in_ok-write_one-in-Three-2.ensures.written ∙ ap (λ k. k ++ c.in-Three.b ∷ []) c.in_ok-write_one-in-Three.ensures.written ∙ append_assoc old (c.in-Three.a ∷ []) (c.in-Three.b ∷ [])) (λ xs f. c.in_ok-write_one-in-Three-2.ensures.fed p xs (c.in_ok-write_one-in-Three.ensures.fed p xs f)) _ (c.in_err-write_one-in-Three-3.ensures.err p))
