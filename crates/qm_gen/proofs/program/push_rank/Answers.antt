use Rattle.std.specs.Prelude.{[], ◌∷◌, codes}
use Rattle.qm_gen.specs.Made.{with_number, body_of}
use Rattle.qm_gen.proofs.LineLemmas.{written}
use Rattle.qm_gen.proofs.program.push_rank.Goals as goal

pub returns : goal.returns
returns c =
    let body = body_of c.args.kind c.args.size c.args.rank in
    let first = with_number (codes "rank ") c.args.rank [] ∷ [] in
    written _ _ _ (with_number (codes "rank ") c.args.rank [] ∷ body) (codes "end" ∷ [])
    (written _ _ _ first body c.in_ok-push_numbered.ensures c.in_ok-push_body.ensures) c.in_ok-extend_from_slice.ensures.items
