use Rattle.std.proofs.Common.{◌≤◌, length, arith}
use Rattle.qm_print.specs.Pieces.{piece_text}
use Rattle.qm_print.proofs.GatherLemmas.{Added-nothing, Added-all, Added-each, Stopped-each, Gathers-stop, pieces_text-flat}
use Rattle.qm_print.proofs.page.Page.put_all.Goals as goal

pub returns-in_err-put_piece : goal.returns-in_err-put_piece
returns-in_err-put_piece g c =
    rw (← pieces_text-flat c.args.pieces.now)
    (Gathers-stop _ _ _ _ _ _ _ c.from_residual.ensures.1
    (Stopped-each piece_text _ _ _ _ _ c.args.pieces.now c.loop-piece.piece-index _ c.loop-piece-test.true c.loop-piece.invariant c.in_err-put_piece.ensures))

pub loop-piece-init : goal.loop-piece-init
loop-piece-init g c = Added-nothing _ _

pub loop-piece-preserved : goal.loop-piece-preserved
loop-piece-preserved g c = Added-each piece_text _ _ _ _ _ c.args.pieces.now c.loop-piece.piece-index _ c.loop-piece-test.true _ c.loop-piece.invariant c.in_ok-put_piece.ensures

pub returns : goal.returns
returns g c =
    let all : length c.args.pieces.now ≤ c.loop-piece.piece-index = omega arith in
    rw (← pieces_text-flat c.args.pieces.now) (Added-all piece_text _ _ _ _ c.args.pieces.now c.loop-piece.piece-index all c.loop-piece.invariant)
