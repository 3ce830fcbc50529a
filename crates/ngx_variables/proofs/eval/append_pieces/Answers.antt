use Rattle.std.proofs.Common.{drop, ◌+◌, arith}
use Rattle.ngx_variables.specs.Texts.{pieces_text}
use Rattle.ngx_variables.proofs.Evals as evals
use Rattle.ngx_variables.proofs.eval.append_pieces.Goals as goal

pub returns-then-len-start-gt-TEXT_LIMIT-clause-too_long : goal.returns-then-len-start-gt-TEXT_LIMIT-clause-too_long
returns-then-len-start-gt-TEXT_LIMIT-clause-too_long c =
    let main = c.args.main.now in
    let request = c.args.request.now in
    let vars = c.args.vars.now in
    let paths = c.args.paths.now in
    let pieces = c.args.pieces.now in
    let more = evals.text_more main request vars paths pieces c.loop-piece.piece-index c.piece-item.result c.args.out.now c.loop-piece.out c.append_piece.new.out (pieces_text paths main request vars pieces) (omega arith) c.piece-item.is c.loop-piece.invariant.0 c.in_ok-append_piece.ensures in
    λ _. evals.too_long_by main request vars c.args.out.now c.append_piece.new.out (pieces_text paths main request vars (drop (c.loop-piece.piece-index + 1) pieces)) (pieces_text paths main request vars pieces) c.len-start.result more c.len-start.ensures (omega arith)
