use Rattle.std.proofs.Common.{◌≡◌, ◌+◌, ◌≤◌, ◌++◌, length, take, drop}
use Rattle.ngx_variables.specs.Texts.{pieces_text}
use Rattle.ngx_variables.proofs.eval.append_pieces.Given as goal

abbrev pub invariant-loop-piece : goal.invariant-loop-piece
invariant-loop-piece l =
    (l.out ++ pieces_text l.paths l.main l.request l.vars (drop l.piece-index l.pieces) ≡ l.fn.out ++ pieces_text l.paths l.main l.request l.vars l.pieces)
    × (take l.start l.out ≡ l.fn.out)
    × (l.start ≡ length l.fn.out)
    × (l.start ≤ length l.out)
    × (length l.out ≤ l.start + 16384)
