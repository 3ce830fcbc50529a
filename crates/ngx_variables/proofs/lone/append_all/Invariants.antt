use Rattle.std.proofs.Common.{◌≡◌, ◌++◌, drop}
use Rattle.ngx_variables.specs.Texts.{pieces_text}
use Rattle.ngx_variables.proofs.lone.append_all.Given as goal

abbrev pub invariant-loop-piece : goal.invariant-loop-piece
invariant-loop-piece l = l.out ++ pieces_text l.paths l.main l.request l.vars (drop l.piece-index l.pieces) ≡ l.fn.out ++ pieces_text l.paths l.main l.request l.vars l.pieces
