use Rattle.std.proofs.Common.{◌≡◌, ◌++◌, drop}
use Rattle.ngx_variables.specs.Texts.{value_text}
use Rattle.request_meaning.specs.Cuts.{cut}
use Rattle.rewrite_code.proofs.target.append_path.Given as goal

abbrev pub invariant-loop-piece : goal.invariant-loop-piece
invariant-loop-piece l = l.out ++ value_text l.main l.request l.vars (cut (drop l.piece-index l.pieces)).path ≡ l.fn.out ++ value_text l.main l.request l.vars (cut l.pieces).path
