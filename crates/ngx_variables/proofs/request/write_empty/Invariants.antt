use Rattle.std.proofs.Common.{◌≡◌, [], ◌++◌, replicate}
use Rattle.ngx_variables.proofs.request.write_empty.Given as goal

abbrev pub invariant-loop-empty : goal.invariant-loop-empty
invariant-loop-empty l = l.texts.items ++ replicate l.empty [] ≡ l.fn.texts.items ++ replicate l.fn.empty []

abbrev pub decreases-loop-empty : goal.decreases-loop-empty
decreases-loop-empty l = l.empty
