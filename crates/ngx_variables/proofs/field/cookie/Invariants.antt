use Rattle.std.proofs.Common.{◌≡◌, length}
use Rattle.ngx_variables.specs.Pairs.{cookie}
use Rattle.ngx_variables.proofs.field.cookie.Given as goal

abbrev pub invariant-loop-field : goal.invariant-loop-field
invariant-loop-field l = cookie l.name l.values ≡ cookie l.name l.initial.values

abbrev pub decreases-loop-field : goal.decreases-loop-field
decreases-loop-field l = length l.values
