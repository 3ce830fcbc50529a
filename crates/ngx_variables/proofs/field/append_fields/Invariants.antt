use Rattle.std.proofs.Common.{◌≡◌, ◌++◌, length}
use Rattle.ngx_variables.specs.Texts.{behind_comma}
use Rattle.ngx_variables.proofs.field.append_fields.Given as goal

abbrev pub invariant-loop-value : goal.invariant-loop-value
invariant-loop-value l = l.out ++ behind_comma l.values ≡ l.initial.out ++ behind_comma l.initial.values

abbrev pub decreases-loop-value : goal.decreases-loop-value
decreases-loop-value l = length l.values
