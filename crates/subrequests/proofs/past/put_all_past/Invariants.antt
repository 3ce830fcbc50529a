use Rattle.std.proofs.Common.{◌≡◌, ◌+◌}
use Rattle.subrequests.specs.Families.{ArePast, first_row}
use Rattle.subrequests.proofs.past.put_all_past.Given as goal

abbrev pub invariant-loop-past : goal.invariant-loop-past
invariant-loop-past l = record {
  row : l.order ≡ first_row (1 + l._past);
  past : ArePast l.initial.nodes l.nodes l._past;
}
