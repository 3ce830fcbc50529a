use Rattle.std.proofs.Common.{suc, ◌+◌}
use Rattle.node_seats.proofs.joining.+shown.Given as goal

abbrev pub decreases-shown_from : goal.decreases-shown_from
decreases-shown_from l = suc (l.levels + l.levels)

abbrev pub decreases-shown_above : goal.decreases-shown_above
decreases-shown_above l = l.levels + l.levels
