use Rattle.std.proofs.Common.{◌≡◌, ◌≤◌, true, length, drop}
use Rattle.std.specs.List.{list_all}
use Rattle.req_head.specs.Host.{is_no_mark}
use Rattle.req_head.proofs.host.name_end.Given as goal

abbrev pub invariant-loop-at : goal.invariant-loop-at
invariant-loop-at l = (l.at ≤ length l.host) × (list_all is_no_mark (drop l.at l.host) ≡ true)

abbrev pub decreases-loop-at : goal.decreases-loop-at
decreases-loop-at l = l.at
