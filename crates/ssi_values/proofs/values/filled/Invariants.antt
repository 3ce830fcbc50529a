use Rattle.std.proofs.Common.{◌≡◌, ◌≤◌, [], length}
use Rattle.ssi_values.specs.Known.{known_seen, rest_value, behind}
use Rattle.ssi_values.proofs.values.filled.Given as goal

abbrev pub invariant-loop-first : goal.invariant-loop-first
invariant-loop-first l =
    record {
      read : behind l.out (rest_value (known_seen l.sight) l.rest) ≡ behind [] (rest_value (known_seen l.sight) l.text);
      fits : length l.out ≤ 16384;
    }

abbrev pub decreases-loop-first : goal.decreases-loop-first
decreases-loop-first l = length l.rest
