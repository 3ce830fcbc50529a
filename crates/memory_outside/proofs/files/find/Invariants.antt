use Rattle.std.proofs.Common.{◌≡◌, ◌≤◌, length, take}
use Rattle.memory_outside.specs.Stored.{item_in}
use Rattle.memory_outside.proofs.files.find.Given as goal

abbrev pub invariant-loop-at : goal.invariant-loop-at
invariant-loop-at l = record { within : l.at ≤ length l.items; behind : item_in (take l.at l.items) l.of l.path ≡ item_in l.items l.of l.path }

abbrev pub decreases-loop-at : goal.decreases-loop-at
decreases-loop-at l = l.at
