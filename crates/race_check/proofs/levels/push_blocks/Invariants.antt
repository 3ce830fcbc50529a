use Rattle.std.proofs.Common.{◌≡◌, ◌++◌, drop, flat_map}
use Rattle.race_check.specs.Numbers.{block_number}
use Rattle.race_check.proofs.levels.push_blocks.Given as goal

abbrev pub invariant-loop-step : goal.invariant-loop-step
invariant-loop-step l = l.numbers.items ++ flat_map block_number (drop l.step-index l.steps) ≡ l.fn.numbers.items ++ flat_map block_number l.steps
