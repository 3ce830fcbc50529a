use Rattle.std.proofs.Common.{◌≡◌, ◌++◌, drop}
use Rattle.race_check.specs.Numbers.{value_numbers}
use Rattle.race_check.proofs.levels.value_numbers.Given as goal

abbrev pub invariant-loop-level : goal.invariant-loop-level
invariant-loop-level l = l.numbers.items ++ value_numbers l.site (drop l.level-index l.levels) ≡ value_numbers l.site l.levels
