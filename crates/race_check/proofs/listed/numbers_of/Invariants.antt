use Rattle.std.proofs.Common.{◌≡◌, ◌++◌, drop}
use Rattle.race_check.specs.Lists.{lists_of}
use Rattle.race_check.proofs.listed.numbers_of.Given as goal

abbrev pub invariant-loop-level : goal.invariant-loop-level
invariant-loop-level l = l.numbers.items ++ lists_of l.site l.kind (drop l.level-index l.levels) ≡ lists_of l.site l.kind l.levels
