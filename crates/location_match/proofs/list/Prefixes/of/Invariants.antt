use Rattle.location_match.proofs.Sorted.{Filling}
use Rattle.location_match.proofs.list.Prefixes.of.Given as goal

abbrev pub invariant-loop-text : goal.invariant-loop-text
invariant-loop-text l = Filling l.prefixes l.yielded
