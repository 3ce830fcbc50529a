use Rattle.std.proofs.Common.{◌≡◌}
use Rattle.subrequests.specs.Ran.{Moves}
use Rattle.subrequests.proofs.family.Family.run.Given as goal

abbrev pub invariant-loop : goal.invariant-loop
invariant-loop l = record {
  moves : Moves l.fn.patterns l.fn.ground l.fn.self l.self;
  tree : l.self.tree ≡ l.fn.self.tree;
  kept : l.patterns ≡ l.fn.patterns;
}
