use Rattle.std.proofs.Common.{◌≡◌, ◌≤◌, take}
use Rattle.conf_include.specs.Paths.{slash_end}
use Rattle.conf_include.proofs.paths.slash_end.Given as goal

abbrev pub invariant-loop-i : goal.invariant-loop-i
invariant-loop-i l = (l.end ≡ slash_end (take l.i l.path)) × (l.end ≤ l.i)
