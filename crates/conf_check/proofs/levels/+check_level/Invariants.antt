use Rattle.std.proofs.Common.{◌≡◌, ◌≤◌, length, map}
use Rattle.conf_values.specs.TextSet.{holds}
use Rattle.conf_check.specs.Ends.{has_end}
use Rattle.conf_check.proofs.CheckLaws.{Standing}
use Rattle.conf_check.proofs.levels.+check_level.Given as goal

abbrev pub decreases-check_level : goal.decreases-check_level
decreases-check_level g l = length l.level.now

-- what was passed has no fault
abbrev pub invariant-loop-branch : goal.invariant-loop-branch
invariant-loop-branch g l = record {
  standing : Standing (holds l.known.keys) (has_end l.fn.marked.keys) (has_end l.marked.keys) l.here (map (λ n. n.now) l.before.names.items) l.before.addrs.keys l.before.locations l.rest l.level;
  shorter : length l.rest ≤ length l.level;
  spared : g.M.PatternMaker.refusals l.maker ≡ g.M.PatternMaker.refusals l.fn.maker;
}

abbrev pub decreases-loop-branch : goal.decreases-loop-branch
decreases-loop-branch g l = length l.rest
