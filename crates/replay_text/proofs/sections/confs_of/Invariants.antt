use Rattle.std.proofs.Common.{◌≡◌, length, []}
use Rattle.replay_text.specs.Grammar.{confs_of}
use Rattle.replay_text.proofs.sections.confs_of.Given as goal

-- the configurations so far, and those in the lines that are left
abbrev pub invariant-lines : goal.invariant-lines
invariant-lines l = confs_of l.confs l.spot.number l.spot.lines ≡ confs_of [] l.fn.spot.number l.fn.spot.lines

abbrev pub decreases-lines : goal.decreases-lines
decreases-lines l = length l.spot.lines
