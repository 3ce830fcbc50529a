use Rattle.std.proofs.Common.{◌≤◌, length}
use Rattle.file_type.proofs.PathLemmas.{NoneFrom}
use Rattle.file_type.proofs.path.extension.Given as goal

-- neither a `.` nor a `/` comes after
abbrev pub invariant-loop-end : goal.invariant-loop-end
invariant-loop-end l = (l.end ≤ length l.path) × NoneFrom 46 l.path l.end × NoneFrom 47 l.path l.end

abbrev pub decreases-loop-end : goal.decreases-loop-end
decreases-loop-end l = l.end
