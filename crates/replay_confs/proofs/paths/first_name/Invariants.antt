use Rattle.std.proofs.Common.{◌≡◌, ◌++◌, take, drop}
use Rattle.replay_confs.specs.Paths.{first_name}
use Rattle.replay_confs.proofs.paths.first_name.Given as goal

abbrev pub invariant-loop-i : goal.invariant-loop-i
invariant-loop-i l = take l.i l.text ++ first_name (drop l.i l.text) ≡ first_name l.text
