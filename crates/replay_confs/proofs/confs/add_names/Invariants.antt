use Rattle.std.proofs.Common.{◌≡◌, ◌++◌, drop}
use Rattle.replay_confs.specs.Confs.{names_in}
use Rattle.replay_confs.proofs.confs.add_names.Given as goal

abbrev pub invariant-loop-conf : goal.invariant-loop-conf
invariant-loop-conf l = l.out ++ names_in (drop l.conf-index l.confs) l.folder ≡ l.fn.out ++ names_in l.confs l.folder
