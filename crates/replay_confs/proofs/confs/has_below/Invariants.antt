use Rattle.std.proofs.Common.{◌≡◌, drop}
use Rattle.replay_confs.specs.Confs.{has_below}
use Rattle.replay_confs.proofs.confs.has_below.Given as goal

abbrev pub invariant-loop-conf : goal.invariant-loop-conf
invariant-loop-conf l = has_below (drop l.conf-index l.confs) l.folder ≡ has_below l.confs l.folder
