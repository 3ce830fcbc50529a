use Rattle.std.proofs.Common.{◌≡◌, drop}
use Rattle.replay_confs.specs.Confs.{text_at}
use Rattle.replay_confs.proofs.confs.text_at.Given as goal

abbrev pub invariant-loop-conf : goal.invariant-loop-conf
invariant-loop-conf l = text_at (drop l.conf-index l.confs) l.path ≡ text_at l.confs l.path
