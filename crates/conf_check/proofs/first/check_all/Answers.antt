use Rattle.conf_check.proofs.FaultlessLaws.{no_fault-gives}
use Rattle.conf_check.proofs.first.check_all.Goals as goal

pub returns : goal.returns
returns g c = no_fault-gives _ _ _ _ _ _ c.in_ok-known.ensures c.new-marked.ensures c.check_level.ensures.reads
