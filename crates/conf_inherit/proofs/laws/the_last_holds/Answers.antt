use Rattle.conf_inherit.proofs.InheritLaws.{last-holds}
use Rattle.conf_inherit.proofs.laws.the_last_holds.Goals as goal

pub returns : goal.returns
returns c = last-holds
