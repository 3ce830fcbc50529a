use Rattle.conf_inherit.proofs.InheritLaws.{stated-holds}
use Rattle.conf_inherit.proofs.laws.what_is_stated_holds.Goals as goal

pub returns : goal.returns
returns c = stated-holds
