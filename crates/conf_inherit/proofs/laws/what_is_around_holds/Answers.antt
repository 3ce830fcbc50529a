use Rattle.conf_inherit.proofs.InheritLaws.{outer-holds}
use Rattle.conf_inherit.proofs.laws.what_is_around_holds.Goals as goal

pub returns : goal.returns
returns c = outer-holds
