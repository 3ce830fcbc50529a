use Rattle.race_meaning.proofs.Children.{independent}
use Rattle.race_meaning.proofs.laws.subrequests_are_independent.Goals as goal

pub returns : goal.returns
returns c = independent
