use Rattle.family_rest.proofs.Quiets.{is_exact}
use Rattle.family_rest.proofs.laws.quiet_is_exact.Goals as goal

pub returns : goal.returns
returns c = is_exact
