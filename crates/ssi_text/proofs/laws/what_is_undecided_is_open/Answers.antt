use Rattle.ssi_text.proofs.Opens.{undecided-is-open}
use Rattle.ssi_text.proofs.laws.what_is_undecided_is_open.Goals as goal

pub returns : goal.returns
returns c = undecided-is-open
