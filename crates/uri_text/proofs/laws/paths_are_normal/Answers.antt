use Rattle.uri_text.proofs.Answered.{answered-normal}
use Rattle.uri_text.proofs.laws.paths_are_normal.Goals as goal

pub returns : goal.returns
returns c = answered-normal
