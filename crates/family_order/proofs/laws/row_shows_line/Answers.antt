use Rattle.family_order.proofs.Goings.{shows_line}
use Rattle.family_order.proofs.laws.row_shows_line.Goals as goal

pub returns : goal.returns
returns c = shows_line
