use Rattle.family_order.proofs.Tells.{tells_line}
use Rattle.family_order.proofs.laws.row_tells_line.Goals as goal

pub returns : goal.returns
returns c = tells_line
