use Rattle.family_rest.proofs.Rows.{tells_still}
use Rattle.family_rest.proofs.laws.row_tells_still.Goals as goal

pub returns : goal.returns
returns c = tells_still
