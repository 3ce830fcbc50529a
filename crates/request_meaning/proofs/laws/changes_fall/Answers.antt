use Rattle.request_meaning.proofs.Changes.{fall}
use Rattle.request_meaning.proofs.laws.changes_fall.Goals as goal

pub returns : goal.returns
returns c = fall
