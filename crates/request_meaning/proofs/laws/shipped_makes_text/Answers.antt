use Rattle.request_meaning.proofs.Texts.{shipped_makes}
use Rattle.request_meaning.proofs.laws.shipped_makes_text.Goals as goal

pub returns : goal.returns
returns c = shipped_makes
