use Rattle.race_meaning.proofs.Fits.{shipped_fit}
use Rattle.race_meaning.proofs.laws.shipped_are_fit.Goals as goal

pub returns : goal.returns
returns c = shipped_fit
