use Rattle.location_search.proofs.Measure.{after}
use Rattle.location_search.proofs.search.+seek.Given as goal

abbrev pub decreases-seek : goal.decreases-seek
decreases-seek l = after l.number
