use Rattle.http_moment.proofs.VisibleLemmas.{date_is_visible}
use Rattle.http_moment.proofs.laws.date_is_visible.Goals as goal

pub returns : goal.returns
returns c = date_is_visible
