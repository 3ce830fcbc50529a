use Rattle.page_body.proofs.Acts as acts
use Rattle.page_body.proofs.laws.reading_settles.Goals as goal

pub returns : goal.returns
returns c = acts.reading_settles
