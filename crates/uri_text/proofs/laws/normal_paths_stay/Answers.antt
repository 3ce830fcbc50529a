use Rattle.uri_text.proofs.ReadingBack.{normal_of-kept}
use Rattle.uri_text.proofs.laws.normal_paths_stay.Goals as goal

pub returns : goal.returns
returns c = normal_of-kept
