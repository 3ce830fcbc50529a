use Rattle.uri_text.proofs.Merging.{normal_of-merged}
use Rattle.uri_text.proofs.laws.merged_targets_pass.Goals as goal

pub returns : goal.returns
returns c = normal_of-merged
