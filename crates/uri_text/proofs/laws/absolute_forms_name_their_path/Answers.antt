use Rattle.uri_text.proofs.Targets.{normal-absolute}
use Rattle.uri_text.proofs.laws.absolute_forms_name_their_path.Goals as goal

pub returns : goal.returns
returns c = normal-absolute
