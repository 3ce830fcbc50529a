use Rattle.conf_check.proofs.NamesLaws.{set-all}
use Rattle.conf_check.proofs.first.names_in.Goals as goal

pub returns : goal.returns
returns c = set-all _ _ _ _ c.in_ok-add_names.ensures c.new-names.ensures
