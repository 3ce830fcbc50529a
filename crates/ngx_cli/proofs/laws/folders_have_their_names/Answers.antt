use Rattle.ngx_cli.proofs.NamingLaws.{folders_have_their_names}
use Rattle.ngx_cli.proofs.laws.folders_have_their_names.Goals as goal

pub returns : goal.returns
returns c = folders_have_their_names
