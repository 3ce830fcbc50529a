use Rattle.ngx_variables.proofs.Settles as settles
use Rattle.ngx_variables.proofs.laws.settles_behind_value.Goals as goal

pub returns : goal.returns
returns g c = settles.settles_behind_value
