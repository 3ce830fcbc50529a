use Rattle.ngx_variables.proofs.Settles as settles
use Rattle.ngx_variables.proofs.laws.value_settles.Goals as goal

pub returns : goal.returns
returns g c = settles.value_settles
