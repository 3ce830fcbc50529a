use Rattle.ngx_variables.proofs.Builtins as builtins
use Rattle.ngx_variables.proofs.laws.builtin_is_not_set.Goals as goal

pub returns : goal.returns
returns c = builtins.builtin_is_not_set
