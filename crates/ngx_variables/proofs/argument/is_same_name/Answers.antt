use Rattle.std.proofs.Common.{rules}
use Rattle.std.proofs.lemmas.Slice.Eq.{bytes_eq-Decides}
use Rattle.ngx_variables.proofs.argument.is_same_name.Goals as goal

pub returns : goal.returns
returns c = search (rules, bytes_eq-Decides)
