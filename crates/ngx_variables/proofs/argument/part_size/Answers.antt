use Rattle.std.proofs.Common.{eqb}
use Rattle.ngx_variables.proofs.Splits.{cut_at}
use Rattle.ngx_variables.proofs.argument.part_size.Goals as goal

pub returns : goal.returns
returns c = cut_at (λ b. eqb b c.args.separator) c.args.text.now c.first_place.result c.first_place.ensures
