use Rattle.std.proofs.Common.{sym, ◌∙◌, arith}
use Rattle.ssi_values.proofs.Reading as reading
use Rattle.ssi_values.proofs.values.is_of_itself.Goals as goal

pub returns : goal.returns
returns c = λ _ k. reading.of_itself c.args.text.now (omega arith) (sym c.has_mark.ensures ∙ c.if-has_mark.false) k
