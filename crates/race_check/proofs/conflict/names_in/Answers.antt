use Rattle.std.proofs.Common.{bytes_eq, sym, ◌∙◌, arith}
use Rattle.race_check.specs.Names.{has}
use Rattle.race_check.proofs.Lists.{any_over}
use Rattle.race_check.proofs.Deciding.{any_turned}
use Rattle.race_check.proofs.conflict.names_in.Goals as goal

pub returns : goal.returns
returns c = λ name.
    sym (any_over c.args.texts.now c.loop-text.text-index (omega arith) (λ x. bytes_eq x name) (has c.loop-text.names name)) ∙ c.loop-text.invariant name ∙ any_turned name c.args.texts.now
