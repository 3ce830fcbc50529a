use Rattle.std.proofs.Common.{◌∙◌}
use Rattle.rewrite_code.proofs.Alone.{set_alone}
use Rattle.rewrite_code.proofs.quick.borrowed.Goals as goal

pub returns-in-Set : goal.returns-in-Set
returns-in-Set c = rw c.in-Set.is (c.text_set.ensures ∙ set_alone c.args.main.now c.args.request.now c.args.vars.now c.in-Set.name)
