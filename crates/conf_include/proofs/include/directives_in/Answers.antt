use Rattle.conf_include.proofs.FileLaws.{nested_shallow}
use Rattle.conf_include.proofs.include.directives_in.Goals as goal

pub returns-in-Ok-clause-shallow : goal.returns-in-Ok-clause-shallow
returns-in-Ok-clause-shallow c = nested_shallow 0 c.in-Ok.lines c.in-Ok.ensures.nested
