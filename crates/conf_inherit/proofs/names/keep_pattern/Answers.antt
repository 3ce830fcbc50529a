use Rattle.std.proofs.Common.{◌∙◌}
use Rattle.conf_inherit.proofs.SiteLaws.{keeps-pushed, pushed-there}
use Rattle.conf_inherit.proofs.names.keep_pattern.Goals as goal

pub returns-in-Ok-clause-there : goal.returns-in-Ok-clause-there
returns-in-Ok-clause-there g c = pushed-there c.args.patterns.now c.add.new.self _ c.in_ok-number.number c.in-Ok.ensures.added (c.in_ok-number.ensures ∙ c.len.ensures)

pub returns-in-Ok-clause-kept : goal.returns-in-Ok-clause-kept
returns-in-Ok-clause-kept g c = keeps-pushed c.args.patterns.now c.add.new.self _ c.in-Ok.ensures.added
