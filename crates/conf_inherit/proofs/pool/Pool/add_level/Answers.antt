use Rattle.std.proofs.Common.{rules}
use Rattle.conf_inherit.proofs.SiteLaws.{keeps-pushed, pushed-there}
use Rattle.conf_inherit.proofs.pool.Pool.add_level.Goals as goal

pub returns-clause-there : goal.returns-clause-there
returns-clause-there c = pushed-there c.args.self.now.levels.items c.push.new.self.items c.args.level c.in_ok-number.number c.in_ok-push.ensures.items (search rules)

pub returns-clause-levels : goal.returns-clause-levels
returns-clause-levels c = keeps-pushed c.args.self.now.levels.items c.push.new.self.items c.args.level c.in_ok-push.ensures.items
