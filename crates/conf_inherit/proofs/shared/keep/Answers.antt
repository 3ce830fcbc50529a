use Rattle.std.proofs.Common.{rules}
use Rattle.conf_inherit.proofs.SiteLaws.{keeps-pushed, pushed-there}
use Rattle.conf_inherit.proofs.shared.keep.Goals as goal

pub returns-clause-there : goal.returns-clause-there
returns-clause-there g c = pushed-there c.args.items.now.items c.push.new.self.items c.args.item c.in_ok-number.number c.in_ok-push.ensures.items (search rules)

pub returns-clause-kept : goal.returns-clause-kept
returns-clause-kept g c = keeps-pushed c.args.items.now.items c.push.new.self.items c.args.item c.in_ok-push.ensures.items
