use Rattle.std.proofs.Common.{rules}
use Rattle.conf_values.proofs.TextLaws.{text-added}
use Rattle.conf_values.proofs.text_set.TextSet.add.Goals as goal

pub returns : goal.returns
returns c = text-added c.args.self.now.keys c.insert.new.self c.in_ok-key.key c.args.text.now c.in_ok-_new.ensures.keys (search rules)
