use Rattle.std.proofs.Common.{◌≡◌, false, rules}
use Rattle.race_check.specs.Names.{has}
use Rattle.race_check.proofs.Keys.{key_added}
use Rattle.race_check.proofs.names.NameSet.add.Goals as goal

pub returns : goal.returns
unfolding has
returns c =
    let name = c.args.name.now in
    let same : c.in_ok-key.key.items ≡ name = search rules in
    let absent : has c.args.self.now name ≡ false = search rules in
    key_added (λ k. k.items) c.in_ok-key.key c.args.self.now.names.keys c.insert.new.self.keys name c.in_ok-insert.field-0 same absent c.in_ok-insert.ensures.added c.in_ok-insert.ensures.keys
