use Rattle.std.proofs.Common.{true, arith}
use Rattle.ngx_outside.specs.Linked.{set_due}
use Rattle.memory_links.proofs.Ids.{changes_set}
use Rattle.memory_links.proofs.Played.{send_same_set}
use Rattle.memory_links.proofs.links.hear_at.Goals as goal

pub returns-clause-told : goal.returns-clause-told
returns-clause-told c =
    changes_set c.args.peers.now c.args.at c.hear.new.self c.index-peers-at.result (set_due true) c.requires
    c.hear.ensures.told c.hear.ensures.held (omega (arith, c.hear.ensures.faults))

pub returns-clause-sends : goal.returns-clause-sends
returns-clause-sends c = send_same_set c.args.peers.now c.args.at c.hear.new.self c.index-peers-at.result c.requires c.hear.ensures.sends
