use Rattle.std.proofs.Common.{false, arith}
use Rattle.ngx_outside.specs.Linked.{set_full}
use Rattle.memory_links.proofs.Ids.{changes_set}
use Rattle.memory_links.proofs.Played.{send_same_set}
use Rattle.memory_links.proofs.links.widen_at.Goals as goal

pub returns-clause-told : goal.returns-clause-told
returns-clause-told c =
    changes_set c.args.peers.now c.args.at c.widen.new.self c.index-peers-at.result (set_full false) c.requires
    c.widen.ensures.told c.widen.ensures.held (omega (arith, c.widen.ensures.faults))

pub returns-clause-sends : goal.returns-clause-sends
returns-clause-sends c = send_same_set c.args.peers.now c.args.at c.widen.new.self c.index-peers-at.result c.requires c.widen.ensures.sends
