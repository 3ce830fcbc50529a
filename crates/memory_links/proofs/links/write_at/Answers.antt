use Rattle.memory_links.specs.Peers.{after_write}
use Rattle.memory_links.proofs.Ids.{changes_set, rose_at, puts_at}
use Rattle.memory_links.proofs.Played.{send_same_set}
use Rattle.memory_links.proofs.links.write_at.Goals as goal

pub returns-clause-told : goal.returns-clause-told
returns-clause-told c =
    changes_set c.args.peers.now c.args.at c.write.new.self c.index-peers-at.result (after_write c.write.result c.args.bytes.now) c.requires
    c.write.ensures.told c.write.ensures.held c.write.ensures.later

pub returns-clause-cause : goal.returns-clause-cause
returns-clause-cause c = λ e. rose_at c.args.peers.now c.args.at c.write.new.self c.index-peers-at.result c.requires (c.write.ensures.cause e)

pub returns-clause-nothing : goal.returns-clause-nothing
returns-clause-nothing c =
    puts_at c.args.peers.now c.args.at c.write.new.self c.index-peers-at.result c.write.result c.args.bytes.now c.requires c.write.ensures.nothing

pub returns-clause-sends : goal.returns-clause-sends
returns-clause-sends c = send_same_set c.args.peers.now c.args.at c.write.new.self c.index-peers-at.result c.requires c.write.ensures.sends
