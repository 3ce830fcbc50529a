use Rattle.memory_links.specs.Peers.{after_read}
use Rattle.memory_links.proofs.Ids.{changes_set, rose_at}
use Rattle.memory_links.proofs.Played.{gives_set}
use Rattle.memory_links.proofs.links.read_at.Goals as goal

pub returns-clause-told : goal.returns-clause-told
returns-clause-told c =
    changes_set c.args.peers.now c.args.at c.read.new.self c.index-peers-at.result (after_read c.read.result c.read.new.buf) c.requires
    c.read.ensures.told c.read.ensures.held c.read.ensures.later

pub returns-clause-cause : goal.returns-clause-cause
returns-clause-cause c = λ e. rose_at c.args.peers.now c.args.at c.read.new.self c.index-peers-at.result c.requires (c.read.ensures.cause e)

pub returns-clause-sends : goal.returns-clause-sends
returns-clause-sends c =
    gives_set c.args.peers.now c.args.at c.read.new.self c.index-peers-at.result c.read.result c.read.new.buf c.requires c.read.ensures.sends
