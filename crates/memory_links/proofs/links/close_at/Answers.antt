use Rattle.memory_links.proofs.Ids.{closes_at, crowd_closes}
use Rattle.memory_links.proofs.Played.{send_same_set}
use Rattle.memory_links.proofs.links.close_at.Goals as goal

pub returns-clause-told : goal.returns-clause-told
returns-clause-told c =
    (closes_at c.args.peers.now c.args.at c.close.new.self c.index-peers-at.result c.requires c.close.ensures.told c.close.ensures.held c.close.ensures.faults).told

pub returns-clause-used : goal.returns-clause-used
returns-clause-used c =
    (closes_at c.args.peers.now c.args.at c.close.new.self c.index-peers-at.result c.requires c.close.ensures.told c.close.ensures.held c.close.ensures.faults).used

pub returns-clause-held : goal.returns-clause-held
returns-clause-held c =
    (closes_at c.args.peers.now c.args.at c.close.new.self c.index-peers-at.result c.requires c.close.ensures.told c.close.ensures.held c.close.ensures.faults).held

pub returns-clause-later : goal.returns-clause-later
returns-clause-later c =
    (closes_at c.args.peers.now c.args.at c.close.new.self c.index-peers-at.result c.requires c.close.ensures.told c.close.ensures.held c.close.ensures.faults).later

pub returns-clause-sends : goal.returns-clause-sends
returns-clause-sends c = send_same_set c.args.peers.now c.args.at c.close.new.self c.index-peers-at.result c.requires c.close.ensures.sends

pub returns-clause-crowd : goal.returns-clause-crowd
returns-clause-crowd c = crowd_closes c.args.peers.now c.args.at c.close.new.self c.index-peers-at.result c.requires c.close.ensures.held
