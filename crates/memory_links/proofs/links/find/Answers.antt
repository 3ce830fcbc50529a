use Rattle.std.proofs.Common.{subst, sym}
use Rattle.memory_links.specs.declared.peer.Peer.{Peer}
use Rattle.memory_links.specs.Peers.{IsAt}
use Rattle.memory_links.proofs.Ids.{is_at_own}
use Rattle.memory_links.proofs.links.find.Goals as goal

pub returns-in-Some : goal.returns-in-Some
returns-in-Some c =
    subst (λ (p : Peer). IsAt c.args.peers.now c.args.id p) (sym c.index-peers-at.is)
    (is_at_own c.args.peers.now c.args.id c.in-Some.at c.index-peers-at.result c.in-Some.ensures.0 c.in-Some.ensures.1)
