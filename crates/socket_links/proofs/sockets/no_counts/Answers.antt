use Rattle.socket_links.proofs.SlotLemmas.{none_used}
use Rattle.socket_links.proofs.sockets.no_counts.Goals as goal

pub returns : goal.returns
returns c = none_used c.loop.counts.items c.loop.invariant
