use Rattle.socket_links.proofs.SlotLemmas.{none_open}
use Rattle.socket_links.proofs.sockets.empty_slots.Goals as goal

pub returns : goal.returns
returns c = none_open c.loop.links.items c.loop.invariant
