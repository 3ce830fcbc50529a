use Rattle.std.proofs.Common.{◌≡◌}
use Rattle.socket_links.proofs.sockets.SocketLinks.add_again.Given as goal

abbrev pub invariant-loop-addr : goal.invariant-loop-addr
invariant-loop-addr g l =
    (l.self.listening.items ≡ l.initial.self.listening.items) ×
    (l.self.counts.items ≡ l.initial.self.counts.items) ×
    (l.self.links.items ≡ l.initial.self.links.items) ×
    (l.self.faults ≡ l.initial.self.faults) ×
    (l.self.link_faults ≡ l.initial.self.link_faults)
