use Rattle.std.proofs.Common.{◌≡◌, Option, None}
use Rattle.std.specs.List.{All}
use Rattle.socket_links.specs.declared.slots.Link.{Link}
use Rattle.socket_links.proofs.sockets.empty_slots.Given as goal

abbrev pub invariant-loop : goal.invariant-loop
invariant-loop l = All (λ (o : Option Link). o ≡ None) l.links.items
