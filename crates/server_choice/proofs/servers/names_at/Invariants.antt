use Rattle.std.proofs.Common.{◌≡◌, drop}
use Rattle.server_choice.specs.Listening.{AreNamesWith}
use Rattle.server_choice.proofs.servers.names_at.Given as goal

abbrev pub invariant-loop-place : goal.invariant-loop-place
invariant-loop-place l = record {
  names : AreNamesWith l.names l.addr l.place (drop l.place l.servers) l.servers;
  first : l.names.first ≡ l.first;
}
