use Rattle.std.proofs.Common.{◌≡◌, drop}
use Rattle.server_choice.specs.Listening.{listens, first_from}
use Rattle.server_choice.proofs.servers.first_on.Given as goal

abbrev pub invariant-loop-number : goal.invariant-loop-number
invariant-loop-number l = first_from (listens l.addr) l.number (drop l.number l.servers) ≡ first_from (listens l.addr) 0 l.servers
