use Rattle.std.proofs.Common.{◌≡◌, take, true}
use Rattle.std.specs.List.{All}
use Rattle.ready_loop.specs.Ids.{has}
use Rattle.ready_loop.proofs.conns.remember_all.Given as goal

abbrev pub invariant-loop-conn : goal.invariant-loop-conn
invariant-loop-conn l = All (λ c. has l.unread c ≡ true) (take l.conn-index l.conns)
