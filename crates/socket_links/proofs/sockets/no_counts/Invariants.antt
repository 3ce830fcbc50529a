use Rattle.std.proofs.Common.{◌≡◌, ℕ}
use Rattle.std.specs.List.{All}
use Rattle.socket_links.proofs.sockets.no_counts.Given as goal

abbrev pub invariant-loop : goal.invariant-loop
invariant-loop l = All (λ (n : ℕ). n ≡ 0) l.counts.items
