use Rattle.std.proofs.Common.{length}
use Rattle.http_connection.proofs.Sound.{bounded}
use Rattle.http_connection.proofs.law.connections_are_bounded.Goals as goal

pub returns : goal.returns
returns c = λ s. (s.few, bounded s.flight (length s.out) s.flying)
