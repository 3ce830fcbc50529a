use Rattle.http_connection.proofs.Exact.{exact}
use Rattle.http_connection.specs.Conn.{due_at}
use Rattle.http_connection.proofs.Timed.{exact_until, view_of_parts}
use Rattle.http_connection.proofs.law.connections_are_exact.Goals as goal
use Rattle.http_connection.specs.Rests.{service_in}

pub returns : goal.returns
returns c = λ site s. exact_until (due_at s) (view_of_parts site s) (exact site (service_in site s.local s.peer) s.cause s.flight s.out s.tail s.journal.past.entries s.closing s.ended s.body s.buffered s.next s.looked s.flying s.logged)
