use Rattle.std.proofs.Common.{◌∙◌}
use Rattle.http_connection.proofs.Sound.{idle_shown}
use Rattle.http_connection.proofs.conn.Conn.is_idle.Goals as goal
use Rattle.http_connection.specs.Rests.{service_in}

pub returns : goal.returns
returns c = λ site.
    let s = c.args.self.now in
    c.rests.ensures ∙ idle_shown site (service_in site s.local s.peer) s.cause s.flight s.out s.tail s.journal.past.entries s.closing s.ended s.body s.buffered s.next s.flying
