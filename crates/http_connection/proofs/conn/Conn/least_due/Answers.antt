use Rattle.http_connection.specs.Conn.{awaited_at}
use Rattle.http_connection.proofs.Least.{least_of}
use Rattle.http_connection.proofs.conn.Conn.least_due.Goals as goal

pub returns : goal.returns
returns c =
    let s = c.args.self.now in
    least_of s.times (awaited_at s) s.least c.saturating_add.result s.brief c.saturating_add.ensures
