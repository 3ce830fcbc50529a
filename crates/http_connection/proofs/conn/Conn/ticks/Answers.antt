use Rattle.std.proofs.Common.{arith}
use Rattle.http_connection.proofs.Timed.{gives_up, waits_on}
use Rattle.http_connection.proofs.conn.Conn.ticks.Goals as goal

pub returns-clause-ticked : goal.returns-clause-ticked
returns-clause-ticked c = λ site.
    gives_up site c.args.self.now c.stop.new.self c.due-due.result c.args.now c.due-due.ensures (omega (arith, c.if-due-now.false)) c.requires c.stop.ensures.cause c.stop.ensures.flight c.stop.ensures.out c.stop.ensures.journal

pub returns-then-due-now-clause-ticked : goal.returns-then-due-now-clause-ticked
returns-then-due-now-clause-ticked c = λ site.
    waits_on site c.args.self.now c.due-due.result c.args.now c.due-due.ensures (omega (arith, c.if-due-now.true))
