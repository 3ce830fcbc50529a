use Rattle.plain_core.proofs.ConnLaws.{arrive_left}
use Rattle.plain_core.proofs.conn.Conn.arrive.Goals as goal

pub returns-in-Ok-clause-left : goal.returns-in-Ok-clause-left
returns-in-Ok-clause-left c =
    let s = c.args.self.now in
    arrive_left s.reply s.input c.append.new.self s.output c.args.bytes.now s.life s.ended c.min-taken.result c.min-taken.ensures c.in-Ok.ensures.ok
