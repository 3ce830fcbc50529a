use Rattle.std.proofs.Common.{◌<◌, ◌≤◌, length, ap, arith}
use Rattle.plain_core.specs.Shown.{shown}
use Rattle.plain_core.proofs.ConnLaws.{writes}
use Rattle.plain_core.proofs.conn.Conn.wrote.Goals as goal

pub returns-clause-steps : goal.returns-clause-steps
returns-clause-steps c =
    let s = c.args.self.now in
    let some : 0 < c.args.count = omega arith in
    let within : c.args.count ≤ length (shown s).pending = omega (arith, ap length c.pending.ensures) in
    (some, within, writes s.reply s.input s.output c.used.new.self s.life s.journal.items s.ended s.due c.saturating_add-self.result c.args.count some within c.used.ensures)
