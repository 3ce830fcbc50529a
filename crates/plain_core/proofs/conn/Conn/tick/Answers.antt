use Rattle.std.proofs.Common.{sym, ◌∙◌}
use Rattle.ngx_outside.specs.Views.{GivesUp}
use Rattle.plain_core.proofs.ConnLaws.{deadline_is, timed_is}
use Rattle.plain_core.proofs.conn.Conn.tick.Goals as goal

pub returns-then-self-now-clause-ticked : goal.returns-then-self-now-clause-ticked
returns-then-self-now-clause-ticked c =
    let s = c.args.self.now in
    let live = sym c.is_live.ensures ∙ c.if-is_live.true in
    GivesUp s.due (timed_is s.reply s.input s.output s.life s.journal.items s.ended s.due live) (deadline_is s.reply s.input s.output s.life s.journal.items s.ended s.due live) c.if-self-now.true c.stop.ensures.stopped
