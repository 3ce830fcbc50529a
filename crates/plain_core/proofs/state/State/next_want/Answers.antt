use Rattle.std.proofs.Common.{◌∙◌}
use Rattle.plain_core.proofs.HeldLaws.{next_is}
use Rattle.plain_core.proofs.state.State.next_want.Goals as goal

pub returns : goal.returns
returns c =
    let s = c.args.self.now.conn in
    c.first_want.ensures
    ∙ next_is c.args.self.now.number s.reply s.input s.output c.pending.result.now s.life s.journal.items s.ended s.due c.args.due c.args.full
    c.reads.result c.can_run.result c.is_empty.result c.is_shut.result c.reads.ensures c.can_run.ensures c.is_empty.ensures c.pending.ensures c.is_shut.ensures
