use Rattle.std.proofs.Common.{sym}
use Rattle.plain_core.specs.Shown.{shown}
use Rattle.plain_core.proofs.HeldLaws.{sound_view, sound_at, other_wants}
use Rattle.plain_core.proofs.plain.PlainCoreEventCore.next_want.Goals as goal

pub returns-else-conn-self-clause-want : goal.returns-else-conn-self-clause-want
returns-else-conn-self-clause-want c = sym (other_wants c.args.self.now.state.number c.args.conn (shown c.args.self.now.state.conn) c.args.due c.args.full c.if-conn-self.false)

pub returns-then-conn-self-clause-sound : goal.returns-then-conn-self-clause-sound
returns-then-conn-self-clause-sound c =
    let s = c.args.self.now.state.conn in
    sound_view c.args.self.now.state.number c.args.conn (shown s) (sound_at s.reply s.input s.output s.life s.journal.items s.ended s.due)
