use Rattle.std.proofs.Common.{ap, sym, ◌∙◌, drop, arith, ◌≡◌}
use Rattle.plain_core.specs.Lines.{has_line, after_line}
use Rattle.plain_core.proofs.ConnLaws.{runs}
use Rattle.plain_core.proofs.conn.Conn.run.Goals as goal

pub returns-in-Ok-clause-steps : goal.returns-in-Ok-clause-steps
returns-in-Ok-clause-steps c =
    let s = c.args.self.now in
    let t = c.start.new.self in
    let none : c.args.node ≡ 0 = omega arith in
    runs s.reply t.reply s.input t.input s.output t.output s.life t.life s.journal.items t.journal.items s.ended t.ended s.due t.due c.args.node c.in-Some.size (record { moment = c.args.moment; tree = c.args.tree })
    (sym c.is_live.ensures ∙ c.if-not-is_live.false) c.in-Ok.ensures.life c.in-Ok.ensures.reply (sym c.is_empty.ensures ∙ c.if-not-is_empty.false)
    (ap has_line (sym c.front.ensures) ∙ c.in-Some.ensures.0)
    (ap (drop c.in-Some.size) (sym c.front.ensures) ∙ c.in-Some.ensures.3 ∙ ap after_line c.front.ensures)
    c.in-Ok.ensures.input c.in-Ok.ensures.output c.in-Ok.ensures.starts c.in-Ok.ensures.logs none
