use Rattle.std.proofs.Common.{◌≡◌, ℕ, length, sym, subst}
use Rattle.ngx_outside.specs.Views.{CountsHeld}
use Rattle.ngx_outside.specs.Seen.{opens_at}
use Rattle.plain_core.specs.Core.{seen_at}
use Rattle.plain_core.specs.Held.{opens_of, conns_of}
use Rattle.plain_core.specs.Shown.{crowd_of}
use Rattle.plain_core.proofs.HeldLaws.{opens_like, opens_is, crowd_is}
use Rattle.plain_core.proofs.plain.PlainCoreEventCore.step.Goals as goal

pub returns-clause-opens : goal.returns-clause-opens
returns-clause-opens c =
    let s = c.args.self.now.state in
    let n = s.conn in
    opens_like (opens_of s) (opens_at (seen_at c.args.self.now)) (λ q end. opens_is s.number q n.reply n.input n.output n.life n.journal.items n.ended n.due) c.args.event c.happen.result c.happen.ensures.opens

pub returns-clause-held : goal.returns-clause-held
returns-clause-held c =
    let s = c.args.self.now.state in
    let n = s.conn in
    let s2 = c.happen.new.self in
    let n2 = s2.conn in
    subst (λ (x : ℕ). CountsHeld c.args.event c.happen.result x (length (conns_of s2))) (sym (crowd_is s.number n.reply n.input n.output n.life n.journal.items n.ended n.due))
    (subst (λ (x : ℕ). CountsHeld c.args.event c.happen.result (crowd_of n.life) x) (sym (crowd_is s2.number n2.reply n2.input n2.output n2.life n2.journal.items n2.ended n2.due)) c.happen.ensures.held)
