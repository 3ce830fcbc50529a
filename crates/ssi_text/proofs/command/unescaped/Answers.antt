use Rattle.std.proofs.Common.{◌∙◌, ◌+◌, ◌++◌, ap, sym, drop}
use Rattle.ssi_text.specs.Commands.{unescaped, is_escape}
use Rattle.ssi_text.proofs.Insides.{unescaped-none, unescaped-out, unescaped-plain, unescaped-past}
use Rattle.ssi_text.proofs.command.unescaped.Goals as goal

pub returns-then-not-contains : goal.returns-then-not-contains
returns-then-not-contains c = c.in_ok-value.ensures ∙ sym (unescaped-none c.args.raw.now (sym c.contains.ensures.value ∙ c.if-not-contains.true))

pub loop-at-preserved-then-escapes : goal.loop-at-preserved-then-escapes
loop-at-preserved-then-escapes c =
    ap (λ z. z ++ unescaped (drop (c.loop-at.at + 2) c.args.raw.now)) c.in_ok-push.ensures.ok
    ∙ unescaped-out c.loop-at.value c.args.raw.now _ c.loop-at.at (ap is_escape (sym c.rest_of.ensures) ∙ sym c.escapes.ensures ∙ c.if-escapes.true) c.loop-at.invariant

pub loop-at-preserved : goal.loop-at-preserved
loop-at-preserved c =
    ap (λ z. z ++ unescaped (drop (c.loop-at.at + 1) c.args.raw.now)) c.in_ok-push-2.ensures.ok
    ∙ unescaped-plain c.loop-at.value c.args.raw.now _ c.loop-at.at c.loop-at-test.true (ap is_escape (sym c.rest_of.ensures) ∙ sym c.escapes.ensures ∙ c.if-escapes.false) c.loop-at.invariant

pub returns : goal.returns
returns c = unescaped-past c.loop-at.value c.args.raw.now _ c.loop-at.at c.loop-at-test.false c.loop-at.invariant
