use Rattle.std.proofs.Common.{sym, ◌∙◌}
use Rattle.report_text.proofs.EscapeLaws.{plain_more}
use Rattle.report_text.proofs.escapes.plain_len.Goals as goal

pub loop-i-preserved : goal.loop-i-preserved
loop-i-preserved c =
    plain_more c.args.bytes.now c.loop-i.i 0 c.loop-i-test.true (sym c.is_plain.ensures ∙ c.if-not-is_plain.false) c.loop-i.invariant
