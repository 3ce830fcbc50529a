use Rattle.std.proofs.Common.{◌<◌, ◌+◌, ◌-◌, ◌*◌, ◌/◌, ap, ◌∙◌, arith}
use Rattle.response_flow.proofs.Showing.{chunks_shown, plain_shown, tail_shown}
use Rattle.response_flow.proofs.wants.shown_in.Goals as goal

pub returns-then-tail-eq0 : goal.returns-then-tail-eq0
returns-then-tail-eq0 c = c.min.ensures ∙ plain_shown c.args.tail c.args.size c.if-tail-eq0.true

pub returns-then-before : goal.returns-then-before
returns-then-before c =
    let before = c.saturating_sub-before.ensures in
    let few = c.if-before.true in
    c.min-then-before.ensures ∙ tail_shown c.args.tail c.args.size (omega (arith, before, few))

pub returns : goal.returns
returns c =
    let before = c.saturating_sub-before.ensures in
    let many = c.if-before.false in
    let some : 0 < c.args.tail = omega (arith, c.if-tail-eq0.false) in
    chunks_shown c.args.tail c.args.size c.whole_chunks.result some (omega (arith, before, many)) (c.whole_chunks.ensures ∙ ap (λ b. b - 4104 * ((b - 65536 + 4103) / 4104)) before)
