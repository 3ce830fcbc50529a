use Rattle.req_head.proofs.CodeLemmas.{cut_here, cut_none, behind_is}
use Rattle.req_head.proofs.options.cut.Goals as goal

pub returns-then-b-eq44-clause-cut : goal.returns-then-b-eq44-clause-cut
returns-then-b-eq44-clause-cut c =
    behind_is c.args.bytes.now c.loop-i.i c.rest_of.result.now c.rest_of.ensures (cut_here c.args.bytes.now c.loop-i.i c.loop-i-test.true c.if-b-eq44.true c.loop-i.invariant)

pub returns-clause-cut : goal.returns-clause-cut
returns-clause-cut c = cut_none c.args.bytes.now c.loop-i.i c.loop-i-test.false c.loop-i.invariant
