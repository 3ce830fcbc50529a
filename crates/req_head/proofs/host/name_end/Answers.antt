use Rattle.req_head.proofs.CodeLemmas.{port_before, bracket_before, no_mark_before}
use Rattle.req_head.proofs.host.name_end.Goals as goal

pub returns-then-host-at-eq58-clause-value : goal.returns-then-host-at-eq58-clause-value
returns-then-host-at-eq58-clause-value c =
    port_before c.args.host.now c.loop-at.at c.loop-at-test.true c.loop-at.invariant.0 c.loop-at.invariant.1 c.if-host-at-eq58.true

pub returns-then-host-at-eq93-clause-value : goal.returns-then-host-at-eq93-clause-value
returns-then-host-at-eq93-clause-value c =
    bracket_before c.args.host.now c.loop-at.at c.loop-at-test.true c.loop-at.invariant.0 c.loop-at.invariant.1 c.if-host-at-eq93.true

pub returns-clause-value : goal.returns-clause-value
returns-clause-value c = no_mark_before c.args.host.now c.loop-at.at c.loop-at-test.false c.loop-at.invariant.1
