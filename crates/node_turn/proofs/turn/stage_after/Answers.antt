use Rattle.std.proofs.Common.{length, ap, arith, sym, ◌∙◌}
use Rattle.node_turn.specs.Nodes.{answer_seen, later}
use Rattle.node_turn.specs.Turns.Works.{Rests}
use Rattle.node_turn.specs.declared.node.Body.{Body}
use Rattle.node_turn.proofs.Placing as placing
use Rattle.node_turn.proofs.turn.stage_after.Goals as goal

pub returns-then-deref-len-clause-works : goal.returns-then-deref-len-clause-works
returns-then-deref-len-clause-works c = λ w patterns site p levels path text vars.
    let b = c.args.body.value in
    let from = ap (λ (b : Body). b.from) c.deref.ensures in
    let len = ap (λ (b : Body). length b.bytes) c.deref-2.ensures in
    placing.all_so w site p levels (answer_seen site p b.answered) b.page b.bytes b.from (later b text) vars (omega (arith, from, len, c.if-deref-len.true, c.len.ensures))

pub returns-clause-works : goal.returns-clause-works
returns-clause-works c = λ w patterns site p levels path text vars. Rests

pub returns-then-is_all-clause-works : goal.returns-then-is_all-clause-works
returns-then-is_all-clause-works c = λ w patterns site p levels path text vars.
    let b = c.args.body.value in
    let from = ap (λ (b : Body). b.from) c.deref.ensures in
    let len = ap (λ (b : Body). length b.bytes) c.deref-2.ensures in
    let is = c.deref-then-deref-len.ensures in
    placing.over_so w site p levels (answer_seen site p b.answered) b.page b.bytes b.from (later b text) vars (omega (arith, from, len, c.if-deref-len.true, c.len.ensures))
    (sym (ap (λ (b : Body). b.page) is) ∙ c.is_all.ensures.page c.if-is_all.true)
    (placing.nothing_later b text (sym (ap (λ (b : Body). length b.source.text) is) ∙ c.is_all.ensures.text c.if-is_all.true) (sym (ap (λ (b : Body). b.source.left) is) ∙ c.is_all.ensures.left c.if-is_all.true))
