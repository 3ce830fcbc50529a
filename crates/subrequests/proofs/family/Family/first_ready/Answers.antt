use Rattle.std.proofs.Common.{◌≡◌, ◌+◌, suc, drop, sym, ap, ◌∙◌, arith}
use Rattle.subrequests.specs.Wants.{first_of, ready_from}
use Rattle.subrequests.proofs.Numbers as numbers
use Rattle.subrequests.proofs.Skips as skips
use Rattle.family_nodes.proofs.Sets as sets
use Rattle.subrequests.proofs.Wholes as wholes
use Rattle.subrequests.proofs.family.Family.first_ready.Goals as goal

pub loop-at-init : goal.loop-at-init
loop-at-init c =
    let f = c.args.self.now in
    let next = c.next_awake-at in
    skips.ready_on f.order f.nodes 0 next.result next.ensures.from (next.ensures.rest f.order)

pub returns-then-can_run : goal.returns-then-can_run
returns-then-can_run c =
    let f = c.args.self.now in
    let nodes = f.nodes in
    let at = c.loop-at.at in
    let n = c.node_at.result.now in
    let there = sets.there_some nodes at n (omega (arith, c.loop-at-test.true, c.len.ensures)) c.node_at.ensures in
    sym (ap first_of c.loop-at.invariant ∙ (ap (λ ns. first_of (ready_from f.order at ns)) (wholes.drop_next nodes at n there)
    ∙ numbers.first_ready f.order at n (drop (suc at) nodes) (sym c.can_run.ensures ∙ c.if-can_run.true)))

pub loop-at-preserved : goal.loop-at-preserved
loop-at-preserved c =
    let f = c.args.self.now in
    let nodes = f.nodes in
    let at = c.loop-at.at in
    let n = c.node_at.result.now in
    let next = c.next_awake-at-in-loop-at in
    let there = sets.there_some nodes at n (omega (arith, c.loop-at-test.true, c.len.ensures)) c.node_at.ensures in
    c.loop-at.invariant ∙ (ap (ready_from f.order at) (wholes.drop_next nodes at n there)
    ∙ (numbers.later_ready f.order at n (drop (suc at) nodes) (sym c.can_run.ensures ∙ c.if-can_run.false)
    ∙ (ap (λ k. ready_from f.order k (drop k nodes)) (let e : suc at ≡ at + 1 = omega arith in e)
    ∙ skips.ready_on f.order nodes (at + 1) next.result next.ensures.from (next.ensures.rest f.order))))

pub returns : goal.returns
returns c =
    let f = c.args.self.now in
    let nodes = f.nodes in
    let at = c.loop-at.at in
    sym (ap first_of c.loop-at.invariant ∙ (ap (λ ns. first_of (ready_from f.order at ns)) (wholes.drop_all nodes at (omega (arith, c.loop-at-test.false, c.len.ensures)))
    ∙ numbers.no_ready f.order at))
