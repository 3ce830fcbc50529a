use Rattle.std.proofs.Common.{◌≡◌, ◌+◌, suc, drop, sym, ap, ◌∙◌, arith}
use Rattle.subrequests.specs.Wants.{first_job, jobs_from}
use Rattle.subrequests.proofs.Numbers as numbers
use Rattle.subrequests.proofs.Skips as skips
use Rattle.family_nodes.proofs.Sets as sets
use Rattle.subrequests.proofs.Wholes as wholes
use Rattle.subrequests.proofs.family.Family.first_job.Goals as goal

pub loop-at-init : goal.loop-at-init
loop-at-init c =
    let f = c.args.self.now in
    let next = c.next_asking-at in
    skips.jobs_on f.tree f.nodes 0 next.result next.ensures.from (next.ensures.rest f.tree)

pub returns-then-is_waiting : goal.returns-then-is_waiting
returns-then-is_waiting c =
    let f = c.args.self.now in
    let nodes = f.nodes in
    let at = c.loop-at.at in
    let n = c.node_at.result.now in
    let there = sets.there_some nodes at n (omega (arith, c.loop-at-test.true, c.len.ensures)) c.node_at.ensures in
    sym (ap first_job c.loop-at.invariant ∙ (ap (λ ns. first_job (jobs_from f.tree at ns)) (wholes.drop_next nodes at n there)
    ∙ numbers.first_is f.tree at n (drop (suc at) nodes) (sym c.is_waiting.ensures ∙ c.if-is_waiting.true)))

pub loop-at-preserved : goal.loop-at-preserved
loop-at-preserved c =
    let f = c.args.self.now in
    let nodes = f.nodes in
    let at = c.loop-at.at in
    let n = c.node_at.result.now in
    let next = c.next_asking-at-in-loop-at in
    let there = sets.there_some nodes at n (omega (arith, c.loop-at-test.true, c.len.ensures)) c.node_at.ensures in
    c.loop-at.invariant ∙ (ap (jobs_from f.tree at) (wholes.drop_next nodes at n there)
    ∙ (numbers.later_jobs f.tree at n (drop (suc at) nodes) (sym c.is_waiting.ensures ∙ c.if-is_waiting.false)
    ∙ (ap (λ k. jobs_from f.tree k (drop k nodes)) (let e : suc at ≡ at + 1 = omega arith in e)
    ∙ skips.jobs_on f.tree nodes (at + 1) next.result next.ensures.from (next.ensures.rest f.tree))))

pub returns : goal.returns
returns c =
    let f = c.args.self.now in
    let nodes = f.nodes in
    let at = c.loop-at.at in
    sym (ap first_job c.loop-at.invariant ∙ (ap (λ ns. first_job (jobs_from f.tree at ns)) (wholes.drop_all nodes at (omega (arith, c.loop-at-test.false, c.len.ensures)))
    ∙ numbers.no_jobs f.tree at))
