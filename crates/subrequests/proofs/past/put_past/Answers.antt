use Rattle.std.proofs.Common.{ap, ◌∙◌}
use Rattle.postpone_filter.specs.Row.{ended}
use Rattle.subrequests.proofs.Beginning as beginning
use Rattle.subrequests.proofs.past.put_past.Goals as goal

pub returns-clause-order : goal.returns-clause-order
returns-clause-order c =
    let old = c.args.order.now in
    c.end.ensures.row ∙ (ap (λ id. ended id c.add_child.new.self) c.in_ok-id.ensures.child ∙ ap (ended old.nodes) c.in_ok-id.ensures.row)

pub returns-clause-nodes : goal.returns-clause-nodes
returns-clause-nodes c = beginning.one_past c.args.nodes.now c.mark.new.self c.past_node.result c.past_node.ensures (c.mark.ensures ∙ c.in_ok-push.ensures.items)
