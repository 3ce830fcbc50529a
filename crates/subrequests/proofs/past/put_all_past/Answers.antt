use Rattle.std.proofs.Common.{◌≡◌, ◌+◌, ap, ◌∙◌, subst, arith}
use Rattle.postpone_filter.specs.Row.{Row, ended, is_open, with_child}
use Rattle.subrequests.specs.Families.{ArePast, first_row}
use Rattle.subrequests.proofs.Beginning as beginning
use Rattle.subrequests.proofs.past.put_all_past.Goals as goal

pub put_past-requires : goal.put_past-requires
put_past-requires c = ap (λ (r : Row). is_open 0 r.pieces) c.loop-past.invariant.row ∙ beginning.first_open (1 + c.loop-past._past)

pub loop-past-init : goal.loop-past-init
loop-past-init c = record { row = c.requires; past = beginning.none_past c.args.nodes.now }

pub loop-past-preserved : goal.loop-past-preserved
loop-past-preserved c =
    let count = c.loop-past._past in
    record {
      row = c.in_ok-put_past.ensures.order ∙ (ap (λ (r : Row). ended r.nodes (with_child 0 r)) c.loop-past.invariant.row ∙ (beginning.row_then (1 + count) ∙ ap first_row (let e : (1 + count) + 1 ≡ 1 + (count + 1) = omega arith in e)));
      past = beginning.then_past c.args.nodes.now c.loop-past.nodes c.put_past.new.nodes count 1 c.loop-past.invariant.past c.in_ok-put_past.ensures.nodes;
    }

pub returns-clause-order : goal.returns-clause-order
returns-clause-order c = c.loop-past.invariant.row ∙ ap (λ count. first_row (1 + count)) (let e : c.loop-past._past ≡ c.args.count = omega (arith, c.loop-past.auto._past-end, c.loop-past-test.false) in e)

pub returns-clause-nodes : goal.returns-clause-nodes
returns-clause-nodes c = subst (ArePast c.args.nodes.now c.loop-past.nodes) (let e : c.loop-past._past ≡ c.args.count = omega (arith, c.loop-past.auto._past-end, c.loop-past-test.false) in e) c.loop-past.invariant.past
