use Rattle.std.proofs.Common.{◌≡◌, Some, not, slice_get, ap, subst, ◌∙◌}
use Rattle.node_seats.specs.Joining.{IsShownAt}
use Rattle.subrequests.specs.Families.{goes_on_at}
use Rattle.family_nodes.proofs.Sets as sets
use Rattle.subrequests.proofs.family.Family.joins_by.Goals as goal

pub join_at-requires-clause-shown : goal.join_at-requires-clause-shown
join_at-requires-clause-shown c = subst (λ ns. IsShownAt ns c.in-Some.root) c.as_slice.ensures.value c.in-Some.ensures

pub join_at-requires-clause-there : goal.join_at-requires-clause-there
join_at-requires-clause-there c =
    let is = c.in-Some-get.ensures.lookup in
    let n = c.in-Some-get.node.now in
    let there = subst (λ ns. slice_get ns c.in-Some.root ≡ Some n) c.as_slice-2.ensures.value (sets.there_some c.as_slice-2.result.now c.in-Some.root n is.3.0 is.1) in
    ap goes_on_at there ∙ ap not c.if-not-node.true
