use Rattle.std.proofs.Common.{◌≡◌, ◌≤◌, length, Some, slice_get, sym, ap, ◌∙◌, subst}
use Rattle.family_nodes.specs.Runs.{runs_at}
use Rattle.subrequests.proofs.Numbers as numbers
use Rattle.family_nodes.proofs.Sets as sets
use Rattle.subrequests.proofs.Wholes as wholes
use Rattle.subrequests.proofs.family.Family.is_ready.Goals as goal

pub returns-in-Some : goal.returns-in-Some
returns-in-Some c =
    let f = c.args.self.now in
    let is = c.in-Some.ensures.lookup in
    c.can_run.ensures
    ∙ sym (numbers.ready_is f.order f.nodes c.args.at ∙ ap (runs_at f.order c.args.at) (subst (λ ns. slice_get ns c.args.at ≡ Some c.in-Some.node.now) c.as_slice.ensures.value (sets.there_some c.as_slice.result.now c.args.at c.in-Some.node.now is.3.0 is.1)))

pub returns-in-None : goal.returns-in-None
returns-in-None c =
    let f = c.args.self.now in
    sym (numbers.ready_is f.order f.nodes c.args.at ∙ ap (runs_at f.order c.args.at) (wholes.there_none f.nodes c.args.at (subst (λ l. length l ≤ c.args.at) c.as_slice.ensures.value c.in-None.ensures.lookup.3)))
