use Rattle.std.proofs.Common.{◌≡◌, ◌≤◌, length, None, Some, cond, slice_get, sym, ap, ◌∙◌, subst}
use Rattle.std.specs.Option.{option_copied}
use Rattle.family_nodes.specs.Runs.{job_of}
use Rattle.subrequests.proofs.Numbers as numbers
use Rattle.family_nodes.proofs.Sets as sets
use Rattle.subrequests.proofs.Wholes as wholes
use Rattle.subrequests.proofs.family.Family.ask.Goals as goal

pub returns-in_err-node : goal.returns-in_err-node
returns-in_err-node c =
    let f = c.args.self.now in
    ap option_copied c.from_residual.ensures
    ∙ sym (numbers.job_is f.tree f.nodes c.args.at ∙ ap (job_of f.tree) (wholes.there_none f.nodes c.args.at (subst (λ l. length l ≤ c.args.at) c.as_slice.ensures.value c.in_err-node.ensures.lookup.3)))

pub returns-then-is_waiting : goal.returns-then-is_waiting
returns-then-is_waiting c =
    let f = c.args.self.now in
    let n = c.in_ok-node.node.now in
    let is = c.in_ok-node.ensures.lookup in
    sym (numbers.job_is f.tree f.nodes c.args.at
    ∙ (ap (job_of f.tree) (subst (λ ns. slice_get ns c.args.at ≡ Some n) c.as_slice.ensures.value (sets.there_some c.as_slice.result.now c.args.at n is.3.0 is.1))
    ∙ ap (λ b. cond b (Some n.ask) None) (sym c.is_waiting.ensures ∙ c.if-is_waiting.true)))

pub returns : goal.returns
returns c =
    let f = c.args.self.now in
    let n = c.in_ok-node.node.now in
    let is = c.in_ok-node.ensures.lookup in
    sym (numbers.job_is f.tree f.nodes c.args.at
    ∙ (ap (job_of f.tree) (subst (λ ns. slice_get ns c.args.at ≡ Some n) c.as_slice.ensures.value (sets.there_some c.as_slice.result.now c.args.at n is.3.0 is.1))
    ∙ ap (λ b. cond b (Some n.ask) None) (sym c.is_waiting.ensures ∙ c.if-is_waiting.false)))
