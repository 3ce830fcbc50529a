use Rattle.std.proofs.Common.{sym, ap, ◌∙◌}
use Rattle.request_meaning.specs.Laws.{shipped}
use Rattle.node_line.specs.request_phases.Rounds.{world_in}
use Rattle.subrequests.specs.Families.{are_done}
use Rattle.subrequests.proofs.Wholes as wholes
use Rattle.subrequests.proofs.family.Family.is_done.Goals as goal

pub returns-clause-exact : goal.returns-clause-exact
returns-clause-exact c = c.are_done.ensures ∙ ap are_done c.as_slice.ensures.value

pub returns-clause-done : goal.returns-clause-done
returns-clause-done c = λ done whole patterns g texts.
    let f = c.args.self.now in
    wholes.done_is (world_in patterns g shipped) patterns g.site.now f.main f.order f.nodes texts (sym (ap are_done c.as_slice.ensures.value) ∙ sym c.are_done.ensures ∙ done) whole
