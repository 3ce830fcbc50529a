use Rattle.std.proofs.Common.{sym, ◌∙◌, ap}
use Rattle.request_meaning.specs.Serving.{Asked}
use Rattle.request_phases.specs.Rounds.{world_in}
use Rattle.request_phases.proofs.Contents as contents
use Rattle.request_phases.proofs.rounds.tried.Goals as goal

pub returns-in_ok-try_names-in-Some : goal.returns-in_ok-try_names-in-Some
returns-in_ok-try_names-in-Some c = λ item node patterns bytes members a.
    let b : Asked = record a { main = c.args.main.now } in
    contents.tries_by (world_in patterns c.args.ground.now members) patterns c.args.ground.now.site.now b bytes c.args.vars.now c.args.at.now c.in-Some.tries
    (ap (λ l. l.tries) (sym c.level.ensures) ∙ c.in-Some.is) c.args.state item (c.in_ok-try_names-in-Some.ensures item node patterns bytes members a)

pub returns-in_ok-content-in-None : goal.returns-in_ok-content-in-None
returns-in_ok-content-in-None c = λ item node patterns bytes members a.
    let b : Asked = record a { main = c.args.main.now } in
    contents.untried (world_in patterns c.args.ground.now members) patterns c.args.ground.now.site.now b bytes c.args.vars.now c.args.at.now c.args.state item
    (ap (λ l. l.tries) (sym c.level.ensures) ∙ c.in-None.is) (c.in_ok-content-in-None.ensures patterns bytes members a)
