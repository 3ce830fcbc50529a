use Rattle.std.proofs.Common.{refl, sym, ◌∙◌, ap}
use Rattle.acts.specs.Act.{settled}
use Rattle.file_tree.specs.Tree.{Nothing}
use Rattle.try_index.specs.site_whole.Whole.{tries_seen}
use Rattle.request_meaning.specs.Serving.{Asked}
use Rattle.request_phases.specs.Rounds.{world_in}
use Rattle.request_phases.proofs.Contents as contents
use Rattle.rewrite_code.specs.Places.{standing_seen}
use Rattle.request_phases.proofs.content.precontent.Goals as goal

pub returns-in_ok-content-in-None : goal.returns-in_ok-content-in-None
returns-in_ok-content-in-None c = λ patterns bytes members a.
    let b : Asked = record a { main = c.args.main.now } in
    let w = world_in patterns c.args.ground.now members in
    let site = c.args.ground.now.site.now in
    let here = standing_seen site c.args.at.now in
    contents.precontent_plain w patterns site b bytes c.args.vars.now c.args.at.now
    (ap (λ l. l.tries) (sym c.level.ensures) ∙ c.in-None.is) (c.in_ok-content-in-None.ensures patterns bytes members a)

pub returns-in_ok-try_names-in-Some : goal.returns-in_ok-try_names-in-Some
returns-in_ok-try_names-in-Some c = λ patterns bytes members a.
    let b : Asked = record a { main = c.args.main.now } in
    let w = world_in patterns c.args.ground.now members in
    let site = c.args.ground.now.site.now in
    let here = standing_seen site c.args.at.now in
    contents.precontent_tries w patterns site b bytes c.args.vars.now c.args.at.now c.in-Some.tries
    (ap (λ l. l.tries) (sym c.level.ensures) ∙ c.in-Some.is)
    (ap (λ m. settled m c.args.vars.now) (sym (c.new.ensures c.args.main.now here (tries_seen c.in-Some.tries) Nothing))
    ∙ c.in_ok-try_names-in-Some.ensures Nothing refl patterns bytes members a)
