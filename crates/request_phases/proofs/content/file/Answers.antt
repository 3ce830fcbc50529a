use Rattle.std.proofs.Common.{sym, ◌∙◌, ap}
use Rattle.request_phases.specs.Located.{sought_seen}
use Rattle.request_meaning.specs.Serving.{Asked}
use Rattle.request_phases.specs.Rounds.{world_in}
use Rattle.request_phases.proofs.Contents as contents
use Rattle.request_phases.proofs.content.file.Goals as goal

pub returns-in-At : goal.returns-in-At
returns-in-At c = λ patterns bytes members a.
    let b : Asked = record a { main = c.args.main.now } in
    contents.file_there c.item_settles.ensures (world_in patterns c.args.ground.now members) patterns c.args.ground.now.site.now b bytes c.args.vars.now c.args.at.now c.in-At.path
    (ap sought_seen (sym c.in-At.is) ∙ c.in_ok-path.ensures)

pub returns-in-Nowhere : goal.returns-in-Nowhere
returns-in-Nowhere c = λ patterns bytes members a.
    let b : Asked = record a { main = c.args.main.now } in
    contents.file_nowhere c.item_settles.ensures (world_in patterns c.args.ground.now members) patterns c.args.ground.now.site.now b bytes c.args.vars.now c.args.at.now c.requires
    (ap sought_seen (sym c.in-Nowhere.is) ∙ c.in_ok-path.ensures)

pub returns-in-TooLong : goal.returns-in-TooLong
returns-in-TooLong c = λ patterns bytes members a.
    let b : Asked = record a { main = c.args.main.now } in
    contents.file_unfit c.item_settles.ensures (world_in patterns c.args.ground.now members) patterns c.args.ground.now.site.now b bytes c.args.vars.now c.args.at.now
    (ap sought_seen (sym c.in-TooLong.is) ∙ c.in_ok-path.ensures)
