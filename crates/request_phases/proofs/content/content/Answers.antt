use Rattle.std.proofs.Common.{sym, ◌∙◌, ap, refl}
use Rattle.file_tree.specs.Tree.{Nothing}
use Rattle.acts.specs.Act.{settled}
use Rattle.request_meaning.specs.Serving.{Asked}
use Rattle.request_phases.specs.Rounds.{world_in}
use Rattle.request_phases.proofs.Contents as contents
use Rattle.request_meaning.specs.Contents.{ends_in_slash}
use Rattle.rewrite_code.specs.Places.{standing_seen}
use Rattle.request_phases.proofs.content.content.Goals as goal

pub returns-in-Some : goal.returns-in-Some
returns-in-Some c = λ patterns bytes members a.
    let b : Asked = record a { main = c.args.main.now } in
    contents.content_refused (world_in patterns c.args.ground.now members) patterns c.args.ground.now.site.now b bytes c.args.vars.now c.args.at.now c.in-Some.code c.in-Some.ensures

pub returns-then-ends_in_slash : goal.returns-then-ends_in_slash
returns-then-ends_in_slash c = λ patterns bytes members a.
    let b : Asked = record a { main = c.args.main.now } in
    let w = world_in patterns c.args.ground.now members in
    let site = c.args.ground.now.site.now in
    let here = standing_seen site c.args.at.now in
    contents.content_index w patterns site b bytes c.args.vars.now c.args.at.now c.in_default.ensures
    (ap ends_in_slash (sym c.as_slice.ensures) ∙ sym c.if-ends_in_slash.ensures)
    (ap (λ m. settled m c.args.vars.now) (sym (c.new.ensures c.args.main.now here here.values.index Nothing))
    ∙ c.in_ok-index.ensures Nothing refl patterns bytes members a)

pub returns : goal.returns
returns c = λ patterns bytes members a.
    let b : Asked = record a { main = c.args.main.now } in
    contents.content_file (world_in patterns c.args.ground.now members) patterns c.args.ground.now.site.now b bytes c.args.vars.now c.args.at.now c.in_default.ensures
    (ap ends_in_slash (sym c.as_slice.ensures) ∙ sym c.if-ends_in_slash.ensures)
    (c.in_ok-file.ensures patterns bytes members a)
