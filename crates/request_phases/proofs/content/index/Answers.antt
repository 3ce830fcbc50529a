use Rattle.std.proofs.Common.{◌≡◌, Err, ◌∙◌, ap, map}
use Rattle.try_index.specs.site_whole.Whole.{index_at, index_seen}
use Rattle.request_meaning.specs.Serving.{Asked}
use Rattle.request_phases.specs.Rounds.{world_in}
use Rattle.request_phases.proofs.Contents as contents
use Rattle.ngx_variables.specs.declared.fault.EvalFault.TheVariants.{TooLong}
use Rattle.acts.specs.Act.{settled}
use Rattle.try_index.specs.Searches.{index_left}
use Rattle.rewrite_code.specs.Places.{standing_seen}
use Rattle.request_phases.proofs.content.index.Goals as goal

pub returns-in-Ok-Probe : goal.returns-in-Ok-Probe
returns-in-Ok-Probe c = λ item node patterns bytes members a.
    let b : Asked = record a { main = c.args.main.now } in
    let w = world_in patterns c.args.ground.now members in
    let site = c.args.ground.now.site.now in
    let names = map index_seen c.index_at-names.result.now in
    let there = contents.is_there w patterns site b bytes c.args.vars.now c.args.at.now c.level-level.result.now c.level-level.ensures in
    contents.index_asks w patterns site b bytes c.args.vars.now c.args.at.now names
    (c.index_at-names.ensures ∙ ap (λ l. index_at site l.index) c.level-level.ensures) c.args.state item c.next.new.self c.in-Ok-Probe.path
    (c.in-Ok-Probe.ensures.step (standing_seen site c.args.at.now) item there node
    ∙ ap (λ step. settled (index_left c.args.main.now (standing_seen site c.args.at.now) names c.next.new.self step) c.args.vars.now) c.in-Ok-Probe.field-0-is)

pub returns-in-Ok-Redirect : goal.returns-in-Ok-Redirect
returns-in-Ok-Redirect c = λ item node patterns bytes members a.
    let b : Asked = record a { main = c.args.main.now } in
    let w = world_in patterns c.args.ground.now members in
    let site = c.args.ground.now.site.now in
    let names = map index_seen c.index_at-names.result.now in
    let there = contents.is_there w patterns site b bytes c.args.vars.now c.args.at.now c.level-level.result.now c.level-level.ensures in
    contents.index_goes w patterns site b bytes c.args.vars.now c.args.at.now names
    (c.index_at-names.ensures ∙ ap (λ l. index_at site l.index) c.level-level.ensures) c.args.state item c.next.new.self c.in-Ok-Redirect.path c.in_ok-args-in-Ok-Redirect.args
    (c.in_ok-args-in-Ok-Redirect.ensures ∙ c.as_slice.ensures)
    (c.in-Ok-Redirect.ensures.step (standing_seen site c.args.at.now) item there node
    ∙ ap (λ step. settled (index_left c.args.main.now (standing_seen site c.args.at.now) names c.next.new.self step) c.args.vars.now) c.in-Ok-Redirect.field-0-is)

pub returns-in-Ok-NoneFound : goal.returns-in-Ok-NoneFound
returns-in-Ok-NoneFound c = λ item node patterns bytes members a.
    let b : Asked = record a { main = c.args.main.now } in
    let w = world_in patterns c.args.ground.now members in
    let site = c.args.ground.now.site.now in
    let names = map index_seen c.index_at-names.result.now in
    let there = contents.is_there w patterns site b bytes c.args.vars.now c.args.at.now c.level-level.result.now c.level-level.ensures in
    contents.index_nowhere w patterns site b bytes c.args.vars.now c.args.at.now names
    (c.index_at-names.ensures ∙ ap (λ l. index_at site l.index) c.level-level.ensures) c.args.state item c.next.new.self
    (c.in-Ok-NoneFound.ensures.step (standing_seen site c.args.at.now) item there node
    ∙ ap (λ step. settled (index_left c.args.main.now (standing_seen site c.args.at.now) names c.next.new.self step) c.args.vars.now) c.in-Ok-NoneFound.field-0-is)
    (c.in_ok-folder-in-Ok-NoneFound.ensures patterns bytes members a)

pub returns-in-Err-TooLong : goal.returns-in-Err-TooLong
returns-in-Err-TooLong c = λ item node patterns bytes members a.
    let b : Asked = record a { main = c.args.main.now } in
    let w = world_in patterns c.args.ground.now members in
    let site = c.args.ground.now.site.now in
    let names = map index_seen c.index_at-names.result.now in
    let there = contents.is_there w patterns site b bytes c.args.vars.now c.args.at.now c.level-level.result.now c.level-level.ensures in
    let refused : c.next.result ≡ Err TooLong = c.in-Err-TooLong.is ∙ ap Err c.in-Err-TooLong.field-0-is in
    contents.index_unfit w patterns site b bytes c.args.vars.now c.args.at.now names
    (c.index_at-names.ensures ∙ ap (λ l. index_at site l.index) c.level-level.ensures) c.args.state item
    (c.next.ensures.too_long refused (standing_seen site c.args.at.now) item there node)
