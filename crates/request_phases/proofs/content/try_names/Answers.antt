use Rattle.std.proofs.Common.{◌≡◌, Err, refl, sym, ◌∙◌, ap}
use Rattle.acts.specs.Act.{settled}
use Rattle.ngx_variables.specs.declared.fault.EvalFault.TheVariants.{TooLong}
use Rattle.try_index.specs.site_whole.Whole.{tries_seen}
use Rattle.request_meaning.specs.Serving.{Asked}
use Rattle.request_phases.specs.Rounds.{world_in}
use Rattle.request_phases.proofs.Contents as contents
use Rattle.try_index.specs.Searches.{try_left}
use Rattle.rewrite_code.specs.Places.{standing_seen}
use Rattle.request_phases.specs.Rounds.{decision_seen}
use Rattle.request_phases.specs.declared.state.Decision.TheVariants.{Inside, Named}
use Rattle.request_phases.proofs.content.try_names.Goals as goal

pub returns-in-Ok-Probe : goal.returns-in-Ok-Probe
returns-in-Ok-Probe c = λ item node patterns bytes members a.
    let b : Asked = record a { main = c.args.main.now } in
    let w = world_in patterns c.args.ground.now members in
    let site = c.args.ground.now.site.now in
    let here = standing_seen site c.args.at.now in
    let there = contents.is_there w patterns site b bytes c.args.vars.now c.args.at.now c.level.result.now c.level.ensures in
    contents.try_asks w patterns site b bytes c.args.vars.now c.args.at.now c.args.tries.now c.requires.stated _ c.next.new.self c.in-Ok-Probe.path
    (c.in-Ok-Probe.ensures.step here item there node
    ∙ ap (λ step. settled (try_left c.args.main.now here (tries_seen c.args.tries.now) c.next.new.self step) c.args.vars.now) c.in-Ok-Probe.field-0-is)

pub returns-in-Ok-Use : goal.returns-in-Ok-Use
returns-in-Ok-Use c = λ item node patterns bytes members a.
    let b : Asked = record a { main = c.args.main.now } in
    let w = world_in patterns c.args.ground.now members in
    let site = c.args.ground.now.site.now in
    let here = standing_seen site c.args.at.now in
    let there = contents.is_there w patterns site b bytes c.args.vars.now c.args.at.now c.level.result.now c.level.ensures in
    (c.in-Ok-Use.ensures.step here item there node
    ∙ ap (λ step. settled (try_left c.args.main.now here (tries_seen c.args.tries.now) c.next.new.self step) c.args.vars.now) c.in-Ok-Use.field-0-is)
    ∙ c.in_ok-content-in-Ok-Use.ensures patterns bytes members a

pub returns-in-Ok-Redirect : goal.returns-in-Ok-Redirect
returns-in-Ok-Redirect c = λ item node patterns bytes members a.
    let b : Asked = record a { main = c.args.main.now } in
    let w = world_in patterns c.args.ground.now members in
    let site = c.args.ground.now.site.now in
    let here = standing_seen site c.args.at.now in
    let there = contents.is_there w patterns site b bytes c.args.vars.now c.args.at.now c.level.result.now c.level.ensures in
    contents.decides w patterns site b bytes c.args.vars.now c.args.at.now _ (Inside c.in-Ok-Redirect.path c.in-Ok-Redirect.args)
    (c.in-Ok-Redirect.ensures.step here item there node
    ∙ ap (λ step. settled (try_left c.args.main.now here (tries_seen c.args.tries.now) c.next.new.self step) c.args.vars.now) c.in-Ok-Redirect.field-0-is) refl

pub returns-in-Ok-Named : goal.returns-in-Ok-Named
returns-in-Ok-Named c = λ item node patterns bytes members a.
    let b : Asked = record a { main = c.args.main.now } in
    let w = world_in patterns c.args.ground.now members in
    let site = c.args.ground.now.site.now in
    let here = standing_seen site c.args.at.now in
    let there = contents.is_there w patterns site b bytes c.args.vars.now c.args.at.now c.level.result.now c.level.ensures in
    contents.decides w patterns site b bytes c.args.vars.now c.args.at.now _ (Named c.in-Ok-Named.name)
    (c.in-Ok-Named.ensures.step here item there node
    ∙ ap (λ step. settled (try_left c.args.main.now here (tries_seen c.args.tries.now) c.next.new.self step) c.args.vars.now) c.in-Ok-Named.field-0-is) refl

pub returns-in-Ok-Status : goal.returns-in-Ok-Status
returns-in-Ok-Status c = λ item node patterns bytes members a.
    let b : Asked = record a { main = c.args.main.now } in
    let w = world_in patterns c.args.ground.now members in
    let site = c.args.ground.now.site.now in
    let here = standing_seen site c.args.at.now in
    let there = contents.is_there w patterns site b bytes c.args.vars.now c.args.at.now c.level.result.now c.level.ensures in
    contents.decides w patterns site b bytes c.args.vars.now c.args.at.now _ c.last_code.result
    (c.in-Ok-Status.ensures.step here item there node
    ∙ ap (λ step. settled (try_left c.args.main.now here (tries_seen c.args.tries.now) c.next.new.self step) c.args.vars.now) c.in-Ok-Status.field-0-is)
    (sym (contents.word_seen bytes c.in-Ok-Status.code) ∙ ap (decision_seen bytes) (sym c.last_code.ensures))

pub returns-in-Err-TooLong : goal.returns-in-Err-TooLong
returns-in-Err-TooLong c = λ item node patterns bytes members a.
    let b : Asked = record a { main = c.args.main.now } in
    let w = world_in patterns c.args.ground.now members in
    let site = c.args.ground.now.site.now in
    let here = standing_seen site c.args.at.now in
    let there = contents.is_there w patterns site b bytes c.args.vars.now c.args.at.now c.level.result.now c.level.ensures in
    let refused : c.next.result ≡ Err TooLong = c.in-Err-TooLong.is ∙ ap Err c.in-Err-TooLong.field-0-is in
    c.next.ensures.too_long refused here item there node
