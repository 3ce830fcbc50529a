use Rattle.std.proofs.Common.{sym, ◌∙◌, ap}
use Rattle.request_meaning.specs.Serving.{Asked}
use Rattle.request_phases.specs.Rounds.{world_in}
use Rattle.request_phases.proofs.Contents as contents
use Rattle.rewrite_code.specs.Places.{standing_seen}
use Rattle.request_phases.specs.Verdicts.{verdict_act}
use Rattle.request_phases.specs.declared.state.Reached.TheVariants.{Calls}
use Rattle.request_phases.specs.Rounds.{reached_in}
use Rattle.request_phases.proofs.access.guarded.Goals as goal

pub returns-in_ok-precontent-in-LetsIn : goal.returns-in_ok-precontent-in-LetsIn
returns-in_ok-precontent-in-LetsIn c = λ patterns bytes members a.
    let b : Asked = record a { main = c.args.main.now } in
    let w = world_in patterns c.args.ground.now members in
    let site = c.args.ground.now.site.now in
    let here = standing_seen site c.args.at.now in
    contents.let_in w patterns site b bytes c.args.vars.now c.args.at.now
    (contents.judged_by site c.args.at.now c.args.main.now c.level-level.result.now c.rules_at-rules.result.now c.judge.result c.level-level.ensures c.rules_at-rules.ensures c.judge.ensures ∙ ap (verdict_act c.args.main.now here.values) c.in-LetsIn.is)
    (c.in_ok-precontent-in-LetsIn.ensures patterns bytes members a)

pub returns-in-Denies : goal.returns-in-Denies
returns-in-Denies c = λ patterns bytes members a.
    let b : Asked = record a { main = c.args.main.now } in
    let w = world_in patterns c.args.ground.now members in
    let site = c.args.ground.now.site.now in
    let here = standing_seen site c.args.at.now in
    contents.denied w patterns site b bytes c.args.vars.now c.args.at.now
    (contents.judged_by site c.args.at.now c.args.main.now c.level-level.result.now c.rules_at-rules.result.now c.judge.result c.level-level.ensures c.rules_at-rules.ensures c.judge.ensures ∙ ap (verdict_act c.args.main.now here.values) c.in-Denies.is)

pub returns-in_ok-from_slice-in-Asks : goal.returns-in_ok-from_slice-in-Asks
returns-in_ok-from_slice-in-Asks c = λ patterns bytes members a.
    let b : Asked = record a { main = c.args.main.now } in
    let w = world_in patterns c.args.ground.now members in
    let site = c.args.ground.now.site.now in
    let here = standing_seen site c.args.at.now in
    contents.asked w patterns site b bytes c.args.vars.now c.args.at.now c.in-Asks.path
    (contents.judged_by site c.args.at.now c.args.main.now c.level-level.result.now c.rules_at-rules.result.now c.judge.result c.level-level.ensures c.rules_at-rules.ensures c.judge.ensures ∙ ap (verdict_act c.args.main.now here.values) c.in-Asks.is)
    ∙ ap (λ path. (reached_in w patterns site b bytes c.args.at.now (Calls path), c.args.vars.now)) (sym c.in_ok-from_slice-in-Asks.ensures)
