use Rattle.std.proofs.Common.{◌≡◌, true, Err, Some, rules, sym, ◌∙◌, ap}
use Rattle.acts.specs.Act.{settled}
use Rattle.rewrite_code.specs.Places.{standing_seen}
use Rattle.request_phases.specs.Nexts.{next_in}
use Rattle.request_phases.specs.Rounds.{world_in, asked_in}
use Rattle.request_phases.specs.declared.decide.Next.TheVariants.{Answers, Changed}
use Rattle.request_phases.proofs.Nexts as nexts
use Rattle.acts.specs.Act.{Done}
use Rattle.error_pages.specs.Pages.{page_next}
use Rattle.ngx_variables.specs.declared.fault.EvalFault.TheVariants.{TooLong}
use Rattle.request_phases.specs.declared.state.From.TheVariants as begins
use Rattle.request_phases.specs.declared.state.Conclusion.TheVariants as outcomes
use Rattle.request_phases.proofs.decide.fail.Goals as goal

pub returns-in-Ok-None-clause-next : goal.returns-in-Ok-None-clause-next
returns-in-Ok-None-clause-next c = λ patterns bytes members k.
    let w = world_in patterns c.args.ground.now members in
    let site = c.args.ground.now.site.now in
    let p = c.args.phases.now in
    let vars = c.args.vars.now in
    let here = standing_seen site p.at in
    let for = nexts.is_for site p c.level-level.result.now _ c.is_some-used.result c.level-level.ensures c.pages_at-rules.ensures c.is_some-used.ensures in
    nexts.unpaged site p w bytes vars k c.args.code p.changes
    (c.in-Ok-None.ensures.page (asked_in p) here for
    ∙ ap (λ o. (Done (page_next (asked_in p) here c.args.code o), vars)) c.in-Ok-None.field-0-is)

pub returns-in-Ok-Some-Inside-clause-next : goal.returns-in-Ok-Some-Inside-clause-next
returns-in-Ok-Some-Inside-clause-next c = λ patterns bytes members k.
    let w = world_in patterns c.args.ground.now members in
    let site = c.args.ground.now.site.now in
    let p = c.args.phases.now in
    let vars = c.args.vars.now in
    let here = standing_seen site p.at in
    let for = nexts.is_for site p c.level-level.result.now _ c.is_some-used.result c.level-level.ensures c.pages_at-rules.ensures c.is_some-used.ensures in
    nexts.goes_inside site p w bytes vars k c.args.code p.changes c.in-Ok-Some-Inside.path c.in-Ok-Some-Inside.args c.in-Ok-Some-Inside.shown
    (c.in-Ok-Some-Inside.ensures.page (asked_in p) here for
    ∙ ap (λ o. (Done (page_next (asked_in p) here c.args.code o), vars)) (c.in-Ok-Some-Inside.field-0-is ∙ ap Some c.in-Ok-Some-Inside.field-0-0-is))
    ∙ ap (λ now. settled (next_in w site bytes now k (Changed begins.Start)) vars) (sym c.go_to_page.ensures)

pub returns-in-Ok-Some-Named-clause-next : goal.returns-in-Ok-Some-Named-clause-next
returns-in-Ok-Some-Named-clause-next c = λ patterns bytes members k.
    let w = world_in patterns c.args.ground.now members in
    let site = c.args.ground.now.site.now in
    let p = c.args.phases.now in
    let vars = c.args.vars.now in
    let here = standing_seen site p.at in
    let for = nexts.is_for site p c.level-level.result.now _ c.is_some-used.result c.level-level.ensures c.pages_at-rules.ensures c.is_some-used.ensures in
    nexts.goes_named site p w bytes vars k c.args.code p.changes c.in-Ok-Some-Named.name c.in-Ok-Some-Named.shown
    (c.in-Ok-Some-Named.ensures.page (asked_in p) here for
    ∙ ap (λ o. (Done (page_next (asked_in p) here c.args.code o), vars)) (c.in-Ok-Some-Named.field-0-is ∙ ap Some c.in-Ok-Some-Named.field-0-0-is))
    ∙ ap (λ now. settled (next_in w site bytes (record now { at = record (now.at) { inside = true }; error = Some (record { code = c.args.code; shown = c.in-Ok-Some-Named.shown }) }) k (Changed (begins.Named c.in-Ok-Some-Named.name))) vars) (sym c.close_by.ensures)

pub returns-in-Ok-Some-Url-clause-next : goal.returns-in-Ok-Some-Url-clause-next
returns-in-Ok-Some-Url-clause-next c = λ patterns bytes members k.
    let w = world_in patterns c.args.ground.now members in
    let site = c.args.ground.now.site.now in
    let p = c.args.phases.now in
    let vars = c.args.vars.now in
    let here = standing_seen site p.at in
    let for = nexts.is_for site p c.level-level.result.now _ c.is_some-used.result c.level-level.ensures c.pages_at-rules.ensures c.is_some-used.ensures in
    nexts.goes_away site p w bytes vars k c.args.code p.changes c.in-Ok-Some-Url.moved c.in-Ok-Some-Url.to
    (c.in-Ok-Some-Url.ensures.page (asked_in p) here for
    ∙ ap (λ o. (Done (page_next (asked_in p) here c.args.code o), vars)) (c.in-Ok-Some-Url.field-0-is ∙ ap Some c.in-Ok-Some-Url.field-0-0-is))
    ∙ ap (λ now. settled (next_in w site bytes now k (Answers (outcomes.Redirect c.in-Ok-Some-Url.moved (Some c.in-Ok-Some-Url.to)))) vars) (sym c.close_by-in-Ok-Some-Url.ensures)

pub returns-in-Err-TooLong-clause-next : goal.returns-in-Err-TooLong-clause-next
returns-in-Err-TooLong-clause-next c = λ patterns bytes members k.
    let w = world_in patterns c.args.ground.now members in
    let site = c.args.ground.now.site.now in
    let p = c.args.phases.now in
    let vars = c.args.vars.now in
    let here = standing_seen site p.at in
    let for = nexts.is_for site p c.level-level.result.now _ c.is_some-used.result c.level-level.ensures c.pages_at-rules.ensures c.is_some-used.ensures in
    let refused : c.page_for-page.result ≡ Err TooLong = search rules in
    nexts.is_unfit site p w bytes vars k c.args.code p.changes
    (c.page_for-page.ensures.too_long refused (asked_in p) here for)
    ∙ ap (λ now. settled (next_in w site bytes now k (Answers (outcomes.Page 500))) vars) (sym c.close_by-in-Err-TooLong.ensures)
