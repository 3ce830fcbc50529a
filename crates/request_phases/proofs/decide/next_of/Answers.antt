use Rattle.std.proofs.Common.{◌∙◌, ap}
use Rattle.acts.specs.Act.{settled}
use Rattle.rewrite_code.specs.Places.{standing_seen}
use Rattle.request_phases.specs.Rounds.{world_in, asked_in}
use Rattle.request_phases.proofs.Nexts as nexts
use Rattle.acts.specs.Act.{◌>>=◌}
use Rattle.request_meaning.specs.Errors.{outcome_next}
use Rattle.request_meaning.specs.Phases.{until}
use Rattle.request_phases.specs.Rounds.{decision_seen}
use Rattle.request_phases.proofs.decide.next_of.Goals as goal

pub returns-in-Text-clause-next : goal.returns-in-Text-clause-next
returns-in-Text-clause-next c = λ patterns bytes members k.
    let w = world_in patterns c.args.ground.now members in
    let site = c.args.ground.now.site.now in
    let p = c.args.phases.now in
    ap (λ d. settled (outcome_next w p.changes (asked_in p) (standing_seen site p.at) (decision_seen bytes d) >>= until (λ s b. k b)) c.args.vars.now) c.in-Text.is
    ∙ nexts.text_next site p w bytes c.args.vars.now k p.changes c.in-Text.code c.in-Text.text

pub returns-in-File-clause-next : goal.returns-in-File-clause-next
returns-in-File-clause-next c = λ patterns bytes members k.
    let w = world_in patterns c.args.ground.now members in
    let site = c.args.ground.now.site.now in
    let p = c.args.phases.now in
    ap (λ d. settled (outcome_next w p.changes (asked_in p) (standing_seen site p.at) (decision_seen bytes d) >>= until (λ s b. k b)) c.args.vars.now) c.in-File.is
    ∙ nexts.file_next site p w bytes c.args.vars.now k p.changes c.in-File.len c.in-File.date

pub returns-in-Page-clause-next : goal.returns-in-Page-clause-next
returns-in-Page-clause-next c = λ patterns bytes members k.
    let w = world_in patterns c.args.ground.now members in
    let site = c.args.ground.now.site.now in
    let p = c.args.phases.now in
    ap (λ d. settled (outcome_next w p.changes (asked_in p) (standing_seen site p.at) (decision_seen bytes d) >>= until (λ s b. k b)) c.args.vars.now) c.in-Page.is
    ∙ nexts.page_is_next site p w bytes c.args.vars.now k p.changes c.in-Page.code

pub returns-in-Redirect-clause-next : goal.returns-in-Redirect-clause-next
returns-in-Redirect-clause-next c = λ patterns bytes members k.
    let w = world_in patterns c.args.ground.now members in
    let site = c.args.ground.now.site.now in
    let p = c.args.phases.now in
    ap (λ d. settled (outcome_next w p.changes (asked_in p) (standing_seen site p.at) (decision_seen bytes d) >>= until (λ s b. k b)) c.args.vars.now) c.in-Redirect.is
    ∙ nexts.redirect_next site p w bytes c.args.vars.now k p.changes c.in-Redirect.code c.in-Redirect.to

pub returns-in-Close-clause-next : goal.returns-in-Close-clause-next
returns-in-Close-clause-next c = λ patterns bytes members k.
    let w = world_in patterns c.args.ground.now members in
    let site = c.args.ground.now.site.now in
    let p = c.args.phases.now in
    ap (λ d. settled (outcome_next w p.changes (asked_in p) (standing_seen site p.at) (decision_seen bytes d) >>= until (λ s b. k b)) c.args.vars.now) c.in-Close.is
    ∙ nexts.close_next site p w bytes c.args.vars.now k p.changes

pub returns-in-Seek-clause-next : goal.returns-in-Seek-clause-next
returns-in-Seek-clause-next c = λ patterns bytes members k.
    let w = world_in patterns c.args.ground.now members in
    let site = c.args.ground.now.site.now in
    let p = c.args.phases.now in
    ap (λ d. settled (outcome_next w p.changes (asked_in p) (standing_seen site p.at) (decision_seen bytes d) >>= until (λ s b. k b)) c.args.vars.now) c.in-Seek.is
    ∙ nexts.seek_next site p w bytes c.args.vars.now k p.changes

pub returns-in-Inside-clause-next : goal.returns-in-Inside-clause-next
returns-in-Inside-clause-next c = λ patterns bytes members k.
    let w = world_in patterns c.args.ground.now members in
    let site = c.args.ground.now.site.now in
    let p = c.args.phases.now in
    ap (λ d. settled (outcome_next w p.changes (asked_in p) (standing_seen site p.at) (decision_seen bytes d) >>= until (λ s b. k b)) c.args.vars.now) c.in-Inside.is
    ∙ nexts.inside_next site p w bytes c.args.vars.now k p.changes c.in-Inside.path c.in-Inside.args

pub returns-in-Named-clause-next : goal.returns-in-Named-clause-next
returns-in-Named-clause-next c = λ patterns bytes members k.
    let w = world_in patterns c.args.ground.now members in
    let site = c.args.ground.now.site.now in
    let p = c.args.phases.now in
    ap (λ d. settled (outcome_next w p.changes (asked_in p) (standing_seen site p.at) (decision_seen bytes d) >>= until (λ s b. k b)) c.args.vars.now) c.in-Named.is
    ∙ nexts.named_next site p w bytes c.args.vars.now k p.changes c.in-Named.name

pub returns-in_ok-fail-in-Error-clause-next : goal.returns-in_ok-fail-in-Error-clause-next
returns-in_ok-fail-in-Error-clause-next c = λ patterns bytes members k.
    let w = world_in patterns c.args.ground.now members in
    let site = c.args.ground.now.site.now in
    let p = c.args.phases.now in
    ap (λ d. settled (outcome_next w p.changes (asked_in p) (standing_seen site p.at) (decision_seen bytes d) >>= until (λ s b. k b)) c.args.vars.now) c.in-Error.is
    ∙ nexts.error_next site p w bytes c.args.vars.now k p.changes c.in-Error.code (c.in_ok-fail-in-Error.ensures.next patterns bytes members k)
