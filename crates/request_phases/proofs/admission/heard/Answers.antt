use Rattle.std.proofs.Common.{sym, ◌∙◌, ap}
use Rattle.request_meaning.specs.Serving.{Asked}
use Rattle.request_phases.specs.Admitted.{verdict_seen}
use Rattle.request_phases.specs.Rounds.{world_in}
use Rattle.request_phases.proofs.Admissions as admissions
use Rattle.request_phases.proofs.admission.heard.Goals as goal

pub returns-then-not-branch : goal.returns-then-not-branch
returns-then-not-branch c = λ patterns bytes members a.
    let b : Asked = record a { main = c.args.main.now } in
    let g = c.args.ground.now in
    admissions.is_unfit (world_in patterns g members) patterns g.site.now b bytes c.args.vars.now c.put_all.new.vars c.args.at.now c.level-level.result.now c.auth_sets_at-all.result.now
    c.args.status c.args.request.now c.in_ok-put_all.field-0 c.level-level.ensures c.auth_sets_at-all.ensures c.in_ok-put_all.ensures c.if-not-branch.true

pub returns-in_ok-precontent-in-LetsIn : goal.returns-in_ok-precontent-in-LetsIn
returns-in_ok-precontent-in-LetsIn c = λ patterns bytes members a.
    let b : Asked = record a { main = c.args.main.now } in
    let g = c.args.ground.now in
    admissions.is_let_in (world_in patterns g members) patterns g.site.now b bytes c.args.vars.now c.put_all.new.vars c.args.at.now c.level-level.result.now c.auth_sets_at-all.result.now
    c.args.status c.args.request.now c.in_ok-put_all.field-0 c.level-level.ensures c.auth_sets_at-all.ensures c.in_ok-put_all.ensures c.if-not-branch.false
    (ap verdict_seen (sym c.in-LetsIn.is) ∙ c.by_status.ensures) (c.in_ok-precontent-in-LetsIn.ensures patterns bytes members a)

pub returns-in-Denies : goal.returns-in-Denies
returns-in-Denies c = λ patterns bytes members a.
    let b : Asked = record a { main = c.args.main.now } in
    let g = c.args.ground.now in
    admissions.is_denied (world_in patterns g members) patterns g.site.now b bytes c.args.vars.now c.put_all.new.vars c.args.at.now c.level-level.result.now c.auth_sets_at-all.result.now
    c.args.status c.args.request.now c.in_ok-put_all.field-0 c.level-level.ensures c.auth_sets_at-all.ensures c.in_ok-put_all.ensures c.in-Denies.code c.if-not-branch.false
    (ap verdict_seen (sym c.in-Denies.is) ∙ c.by_status.ensures)
