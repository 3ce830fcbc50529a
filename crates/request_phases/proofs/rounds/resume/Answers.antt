use Rattle.std.proofs.Common.{◌≡◌, subst}
use Rattle.acts.specs.Act.{settled}
use Rattle.file_tree.specs.Tree.{text_of}
use Rattle.request_phases.specs.Rounds.{world_in, asked_in, phases_left}
use Rattle.request_phases.proofs.Ahead as ahead
use Rattle.request_phases.proofs.rounds.resume.Goals as goal

pub returns-clause-does : goal.returns-clause-does
returns-clause-does c = λ item node members.
    let g = c.args.ground.now in
    let site = g.site.now in
    let ps = c.args.patterns.now in
    let w = world_in ps g members in
    let p = c.args.phases.now in
    let vars = c.args.vars.now in
    let bytes = text_of item in
    ahead.told_so w ps site bytes p c.args.wait item c.told.new.phases c.in_ok-reached.reached vars c.told.new.vars c.in_ok-reached.ensures.same
    (c.in_ok-reached.ensures.does item node members (asked_in p))
    (subst (λ qs. settled (ahead.ahead (world_in qs g members) qs site bytes c.told.new.phases c.in_ok-reached.reached) c.told.new.vars ≡ (phases_left (world_in qs g members) qs site bytes c.settle.new.phases c.in_ok-settle.field-0, c.settle.new.vars)) c.told.ensures.kept
    (c.in_ok-settle.ensures.does bytes members))
