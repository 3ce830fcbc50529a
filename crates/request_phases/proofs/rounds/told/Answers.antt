use Rattle.std.proofs.Common.{◌≡◌, true, false, ◌∙◌, ap, subst}
use Rattle.acts.specs.Act.{settled}
use Rattle.file_tree.specs.Tree.{text_of}
use Rattle.request_meaning.specs.Serving.{Asked}
use Rattle.request_phases.specs.Programs.{ran_in}
use Rattle.request_phases.specs.Rounds.{world_in, reached_in, told_in}
use Rattle.request_phases.specs.declared.state.Wait.TheVariants as waits
use Rattle.request_phases.proofs.Ahead as ahead
use Rattle.request_phases.proofs.Programs as programs
use Rattle.request_phases.proofs.rounds.told.Goals as goal

pub returns-then-at_server-clause-does : goal.returns-then-at_server-clause-does
returns-then-at_server-clause-does c = λ item node members a.
    let g = c.args.ground.now in
    let site = g.site.now in
    let ps = c.args.patterns.now in
    let w = world_in ps g members in
    let b : Asked = record a { main = c.args.phases.now.main } in
    let vars = c.args.vars.now in
    let at = c.args.phases.now.at in
    ap (λ wait. settled (told_in w ps site b at wait item) vars) (c.in-Test.is ∙ ap (λ s. waits.Test c.in-Test.level c.in-Test.place s) c.if-at_server.true)
    ∙ programs.resumes_by w b ps site c.in-Test.level c.level.result.now.program (ap (λ l. l.program) c.level.ensures) vars c.resume.new.vars at c.resume.new.progress c.in_ok-step-in-Test.step true c.in-Test.place item
    (c.in_ok-step-in-Test.ensures.does w item node)
    (subst (λ qs. settled (ran_in (world_in qs g members) b qs site c.in-Test.level c.resume.new.progress c.in_ok-step-in-Test.step true) c.resume.new.vars ≡ (reached_in (world_in qs g members) qs site b (text_of item) c.after_server.new.at c.in_ok-after_server-in-Test.field-0, c.after_server.new.vars)) c.resume.ensures.kept
    (c.in_ok-after_server-in-Test.ensures.does (text_of item) members a))

pub returns-in_ok-after_location-in-Test-clause-does : goal.returns-in_ok-after_location-in-Test-clause-does
returns-in_ok-after_location-in-Test-clause-does c = λ item node members a.
    let g = c.args.ground.now in
    let site = g.site.now in
    let ps = c.args.patterns.now in
    let w = world_in ps g members in
    let b : Asked = record a { main = c.args.phases.now.main } in
    let vars = c.args.vars.now in
    let at = c.args.phases.now.at in
    ap (λ wait. settled (told_in w ps site b at wait item) vars) (c.in-Test.is ∙ ap (λ s. waits.Test c.in-Test.level c.in-Test.place s) c.if-at_server.false)
    ∙ programs.resumes_by w b ps site c.in-Test.level c.level.result.now.program (ap (λ l. l.program) c.level.ensures) vars c.resume.new.vars at c.resume.new.progress c.in_ok-step-in-Test.step false c.in-Test.place item
    (c.in_ok-step-in-Test.ensures.does w item node)
    (c.in_ok-after_location-in-Test.ensures ps (text_of item) members a)

pub returns-in_ok-tried-in-Try-clause-does : goal.returns-in_ok-tried-in-Try-clause-does
returns-in_ok-tried-in-Try-clause-does c = λ item node members a.
    let g = c.args.ground.now in
    let site = g.site.now in
    let ps = c.args.patterns.now in
    let w = world_in ps g members in
    let b : Asked = record a { main = c.args.phases.now.main } in
    let vars = c.args.vars.now in
    let at = c.args.phases.now.at in
    ap (λ wait. settled (told_in w ps site b at wait item) vars) c.in-Try.is
    ∙ ahead.told_try w ps site b vars at item c.in-Try.state (c.in_ok-tried-in-Try.ensures item node ps (text_of item) members a)

pub returns-in_ok-index-in-Index-clause-does : goal.returns-in_ok-index-in-Index-clause-does
returns-in_ok-index-in-Index-clause-does c = λ item node members a.
    let g = c.args.ground.now in
    let site = g.site.now in
    let ps = c.args.patterns.now in
    let w = world_in ps g members in
    let b : Asked = record a { main = c.args.phases.now.main } in
    let vars = c.args.vars.now in
    let at = c.args.phases.now.at in
    ap (λ wait. settled (told_in w ps site b at wait item) vars) c.in-Index.is
    ∙ ahead.told_index w ps site b vars at item c.in-Index.state (c.in_ok-index-in-Index.ensures item node ps (text_of item) members a)

pub returns-in-Folder-clause-does : goal.returns-in-Folder-clause-does
returns-in-Folder-clause-does c = λ item node members a.
    let g = c.args.ground.now in
    let site = g.site.now in
    let ps = c.args.patterns.now in
    let w = world_in ps g members in
    let b : Asked = record a { main = c.args.phases.now.main } in
    let vars = c.args.vars.now in
    let at = c.args.phases.now.at in
    ap (λ wait. settled (told_in w ps site b at wait item) vars) c.in-Folder.is
    ∙ ahead.told_folder w ps site b vars at item (text_of item) c.without_index.result (c.without_index.ensures item (text_of item) node)

pub returns-in_ok-on_node-in-File-clause-does : goal.returns-in_ok-on_node-in-File-clause-does
returns-in_ok-on_node-in-File-clause-does c = λ item node members a.
    let g = c.args.ground.now in
    let site = g.site.now in
    let ps = c.args.patterns.now in
    let w = world_in ps g members in
    let b : Asked = record a { main = c.args.phases.now.main } in
    let vars = c.args.vars.now in
    let at = c.args.phases.now.at in
    ap (λ wait. settled (told_in w ps site b at wait item) vars) c.in-File.is
    ∙ ahead.told_file w ps site b vars at item (text_of item) c.in_ok-on_node-in-File.field-0 (c.in_ok-on_node-in-File.ensures item node)
