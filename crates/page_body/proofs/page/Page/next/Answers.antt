use Rattle.std.proofs.Common.{◌≡◌, length, arith, sym, ◌∙◌}
use Rattle.family_meaning.specs.request_meaning.Bodies.{machines}
use Rattle.ssi_exec.specs.Scenes.{doc_seen}
use Rattle.page_body.specs.Pages.{page_captured, page_rest, stages_of}
use Rattle.page_body.proofs.Pages.{idle_does, none_by, page_is_over, part_does}
use Rattle.page_body.proofs.page.Page.next.Goals as goal

pub returns-in_ok-doing-in-Some-clause-does : goal.returns-in_ok-doing-in-Some-clause-does
unfolding page_captured page_rest
returns-in_ok-doing-in-Some-clause-does c = λ w answer bytes h.
    let scene = c.args.scene.now in
    let page = c.args.self.now in
    part_does w answer (doc_seen scene page.document) scene.main.now c.args.vars.now c.in_ok-doing-in-Some.doing (doc_seen scene c.part_done.new.document) (machines w page.facts) (stages_of page)
    page.parts.items c.pop.new.self.items c.in-Some.part bytes c.in-Some.ensures.items (λ more. c.in_ok-doing-in-Some.ensures.does w answer more h)

pub returns-in-None-clause-does : goal.returns-in-None-clause-does
unfolding page_captured page_rest
returns-in-None-clause-does c = λ w answer bytes h.
    let scene = c.args.scene.now in
    let page = c.args.self.now in
    idle_does w answer (doc_seen scene page.document) scene.main.now c.args.vars.now c.idle.result (machines w page.facts) (stages_of page)
    page.parts.items c.pop.new.self.items bytes c.in-None.ensures.items (λ act captures. c.idle.ensures.does scene.main.now c.args.vars.now act captures)

pub returns-in-None-clause-over : goal.returns-in-None-clause-over
unfolding page_rest
returns-in-None-clause-over c = λ stops w answer members.
    let scene = c.args.scene.now in
    let page = c.args.self.now in
    let none : length page.parts.items ≡ 0 = omega (arith, page.parts.ok, c.in-None.ensures.cases) in
    page_is_over w answer (doc_seen scene page.document) page.facts page.split page.parts.items page.finished members (none_by page.parts.items none) (sym c.idle.ensures.stops.0 ∙ stops)
