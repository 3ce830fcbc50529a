use Rattle.std.proofs.Common.{◌∷◌, subst, sym, ap, ◌∙◌}
use Rattle.ssi_text.specs.Marks.{Other}
use Rattle.ssi_exec.specs.Scenes.{doc_seen}
use Rattle.page_body.specs.Pages.{Does, asks, captured_then, marks_rest, stop_of}
use Rattle.page_body.specs.declared.doing.Doing.{Doing}
use Rattle.page_body.proofs.Bodies.{other_asks, other_does, served_goes_on}
use Rattle.page_body.proofs.doing.other_done.Goals as goal

pub returns-clause-does : goal.returns-clause-does
returns-clause-does c = λ w answer rest h.
    let scene = c.args.scene.now in
    let old = doc_seen scene c.args.document.now in
    let new = doc_seen scene c.next.new.self in
    subst (λ (doing : Doing). Does scene.main.now c.args.vars.now doing (marks_rest w answer old (Other c.args.part ∷ rest)) (marks_rest w answer new rest) (captured_then new (λ d. marks_rest w answer d rest)))
    (sym c.doing_of.ensures)
    (other_does w answer c.args.vars.now c.args.part c.in_ok-served.served old new rest (c.in_ok-served.ensures w h))

pub returns-clause-goes_on : goal.returns-clause-goes_on
returns-clause-goes_on c = ap (λ (doing : Doing). stop_of doing) c.doing_of.ensures ∙ served_goes_on c.args.part c.in_ok-served.served

pub returns-clause-level : goal.returns-clause-level
returns-clause-level c = λ e w h.
    let scene = c.args.scene.now in
    other_asks w c.args.vars.now c.args.part c.in_ok-served.served (doc_seen scene c.args.document.now) (doc_seen scene c.next.new.self) (c.in_ok-served.ensures w h)
    (ap (λ (doing : Doing). asks doing) (sym c.doing_of.ensures) ∙ e)
