use Rattle.std.proofs.Common.{◌≡◌, sym, ◌∙◌, subst}
use Rattle.node_turn.specs.request_phases.Rounds.{phases_told}
use Rattle.request_flow.specs.Flows.{item_asked}
use Rattle.request_flow.specs.Flows.{told_text_item}
use Rattle.request_flow.specs.Reached.{path_asked}
use Rattle.access_flow.specs.Flows.{by_answer, stage_rest}
use Rattle.access_flow.specs.Reached.{StageReached}
use Rattle.access_flow.specs.declared.flow.Stage.{Stage}
use Rattle.access_flow.proofs.Inner.{told_left}
use Rattle.access_flow.proofs.Reaching.{learns}
use Rattle.access_flow.proofs.run.answered.Goals as goal

pub returns-clause-goes : goal.returns-clause-goes
returns-clause-goes c = λ w patterns site trees from.
    let f = c.args.flow.now in
    let wait = c.in-Asked.wait in
    let node = c.in-Stat.node in
    subst (λ (s : Stage). stage_rest w patterns site (trees f.of) f s (item_asked trees f.ask) ≡ stage_rest w patterns site (trees f.of) f f.stage (item_asked trees f.ask)) (sym c.put.ensures)
    (told_left w patterns site trees f f.stage f.ask wait node c.args.answer (sym c.take_stage.ensures ∙ c.in-Asked.is) c.in-Stat.is from)

pub returns-clause-reached : goal.returns-clause-reached
returns-clause-reached c = λ w patterns site reached.
    let f = c.args.flow.now in
    let wait = c.in-Asked.wait in
    let node = c.in-Stat.node in
    subst (StageReached w patterns site f) (sym c.put.ensures)
    (λ text. learns w (by_answer w site f) (path_asked f.ask) (λ item. phases_told w patterns site f.inner wait item) f.request.value.vars
    (subst (StageReached w patterns site f) (sym c.take_stage.ensures ∙ c.in-Asked.is) reached) (told_text_item node text))
