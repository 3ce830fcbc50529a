use Rattle.std.proofs.Common.{[], refl, sym, ap, ◌∙◌, subst}
use Rattle.file_tree.specs.Tree.{AFile, text_of}
use Rattle.request_meaning.specs.Laws.{shipped}
use Rattle.request_meaning.specs.Phases.{rounds}
use Rattle.request_meaning.specs.Serving.From.{Start}
use Rattle.node_turn.specs.request_phases.Rounds.{asked_from, phases_left, phases_told, world_in}
use Rattle.request_flow.specs.Flows.{item_asked, told_item}
use Rattle.request_flow.specs.Pages.{GoesTo}
use Rattle.request_flow.specs.Flows.{told_text_item}
use Rattle.access_flow.specs.Flows.{access_left, stage_rest}
use Rattle.access_flow.specs.Reached.{AccessReached, StageReached}
use Rattle.access_flow.proofs.Inner.{replied_is, went_left}
use Rattle.access_flow.proofs.Told.{told_node, told_size}
use Rattle.access_flow.proofs.Reaching.{went_reached}
use Rattle.access_flow.proofs.run.run_on.Goals as goal

pub returns-in_ok-goes_on-in-Begins-clause-goes : goal.returns-in_ok-goes_on-in-Begins-clause-goes
returns-in_ok-goes_on-in-Begins-clause-goes c = λ trees.
    let g = c.args.ground.now in
    let site = g.site.now in
    let patterns = c.args.space.now.patterns in
    let w = world_in patterns g shipped in
    let q = c.deref_mut-inside.result.now in
    let r = c.deref_mut.result.now in
    let tree = trees q.of in
    let step = c.in_ok-step-in-Begins in (
      c.in_ok-goes_on-in-Begins.ensures.left w patterns trees [] refl refl
          ∙ (went_left w site tree q r (rounds w q.inner.changes (asked_from q.inner Start)) (phases_left w patterns site [] c.begin.new.phases step.step) c.begin.new.phases.main c.begin.new.vars c.deref_mut.ensures.value step.ensures.main (step.ensures.does [] shipped)
          ∙ (sym (ap (λ s. stage_rest w patterns site tree q s (item_asked trees q.ask)) (sym c.take_stage.ensures ∙ c.in-Begins.is))
          ∙ ap (access_left w patterns site trees) c.deref_mut-inside.ensures.value)),
      refl,
    )

pub returns-in_ok-goes_on-in-Begins-clause-reached : goal.returns-in_ok-goes_on-in-Begins-clause-reached
returns-in_ok-goes_on-in-Begins-clause-reached c = λ reached.
    let g = c.args.ground.now in
    let site = g.site.now in
    let patterns = c.args.space.now.patterns in
    let w = world_in patterns g shipped in
    let q = c.deref_mut-inside.result.now in
    let r = c.deref_mut.result.now in
    let step = c.in_ok-step-in-Begins in
    let m = rounds w q.inner.changes (asked_from q.inner Start) in
    c.in_ok-goes_on-in-Begins.ensures.reached w patterns m r.vars [] refl refl
    (went_reached w site q r m c.begin.new.phases.main c.deref_mut.ensures.value step.ensures.main
    (subst (StageReached w patterns site q) (sym c.take_stage.ensures ∙ c.in-Begins.is) (subst (AccessReached w patterns site) (sym c.deref_mut-inside.ensures.value) reached)))
    (step.ensures.does [] shipped)

pub returns-in_ok-goes_on-in-Told-clause-goes : goal.returns-in_ok-goes_on-in-Told-clause-goes
returns-in_ok-goes_on-in-Told-clause-goes c = λ trees.
    let g = c.args.ground.now in
    let site = g.site.now in
    let patterns = c.args.space.now.patterns in
    let w = world_in patterns g shipped in
    let q = c.deref_mut-inside.result.now in
    let r = c.deref_mut-in-Told.result.now in
    let tree = trees q.of in
    let step = c.in_ok-step-in-Told in
    let wait = c.in-Told.wait in
    let node = c.in-Told.node in
    let asked = item_asked trees q.ask in
    let item = told_item node asked in (
      c.in_ok-goes_on-in-Told.ensures.left w patterns trees (text_of item) refl (told_size node asked ∙ sym c.length_of.ensures)
          ∙ (went_left w site tree q r (phases_told w patterns site q.inner wait item) (phases_left w patterns site (text_of item) c.resume.new.phases step.step) c.resume.new.phases.main c.resume.new.vars c.deref_mut-in-Told.ensures.value step.ensures.main (step.ensures.does item (told_node node asked) shipped)
          ∙ (sym (ap (λ s. stage_rest w patterns site tree q s asked) (sym c.take_stage.ensures ∙ c.in-Told.is))
          ∙ ap (access_left w patterns site trees) c.deref_mut-inside.ensures.value)),
      refl,
    )

pub returns-in_ok-goes_on-in-Told-clause-reached : goal.returns-in_ok-goes_on-in-Told-clause-reached
returns-in_ok-goes_on-in-Told-clause-reached c = λ reached.
    let g = c.args.ground.now in
    let site = g.site.now in
    let patterns = c.args.space.now.patterns in
    let w = world_in patterns g shipped in
    let q = c.deref_mut-inside.result.now in
    let r = c.deref_mut-in-Told.result.now in
    let step = c.in_ok-step-in-Told in
    let wait = c.in-Told.wait in
    let node = c.in-Told.node in
    let item = told_text_item node [] in
    let m = phases_told w patterns site q.inner wait item in
    c.in_ok-goes_on-in-Told.ensures.reached w patterns m r.vars (text_of item) refl (told_size node (AFile [] 0) ∙ sym c.length_of.ensures)
    (went_reached w site q r m c.resume.new.phases.main c.deref_mut-in-Told.ensures.value step.ensures.main
    (subst (StageReached w patterns site q) (sym c.take_stage.ensures ∙ c.in-Told.is) (subst (AccessReached w patterns site) (sym c.deref_mut-inside.ensures.value) reached) []))
    (step.ensures.does item (told_node node (AFile [] 0)) shipped)

pub returns-in_ok-admits-in-Replied-clause-goes : goal.returns-in_ok-admits-in-Replied-clause-goes
returns-in_ok-admits-in-Replied-clause-goes c = λ trees.
    let g = c.args.ground.now in
    let site = g.site.now in
    let patterns = c.args.space.now.patterns in
    let w = world_in patterns g shipped in
    let q = c.deref_mut-inside.result.now in
    let moved = c.into_inner-request.result in
    let r = c.deref_mut-inside-in-Replied.result.now in
    subst (λ b. GoesTo w patterns site trees b c.args.out.now c.admits.new.out c.args.closing c.in_ok-admits-in-Replied.field-0)
    (replied_is w patterns site trees q moved r c.lend.new.main c.lend.new.phases c.take_stage.new.stage c.in-Replied.status c.into_inner-request.ensures c.deref_mut-inside-in-Replied.ensures.value c.lend.ensures.main c.lend.ensures.phases
    (sym c.take_stage.ensures ∙ c.in-Replied.is)
    ∙ ap (access_left w patterns site trees) c.deref_mut-inside.ensures.value)
    (c.in_ok-admits-in-Replied.ensures.goes trees)
