use Rattle.std.proofs.Common.{◌≡◌, Some, sym, ap, ◌∙◌, subst}
use Rattle.acts.specs.Act.{Write}
use Rattle.request_reply.specs.request_meaning.Laws.{shipped}
use Rattle.request_reply.specs.request_phases.Rounds.{world_in}
use Rattle.page_body.specs.Pages.{page_captured, page_rest, text_then}
use Rattle.node_turn.specs.Nodes.{answer_seen, captured_act, from_source, stage_act}
use Rattle.node_turn.specs.Turns.{Works}
use Rattle.node_turn.specs.declared.node.Body.{Body}
use Rattle.node_turn.specs.declared.node.Stage.{Stage}
use Rattle.node_turn.proofs.Paged as paged
use Rattle.node_turn.proofs.Serving as serving
use Rattle.node_turn.proofs.page.hears.Goals as goal

pub returns-in-Some-clause-acts : goal.returns-in-Some-clause-acts
returns-in-Some-clause-acts c = λ g p levels patterns path file vars is.
    let w = world_in patterns g shipped in
    let site = g.site.now in
    let capture = c.args.capture in
    let b = capture.body.value in
    let answer = answer_seen site p b.answered in
    let bytes = from_source b.source file in
    let scene = c.args.scene.now in
    let has = serving.some_of c.deref.result.now.page c.if-is_none.ensures in
    let page = has.0 in
    let here = ap (λ (x : Body). x.page) (sym c.deref.ensures) ∙ has.1 in
    let next = c.in_ok-text.ensures page (ap (λ (x : Body). x.page) c.deref_mut.ensures.value ∙ here) in
    let after = next.0 in
    let text = c.in-Some.text in
    let placed = c.with_bytes.ensures.others in
    subst (λ (s : Stage). Works vars (captured_act w site p levels answer b.page bytes capture.name capture.text) (stage_act w patterns site p levels path s file)) (sym c.fill.ensures.put)
    (serving.same_work
    (ap (λ x. captured_act w site p levels answer x bytes capture.name capture.text) here
    ∙ (sym (ap (λ k. k capture.name capture.text) (paged.captured_is g p levels scene is w answer page bytes))
    ∙ (ap (λ name. page_captured w answer scene page name capture.text bytes) (sym c.as_slice.ensures)
    ∙ (next.4 w answer bytes
    ∙ (ap (λ t. text_then t (page_rest w answer scene after bytes)) c.in-Some.is
    ∙ (ap (Write text) (paged.page_is g p levels scene is w answer after bytes)
    ∙ sym (serving.body_placed w site p levels c.with_bytes.result.value b.answered b.source (Some after)
    (placed.0 ∙ next.2 ∙ ap (λ (x : Body). x.answered) c.deref_mut.ensures.value, placed.1 ∙ next.3 ∙ ap (λ (x : Body). x.source) c.deref_mut.ensures.value, placed.2 ∙ next.1)
    file text c.with_bytes.ensures.hand))))))))

pub returns-clause-acts : goal.returns-clause-acts
returns-clause-acts c = λ g p levels patterns path file vars is.
    let w = world_in patterns g shipped in
    let site = g.site.now in
    let capture = c.args.capture in
    let b = capture.body.value in
    let new = c.body_hears.new.body in
    let answer = answer_seen site p b.answered in
    let bytes = from_source b.source file in
    let scene = c.args.scene.now in
    let has = serving.some_of c.deref.result.now.page c.if-is_none.ensures in
    let page = has.0 in
    let here = ap (λ (x : Body). x.page) (sym c.deref.ensures) ∙ has.1 in
    let next = c.in_ok-text.ensures page (ap (λ (x : Body). x.page) c.deref_mut.ensures.value ∙ here) in
    let after = next.0 in
    subst (λ (s : Stage). Works vars (captured_act w site p levels answer b.page bytes capture.name capture.text) (stage_act w patterns site p levels path s file)) (sym c.fill-in-None.ensures.put)
    (serving.same_work
    (ap (λ x. captured_act w site p levels answer x bytes capture.name capture.text) here
    ∙ (sym (ap (λ k. k capture.name capture.text) (paged.captured_is g p levels scene is w answer page bytes))
    ∙ (ap (λ name. page_captured w answer scene page name capture.text bytes) (sym c.as_slice.ensures)
    ∙ (next.4 w answer bytes
    ∙ (ap (λ t. text_then t (page_rest w answer scene after bytes)) c.in-None.is
    ∙ (paged.page_is g p levels scene is w answer after bytes
    ∙ sym (serving.body_served w site p levels new b.answered b.source (Some after)
    (next.2 ∙ ap (λ (x : Body). x.answered) c.deref_mut.ensures.value, next.3 ∙ ap (λ (x : Body). x.source) c.deref_mut.ensures.value, next.1) file))))))))
