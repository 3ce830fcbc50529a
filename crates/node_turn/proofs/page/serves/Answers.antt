use Rattle.std.proofs.Common.{◌≡◌, ℕ, List, true, false, is_some, Option, None, Some, refl, sym, ap, ◌∙◌, subst}
use Rattle.request_reply.specs.request_meaning.Laws.{shipped}
use Rattle.request_reply.specs.request_meaning.Serving.{Answer, Serving}
use Rattle.request_reply.specs.request_phases.Rounds.{world_in}
use Rattle.page_body.specs.Pages.{Does, page_captured, page_rest}
use Rattle.page_body.specs.declared.page.Page.{Page}
use Rattle.node_turn.specs.Nodes.{answer_seen, captured_at, from_source, later, page_at, served_act, stage_act}
use Rattle.node_turn.specs.Turns.{Works}
use Rattle.node_turn.specs.declared.answered.Answered.{Answered}
use Rattle.node_turn.specs.declared.node.Body.{Body}
use Rattle.node_turn.specs.declared.node.Source.{Source}
use Rattle.node_turn.specs.declared.node.Stage.{Stage}
use Rattle.node_turn.proofs.Paged as paged
use Rattle.node_turn.proofs.Serving as serving
use Rattle.node_turn.proofs.page.serves.Goals as goal

pub returns-then-is_none-clause-acts : goal.returns-then-is_none-clause-acts
returns-then-is_none-clause-acts c = λ g p levels patterns path file is.
    c.file_serves.ensures.acts (ap (λ (b : Body). b.page) (sym c.deref.ensures) ∙ serving.none_of c.deref.result.now.page c.if-is_none.ensures) g p levels patterns path file c.args.vars.now

pub returns-in_ok-done-in-Some-clause-acts : goal.returns-in_ok-done-in-Some-clause-acts
returns-in_ok-done-in-Some-clause-acts c = λ g p levels patterns path file is.
    let w = world_in patterns g shipped in
    let site = g.site.now in
    let scene = c.args.scene.now in
    let vars = c.args.vars.now in
    let b = c.args.body.value in
    let mid = c.deref_mut.result.now in
    let new = c.body_next.new.body in
    let doing = c.in-Some.doing in
    let has = serving.some_of c.deref.result.now.page c.if-is_none.ensures in
    let page = has.0 in
    let here = ap (λ (x : Body). x.page) (sym c.deref.ensures) ∙ has.1 in
    let next = c.in_ok-doing.ensures page (ap (λ (x : Body). x.page) c.deref_mut.ensures.value ∙ here) in
    let after = next.0 in
    let answer = answer_seen site p new.answered in
    let bytes = from_source new.source file in
    let captures : List ℕ → List ℕ → Serving Answer = captured_at w site p levels answer after bytes in
    let old = served_act w site p levels (answer_seen site p b.answered) b.page (later b file) in
    let given : old ≡ page_rest w answer scene page (from_source mid.source file) =
    ap (λ x. served_act w site p levels (answer_seen site p b.answered) x (later b file)) here
    ∙ (ap (λ (a : Answered). page_at w site p levels (answer_seen site p a) page (later b file)) (ap (λ (x : Body). x.answered) (sym c.deref_mut.ensures.value) ∙ sym next.2)
    ∙ (ap (λ (x : Body). page_at w site p levels answer page (from_source x.source file)) (sym c.deref_mut.ensures.value)
    ∙ sym (paged.page_is g p levels scene is w answer page (from_source mid.source file)))) in
    c.in_ok-done-in-Some.ensures.acts g p levels patterns path file vars old after next.1 is
    (subst (λ m. Does m vars doing old (page_at w site p levels answer after bytes) captures) is.main
    (subst (λ o. Does scene.main.now vars doing o (page_at w site p levels answer after bytes) captures) (sym given)
    (subst (λ n. Does scene.main.now vars doing (page_rest w answer scene page (from_source mid.source file)) n captures) (paged.page_is g p levels scene is w answer after bytes)
    (subst (λ k. Does scene.main.now vars doing (page_rest w answer scene page (from_source mid.source file)) (page_rest w answer scene after bytes) k) (paged.captured_is g p levels scene is w answer after bytes)
    (next.3.does doing c.in-Some.is w answer file refl (paged.is_at g p levels scene is patterns))))))
    (λ stop none. given ∙ next.3.over doing c.in-Some.is stop none w answer file refl)

pub returns-in-None-clause-acts : goal.returns-in-None-clause-acts
returns-in-None-clause-acts c = λ g p levels patterns path file is.
    let w = world_in patterns g shipped in
    let site = g.site.now in
    let scene = c.args.scene.now in
    let b = c.args.body.value in
    let mid = c.deref_mut.result.now in
    let new = c.body_next.new.body in
    let has = serving.some_of c.deref.result.now.page c.if-is_none.ensures in
    let page = has.0 in
    let here = ap (λ (x : Body). x.page) (sym c.deref.ensures) ∙ has.1 in
    let next = c.in_ok-doing.ensures page (ap (λ (x : Body). x.page) c.deref_mut.ensures.value ∙ here) in
    let after = next.0 in
    let answer = answer_seen site p new.answered in
    let bytes = from_source new.source file in
    let old = served_act w site p levels (answer_seen site p b.answered) b.page (later b file) in
    let given : old ≡ page_rest w answer scene page (from_source mid.source file) =
    ap (λ x. served_act w site p levels (answer_seen site p b.answered) x (later b file)) here
    ∙ (ap (λ (a : Answered). page_at w site p levels (answer_seen site p a) page (later b file)) (ap (λ (x : Body). x.answered) (sym c.deref_mut.ensures.value) ∙ sym next.2)
    ∙ (ap (λ (x : Body). page_at w site p levels answer page (from_source x.source file)) (sym c.deref_mut.ensures.value)
    ∙ sym (paged.page_is g p levels scene is w answer page (from_source mid.source file)))) in
    subst (λ (s : Stage). Works c.args.vars.now old (stage_act w patterns site p levels path s file)) (sym c.fill.ensures.put)
    (serving.same_work (given ∙ (next.3.wants c.in-None.is w answer file refl
    ∙ (paged.page_is g p levels scene is w answer after bytes
    ∙ sym (ap (λ y. served_act w site p levels answer y bytes) next.1)))))
