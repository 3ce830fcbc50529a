use Rattle.std.proofs.Common.{refl, sym, ap, ◌∙◌, subst}
use Rattle.acts.specs.Act.{Done, Write}
use Rattle.request_reply.specs.request_meaning.Laws.{shipped}
use Rattle.request_reply.specs.request_phases.Rounds.{world_in}
use Rattle.node_turn.specs.Nodes.{answer_seen, later, served_act, stage_act}
use Rattle.node_turn.specs.Turns.{Works}
use Rattle.node_turn.specs.declared.node.Stage.{Stage}
use Rattle.node_turn.specs.Served.{is_spent}
use Rattle.node_turn.specs.Turns.Works.{Placed}
use Rattle.node_turn.specs.declared.node.Body.{Body}
use Rattle.node_turn.proofs.Serving as serving
use Rattle.node_turn.proofs.page.file_serves.Goals as goal

pub returns-then-is_spent-clause-acts : goal.returns-then-is_spent-clause-acts
returns-then-is_spent-clause-acts c = λ none g p levels patterns path file vars.
    let w = world_in patterns g shipped in
    let site = g.site.now in
    let b = c.args.body.value in
    let answer = answer_seen site p b.answered in
    let spent = ap (λ (x : Body). is_spent x.source) (sym c.deref.ensures) ∙ sym c.is_spent.ensures ∙ c.if-is_spent.true in
    subst (λ (s : Stage). Works vars (served_act w site p levels answer b.page (later b file)) (stage_act w patterns site p levels path s file)) (sym c.fill.ensures.put)
    (serving.both (serving.same_work (ap (λ x. served_act w site p levels answer x (later b file)) none ∙ ap (λ t. Write t (Done answer)) (serving.spent b.source file spent)))
    (Placed (serving.same_work refl)))

pub returns-clause-acts : goal.returns-clause-acts
returns-clause-acts c = λ none g p levels patterns path file vars.
    let w = world_in patterns g shipped in
    let site = g.site.now in
    let b = c.args.body.value in
    let answer = answer_seen site p b.answered in
    subst (λ (s : Stage). Works vars (served_act w site p levels answer b.page (later b file)) (stage_act w patterns site p levels path s file)) (sym c.fill-2.ensures.put)
    (serving.same_work refl)
