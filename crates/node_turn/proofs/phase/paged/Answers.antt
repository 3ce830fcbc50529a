use Rattle.std.proofs.Common.{◌++◌, [], refl, sym, ap, ◌∙◌}
use Rattle.acts.specs.Act.{Write}
use Rattle.request_reply.specs.request_meaning.Laws.{shipped}
use Rattle.request_reply.specs.request_phases.Rounds.{world_in}
use Rattle.page_body.specs.Pages.{filtered_rest}
use Rattle.node_turn.specs.Nodes.{answer_seen, hand, later, padded, page_at, placed_act}
use Rattle.node_turn.specs.declared.node.Body.{Body}
use Rattle.node_turn.proofs.Paged as paged
use Rattle.node_turn.proofs.phase.paged.Goals as goal

pub returns-clause-acts : goal.returns-clause-acts
returns-clause-acts c = λ g p levels patterns path file is.
    let w = world_in patterns g shipped in
    let answer = answer_seen g.site.now p c.args.answered in
    let bytes = c.args.source.text ++ padded c.args.source.left file in
    let page = c.in_ok-page.page in
    let scene = c.args.scene.now in
    ap (λ l. filtered_rest w l c.args.ssi answer c.args.facts bytes) (sym is.levels)
    ∙ (c.in_ok-page.ensures.begins scene w answer bytes (paged.is_of g p levels scene is c.args.answered) refl
    ∙ (ap (Write []) (paged.page_is g p levels scene is w answer page bytes)
    ∙ (ap (λ b. Write b (page_at w g.site.now p levels answer page bytes)) (sym c.new-2.ensures)
    ∙ ap (λ (b : Body). placed_act w g.site.now p levels (answer_seen g.site.now p b.answered) b.page (hand b) (later b file)) (sym c.in_ok-new.ensures.ok))))
