use Rattle.std.proofs.Common.{sym, ap, ◌∙◌}
use Rattle.acts.specs.Act.{settled}
use Rattle.request_reply.specs.request_meaning.Laws.{shipped}
use Rattle.request_reply.specs.request_phases.Rounds.{world_in}
use Rattle.file_tree.specs.Tree.{tree_of}
use Rattle.node_turn.specs.Stages.{ask_or, is_asking, node_act}
use Rattle.node_turn.specs.Nodes.{asked_path, lent, stage_act}
use Rattle.node_turn.specs.declared.node.Node.{Node}
use Rattle.node_turn.specs.declared.node.Stage.TheVariants.{Begins, Told}
use Rattle.node_turn.proofs.Phased as phased
use Rattle.node_turn.proofs.Turning.{turns_by, turns_on}
use Rattle.node_turn.proofs.turn.turns.Goals as goal

pub returns-in_ok-turned-in-Begins-clause-acts : goal.returns-in_ok-turned-in-Begins-clause-acts
returns-in_ok-turned-in-Begins-clause-acts c = λ text.
    let ps = c.args.patterns.now in
    let g = c.args.ground.now in
    let site = g.site.now in
    let w = world_in ps g shipped in
    let main = c.args.main.now in
    let old = c.args.node.now in
    let vars = c.args.vars.now in
    let new = c.begins.new.vars in
    let turned = c.in_ok-turned-in-Begins.turned in
    let phases = c.begins.new.phases in
    turns_by (ap (λ s. settled (stage_act w ps site (lent main old.phases) old.left (asked_path old.ask) s text) vars) (sym c.stage_of.ensures.stage ∙ c.in-Begins.is)
    ∙ (ap (λ (n : Node). settled (stage_act w ps site (lent main n.phases) old.left (asked_path old.ask) (Begins c.in-Begins.ssi) text) vars) (sym c.stage_of.ensures.node)))
    (turns_on (c.in_ok-turned-in-Begins.ensures.turns (asked_path old.ask) text)
    (ap (λ path. stage_act w ps site (lent main phases) old.left path turned.stage text) (phased.asked_or turned.path c.args.of old.ask)
    ∙ (ap (λ (n : Node). stage_act w ps site (lent main phases) n.left (asked_path (ask_or turned.path c.args.of n.ask)) turned.stage text) (sym c.stage_of.ensures.node)
    ∙ ap (λ (n : Node). node_act w ps site main n text) (sym c.put_turned.ensures))))

pub returns-in_ok-turned-in-Told-clause-acts : goal.returns-in_ok-turned-in-Told-clause-acts
returns-in_ok-turned-in-Told-clause-acts c = λ text.
    let ps = c.args.patterns.now in
    let g = c.args.ground.now in
    let site = g.site.now in
    let w = world_in ps g shipped in
    let main = c.args.main.now in
    let old = c.args.node.now in
    let vars = c.args.vars.now in
    let new = c.resumes.new.vars in
    let turned = c.in_ok-turned-in-Told.turned in
    let phases = c.resumes.new.phases in
    turns_by (ap (λ s. settled (stage_act w ps site (lent main old.phases) old.left (asked_path old.ask) s text) vars) (sym c.stage_of.ensures.stage ∙ c.in-Told.is)
    ∙ (ap (λ (n : Node). settled (stage_act w ps site (lent main n.phases) old.left (asked_path old.ask) (Told c.in-Told.wait c.in-Told.file c.in-Told.ssi) text) vars) (sym c.stage_of.ensures.node)))
    (turns_on (c.in_ok-turned-in-Told.ensures.turns (asked_path old.ask) text)
    (ap (λ path. stage_act w ps site (lent main phases) old.left path turned.stage text) (phased.asked_or turned.path c.args.of old.ask)
    ∙ (ap (λ (n : Node). stage_act w ps site (lent main phases) n.left (asked_path (ask_or turned.path c.args.of n.ask)) turned.stage text) (sym c.stage_of.ensures.node)
    ∙ ap (λ (n : Node). node_act w ps site main n text) (sym c.put_turned-in-Told.ensures))))

pub returns-in_ok-turned-in-Begins-clause-tree : goal.returns-in_ok-turned-in-Begins-clause-tree
returns-in_ok-turned-in-Begins-clause-tree c = λ asks.
    let turned = c.in_ok-turned-in-Begins.turned in
    ap (λ (n : Node). tree_of n.ask) c.put_turned.ensures
    ∙ phased.asked_tree turned.path c.args.of _ (c.in_ok-turned-in-Begins.ensures.path (sym (ap (λ (n : Node). is_asking n.stage) c.put_turned.ensures) ∙ asks))

pub returns-in_ok-turned-in-Told-clause-tree : goal.returns-in_ok-turned-in-Told-clause-tree
returns-in_ok-turned-in-Told-clause-tree c = λ asks.
    let turned = c.in_ok-turned-in-Told.turned in
    ap (λ (n : Node). tree_of n.ask) c.put_turned-in-Told.ensures
    ∙ phased.asked_tree turned.path c.args.of _ (c.in_ok-turned-in-Told.ensures.path (sym (ap (λ (n : Node). is_asking n.stage) c.put_turned-in-Told.ensures) ∙ asks))
