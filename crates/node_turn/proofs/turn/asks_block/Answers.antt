use Rattle.std.proofs.Common.{sym, ap, ◌∙◌}
use Rattle.node_turn.specs.Stages.{node_act}
use Rattle.node_turn.specs.Nodes.{asked_path, lent, stage_act}
use Rattle.node_turn.specs.declared.node.Node.{Node}
use Rattle.node_turn.specs.declared.node.Stage.TheVariants.{Reads}
use Rattle.node_turn.proofs.turn.asks_block.Goals as goal

pub returns-in-Serves-clause-acts : goal.returns-in-Serves-clause-acts
returns-in-Serves-clause-acts c = λ w patterns site main text.
    let n = c.args.node.now in
    let is = sym c.stage_of.ensures.stage ∙ c.in-Serves.is in
    sym (ap (λ s. stage_act w patterns site (lent main n.phases) n.left (asked_path n.ask) s text) is
    ∙ (ap (λ (x : Node). stage_act w patterns site (lent main x.phases) x.left (asked_path n.ask) (Reads c.in-Serves.body) text) (sym c.stage_of.ensures.node)
    ∙ sym (ap (λ (x : Node). node_act w patterns site main x text) c.put_block.ensures)))
