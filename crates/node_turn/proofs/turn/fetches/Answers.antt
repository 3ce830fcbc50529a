use Rattle.std.proofs.Common.{◌≡◌, ◌≤◌, ◌==◌, length, arith, sym, ap, ◌∙◌}
use Rattle.std.proofs.lemmas.Bool.{eqb-true}
use Rattle.node_turn.specs.Stages.{node_act}
use Rattle.node_turn.specs.Nodes.{answer_seen, asked_path, later, lent, stage_act}
use Rattle.node_turn.specs.declared.node.Body.{Body}
use Rattle.node_turn.specs.declared.node.Node.{Node}
use Rattle.node_turn.specs.declared.node.Stage.TheVariants.{Reads}
use Rattle.node_turn.proofs.Placing as placing
use Rattle.node_turn.proofs.Serving as serving
use Rattle.node_turn.proofs.turn.fetches.Goals as goal

pub returns-in-Serves-clause-acts : goal.returns-in-Serves-clause-acts
returns-in-Serves-clause-acts c = λ w patterns site main text vars.
    let n = c.args.node.now in
    let is = sym c.stage_of.ensures.stage ∙ c.in-Serves.is in
    serving.same_work (ap (λ s. stage_act w patterns site (lent main n.phases) n.left (asked_path n.ask) s text) is
    ∙ (ap (λ (x : Node). stage_act w patterns site (lent main x.phases) x.left (asked_path n.ask) (Reads c.in-Serves.body) text) (sym c.stage_of.ensures.node)
    ∙ sym (ap (λ (x : Node). node_act w patterns site main x text) c.put_block.ensures)))

pub returns-in-Places-clause-acts : goal.returns-in-Places-clause-acts
returns-in-Places-clause-acts c = λ w patterns site main text vars.
    let n = c.args.node.now in
    let b = c.in-Places.body.value in
    let p = lent main n.phases in
    let is = sym c.stage_of.ensures.stage ∙ c.in-Places.is in
    let all : b.from ≡ length b.bytes = eqb-true b.from (length b.bytes) (ap (λ (x : Body). x.from == length x.bytes) (sym c.deref.ensures) ∙ sym c.is_placed.ensures ∙ c.if-not-is_placed.false) in
    let past : length b.bytes ≤ b.from = omega (arith, all) in
    serving.both (serving.same_work (ap (λ s. stage_act w patterns site p n.left (asked_path n.ask) s text) is))
    (serving.both (placing.all_so w site p n.left (answer_seen site p b.answered) b.page b.bytes b.from (later b text) vars past)
    (serving.same_work (ap (λ (x : Node). stage_act w patterns site (lent main x.phases) x.left (asked_path n.ask) (Reads c.in-Places.body) text) (sym c.stage_of.ensures.node)
    ∙ sym (ap (λ (x : Node). node_act w patterns site main x text) c.put_block-in-Places.ensures))))
