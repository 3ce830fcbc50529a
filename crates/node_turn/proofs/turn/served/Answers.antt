use Rattle.node_turn.specs.Nodes.{with_main}
use Rattle.node_turn.proofs.turn.served.Goals as goal

pub returns-clause-acts : goal.returns-clause-acts
returns-clause-acts c = λ patterns path file.
    c.in_ok-serves.ensures.acts c.args.footing.ground.now (with_main c.args.main.now c.args.phases.now) c.args.footing.left patterns path file c.scene_of-scene.ensures
