use Rattle.std.proofs.Common.{◌∙◌}
use Rattle.node_turn.proofs.Fronts as fronts
use Rattle.node_turn.proofs.page.captures.Goals as goal

pub returns : goal.returns
returns c = λ w answer bytes.
    fronts.front_captured w answer c.args.scene.now c.args.page.now c.args.name.now bytes c.args.body c.into_front.result c.into_front.ensures c.if-scene-gt-MOST_CAPTURED.false
    ∙ c.in_ok-text.ensures.goes_on w answer bytes
