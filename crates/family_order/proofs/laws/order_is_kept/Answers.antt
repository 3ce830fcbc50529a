use Rattle.family_order.proofs.Bodies.{kept}
use Rattle.family_order.proofs.laws.order_is_kept.Goals as goal

pub returns : goal.returns
returns c = kept
