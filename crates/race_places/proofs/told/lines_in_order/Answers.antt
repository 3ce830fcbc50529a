use Rattle.std.proofs.Common.{◌∙◌, subst}
use Rattle.race_places.specs.Places.{AreInOrder}
use Rattle.race_places.proofs.told.lines_in_order.Goals as goal

pub returns : goal.returns
returns c =
    subst (λ l. AreInOrder l c.in_order.result.items) (c.in_ok-lines.ensures.items_if_clones_equal (λ x y e. e) ∙ c.of.ensures) (record { same = c.in_order.ensures.same; rising = c.in_order.ensures.rising })
