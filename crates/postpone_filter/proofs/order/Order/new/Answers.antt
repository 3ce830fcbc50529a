use Rattle.std.proofs.Common.{◌∙◌, [], ◌∷◌, ◌++◌, ap}
use Rattle.postpone_filter.proofs.Views.{begun-sound}
use Rattle.postpone_filter.proofs.order.Order.new.Goals as goal

pub invariant_of-result : goal.invariant_of-result
invariant_of-result c = (begun-sound c.push_back.new.self.items c.push.new.self.items c.fresh.result c.new.result (c.in_ok-push_back.ensures.items ∙ ap (λ z. z ++ c.fresh.result ∷ []) (c.reserve.ensures.items ∙ c.new-parts.ensures.items)) (c.in_ok-push.ensures.items ∙ ap (λ z. z ++ c.new.result ∷ []) (c.reserve-2.ensures.items ∙ c.new-nodes.ensures.items)) c.fresh.ensures c.new.ensures.waiting c.new.ensures.goes_on).0

pub returns : goal.returns
returns c = (begun-sound c.push_back.new.self.items c.push.new.self.items c.fresh.result c.new.result (c.in_ok-push_back.ensures.items ∙ ap (λ z. z ++ c.fresh.result ∷ []) (c.reserve.ensures.items ∙ c.new-parts.ensures.items)) (c.in_ok-push.ensures.items ∙ ap (λ z. z ++ c.new.result ∷ []) (c.reserve-2.ensures.items ∙ c.new-nodes.ensures.items)) c.fresh.ensures c.new.ensures.waiting c.new.ensures.goes_on).1
