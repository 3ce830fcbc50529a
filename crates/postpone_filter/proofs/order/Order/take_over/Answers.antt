use Rattle.std.proofs.Common.{◌≡◌, [], ◌∷◌, refl}
use Rattle.postpone_filter.specs.Row.{at_place, longer}
use Rattle.postpone_filter.proofs.Views.{sound-taken, view-put, open-append}
use Rattle.postpone_filter.proofs.order.Order.take_over.Goals as goal

pub invariant_of-self : goal.invariant_of-self
invariant_of-self c = sound-taken (λ text. text ≡ c.args.text) c.args.id c.args.text c.put_text.result c.self.inside.parts.items c.put_text.new.parts.items c.self.inside.nodes.items c.place_of.new.nodes.items c.put_text.new.nodes.items c.self.invariant c.in-Some.ensures.nodes c.put_text.ensures.tied c.put_text.ensures.pieces c.put_text.ensures.back

pub returns-in_err-put_text-in-Some-clause-opened : goal.returns-in_err-put_text-in-Some-clause-opened
returns-in_err-put_text-in-Some-clause-opened c =
    open-append c.args.id c.args.text c.args.self.now _
    (view-put (at_place c.args.id (λ p. longer c.args.text p ∷ [])) c.args.self.now c.self.inside.parts.items c.put_text.new.parts.items c.self.inside.nodes.items c.place_of.new.nodes.items c.put_text.new.nodes.items
    c.self.view_is c.in-Some.ensures.nodes (c.in_err-put_text-in-Some.ensures.pieces refl) c.in_err-put_text-in-Some.ensures.nodes)
