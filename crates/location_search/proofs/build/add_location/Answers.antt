use Rattle.std.proofs.Common.{◌≡◌, [], ◌∷◌, ◌++◌, length, refl, sym, subst, rules}
use Rattle.location_search.specs.Building.{IsBuilt}
use Rattle.location_search.specs.declared.node.Node.{Node}
use Rattle.location_search.specs.declared.build.Open.{Open}
use Rattle.location_search.proofs.Trees.{built-more}
use Rattle.location_search.proofs.build.add_location.Goals as goal

pub returns : goal.returns
returns c = λ later built.
    let nodes = c.args.nodes.now.items in
    let here = c.args.location.now in
    let after = c.gather.new.waiting.items in
    let node : Node = record { level = here.level; firm = c.is_firm.result; list = c.in_ok-list.list } in
    let member : Open = record { number = c.in-Ok.number; location = c.args.location } in
    let number : c.in-Ok.number ≡ length nodes = search rules in
    subst (λ ns. IsBuilt ns c.push-2.new.self.items (here ∷ later)) (sym c.in_ok-push.ensures.items)
    (subst (λ ws. IsBuilt (nodes ++ node ∷ []) ws (here ∷ later)) (sym c.in_ok-push-2.ensures.items)
    (built-more nodes c.args.waiting.now.items after c.in_ok-gather.field-0 c.in_ok-list.list c.in_ok-list.ensures later here node member
    built c.in_ok-gather.ensures refl c.is_firm.ensures refl number refl))
