use Rattle.std.proofs.Common.{◌≡◌, take, map, arith, sym, ap, ◌∙◌}
use Rattle.std.proofs.lemmas.List.{take_all}
use Rattle.filter_api.proofs.Turns.{begun-map}
use Rattle.filter_api.specs.Members.{fresh}
use Rattle.filter_api.proofs.chain.Chain.start.Goals as goal

pub returns-clause-stages : goal.returns-clause-stages
returns-clause-stages g c =
    let xs = c.args.self.now.members.items in
    let e : take c.loop-filter.filter-index xs ≡ xs = take_all c.loop-filter.filter-index xs (omega (arith, c.args.self.now.members.ok)) in
    c.loop-filter.invariant ∙ ap (λ z. map (λ b. record { on = (((goal.BodyFilter-dyn g (b.vtable, b.value)).member b.value).machine c.args.facts.now).on; state = fresh }) z) e ∙ sym (begun-map (λ b. ((goal.BodyFilter-dyn g (b.vtable, b.value)).member b.value).machine c.args.facts.now) xs)
