use Rattle.std.proofs.Common.{◌≡◌, map, take}
use Rattle.filter_api.specs.Members.{fresh}
use Rattle.filter_api.proofs.chain.Chain.start.Given as goal

abbrev pub invariant-loop-filter : goal.invariant-loop-filter
invariant-loop-filter g l = l.stages.items ≡ map (λ b. record { on = (((goal.BodyFilter-dyn g (b.vtable, b.value)).member b.value).machine l.facts).on; state = fresh }) (take l.filter-index l.self.members.items)
