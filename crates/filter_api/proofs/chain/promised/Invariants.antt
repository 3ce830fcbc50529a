use Rattle.std.proofs.Common.{take}
use Rattle.std.specs.List.{All}
use Rattle.filter_api.specs.Members.{IsLawful}
use Rattle.filter_api.proofs.chain.promised.Given as goal

abbrev pub invariant-loop-filter : goal.invariant-loop-filter
invariant-loop-filter g l = All (λ b. IsLawful ((goal.BodyFilter-dyn g (b.vtable, b.value)).member b.value)) (take l.filter-index l.members.items)
