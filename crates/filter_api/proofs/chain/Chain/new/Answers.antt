use Rattle.std.proofs.Common.{map}
use Rattle.std.proofs.lemmas.List.Elements.{All-map, recursion_from_All}
use Rattle.filter_api.specs.Members.{IsLawful}
use Rattle.filter_api.proofs.chain.Chain.new.Goals as goal

pub returns-in-None-clause-lawful : goal.returns-in-None-clause-lawful
returns-in-None-clause-lawful g c =
    let xs = c.args.members.items in
    recursion_from_All IsLawful (map (λ b. (goal.BodyFilter-dyn g (b.vtable, b.value)).member b.value) xs) (All-map IsLawful (λ b. (goal.BodyFilter-dyn g (b.vtable, b.value)).member b.value) xs c.promised.ensures)
