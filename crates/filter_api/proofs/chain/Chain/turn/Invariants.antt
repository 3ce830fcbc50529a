use Rattle.std.proofs.Common.{◌≡◌, ◌++◌, List, map, vec_len}
use Rattle.ssi_text.specs.Marks.{Mark, marks}
use Rattle.filter_api.specs.Members.{Machine}
use Rattle.filter_api.specs.Chains.{still}
use Rattle.filter_api.proofs.chain.Chain.turn.Given as goal

abbrev pub invariant-loop-part : goal.invariant-loop-part
invariant-loop-part g l =
    let ms : List Machine = map (λ b. ((goal.BodyFilter-dyn g (b.vtable, b.value)).member b.value).machine l.facts) l.self.members.items in
    (goal.iterator-loop-part g).can_next l.part-iterator
    × (goal.iterator-loop-part g).is_finite l.part-iterator
    × (vec_len l.state.stages ≡ vec_len l.self.members)
    × (l.state.facts ≡ l.facts)
    × ((more : List Mark) → marks l.initial.out.items ++ still ms l.initial.state.stages.items (marks l.yielded ++ more) ≡ marks l.out.items ++ still ms l.state.stages.items more)
