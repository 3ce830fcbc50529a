use Rattle.std.proofs.Common.{◌≡◌, ◌++◌, List, map, take, drop, vec_len}
use Rattle.ssi_text.specs.Marks.{marks}
use Rattle.filter_api.specs.Members.{Machine}
use Rattle.filter_api.specs.Chains.{feeds_all}
use Rattle.filter_api.proofs.stage.pass_all.Given as goal

abbrev pub invariant-loop-i : goal.invariant-loop-i
invariant-loop-i g l =
    let ms : List Machine = map (λ b. ((goal.BodyFilter-dyn g (b.vtable, b.value)).member b.value).machine l.facts) l.members.items in
    (vec_len l.stages ≡ vec_len l.members) × (take l.i l.stages.items ++ (feeds_all (drop l.i ms) (drop l.i l.stages.items) (marks l.parts.items)).0 ≡ (feeds_all ms l.initial.stages.items (marks l.fn.first.items)).0) × ((feeds_all (drop l.i ms) (drop l.i l.stages.items) (marks l.parts.items)).1 ≡ (feeds_all ms l.initial.stages.items (marks l.fn.first.items)).1)
