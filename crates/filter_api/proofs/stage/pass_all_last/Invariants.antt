use Rattle.std.proofs.Common.{◌≡◌, List, map, drop, vec_len}
use Rattle.ssi_text.specs.Marks.{marks}
use Rattle.filter_api.specs.Members.{Machine}
use Rattle.filter_api.specs.Chains.{still}
use Rattle.filter_api.proofs.stage.pass_all_last.Given as goal

abbrev pub invariant-loop-i : goal.invariant-loop-i
invariant-loop-i g l =
    let ms : List Machine = map (λ b. ((goal.BodyFilter-dyn g (b.vtable, b.value)).member b.value).machine l.facts) l.members.items in
    (vec_len l.stages ≡ vec_len l.members) × (still (drop l.i ms) (drop l.i l.stages.items) (marks l.parts.items) ≡ still ms l.initial.stages.items (marks l.fn.first.items))
