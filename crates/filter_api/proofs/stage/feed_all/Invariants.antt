use Rattle.std.proofs.Common.{◌≡◌, ◌++◌}
use Rattle.ssi_text.specs.Marks.{marks}
use Rattle.filter_api.specs.Members.{Machine, feeds}
use Rattle.filter_api.proofs.stage.feed_all.Given as goal

abbrev pub invariant-loop-part : goal.invariant-loop-part
invariant-loop-part g l =
    let m : Machine = ((goal.BodyFilter-dyn g (l.filter.vtable, l.filter.value)).member l.filter.value).machine l.facts in
    (l.state ≡ (feeds m l.initial.state (marks l.yielded)).0) × (marks l.out.items ≡ marks l.initial.out.items ++ (feeds m l.initial.state (marks l.yielded)).1)
