use Rattle.std.proofs.Common.{ap, ◌∙◌}
use Rattle.race_places.specs.Marks.{is_gone}
use Rattle.race_places.proofs.Among.{none_more}
use Rattle.race_places.proofs.marks.no_marks.Goals as goal

pub loop-list-preserved : goal.loop-list-preserved
loop-list-preserved c = λ lines kind values.
    ap (λ m. is_gone m lines kind values) c.in_ok-push.ensures.items ∙ none_more c.loop-list.marks.items lines kind values ∙ c.loop-list.invariant lines kind values
