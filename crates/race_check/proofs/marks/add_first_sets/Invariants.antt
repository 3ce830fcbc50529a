use Rattle.std.proofs.Common.{◌≡◌, ℕ, ◌||◌, List, drop, map}
use Rattle.site_views.specs.Pattern.{Pattern}
use Rattle.site_model.specs.declared.site.Site.{Site}
use Rattle.site_whole.specs.Whole.{step_seen}
use Rattle.race_meaning.specs.Named.{begins_with_set}
use Rattle.race_check.specs.Names.{has}
use Rattle.race_check.proofs.marks.add_first_sets.Given as goal

abbrev pub invariant-loop-step : goal.invariant-loop-step
invariant-loop-step l =
    (patterns : List Pattern) (site : Site) (name : List ℕ) →
    (begins_with_set name (map (step_seen patterns site) (drop l.step-index l.steps)) || has l.names name)
    ≡ (begins_with_set name (map (step_seen patterns site) l.steps) || has l.fn.names name)
