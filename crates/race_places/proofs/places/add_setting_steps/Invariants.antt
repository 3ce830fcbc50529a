use Rattle.std.proofs.Common.{◌≡◌, ◌++◌, ℕ, List, drop, map}
use Rattle.site_views.specs.Pattern.{Pattern}
use Rattle.site_model.specs.declared.site.Site.{Site}
use Rattle.site_whole.specs.Whole.{step_seen}
use Rattle.race_meaning.specs.Conflicts.{sets_it}
use Rattle.race_places.specs.Index.{at}
use Rattle.race_places.specs.Places.{lines_of}
use Rattle.race_places.proofs.places.add_setting_steps.Given as goal

abbrev pub invariant-loop-step : goal.invariant-loop-step
invariant-loop-step l =
    (patterns : List Pattern) (site : Site) (name : List ℕ) →
    at l.sets name ++ lines_of (sets_it name) (map (step_seen patterns site) (drop l.step-index l.steps)) l.left ≡ at l.fn.sets name ++ lines_of (sets_it name) (map (step_seen patterns site) l.steps) l.lines
