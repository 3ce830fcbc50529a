use Rattle.std.proofs.Common.{◌≡◌, ℕ, ◌||◌, not, false, List, drop, map}
use Rattle.site_views.specs.Pattern.{Pattern}
use Rattle.site_model.specs.declared.site.Site.{Site}
use Rattle.site_whole.specs.Whole.{step_seen}
use Rattle.race_meaning.specs.Reads.{is_private_in}
use Rattle.race_check.specs.Names.{has}
use Rattle.race_check.proofs.reads.note_steps.Given as goal

abbrev pub invariant-loop-step : goal.invariant-loop-step
invariant-loop-step l =
    (patterns : List Pattern) (site : Site) (name : List ℕ) →
    (not (is_private_in name (has l.settled name) l.block (map (step_seen patterns site) (drop l.step-index l.steps))) || has l.exposed name)
    ≡ (not (is_private_in name false 0 (map (step_seen patterns site) l.steps)) || has l.fn.exposed name)
