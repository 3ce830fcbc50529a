use Rattle.std.proofs.Common.{◌≡◌, ℕ, List, drop, map, flat_map}
use Rattle.site_views.specs.Pattern.{Pattern}
use Rattle.site_model.specs.declared.site.Site.{Site}
use Rattle.site_whole.specs.Whole.{step_seen}
use Rattle.race_meaning.specs.Named.{set_text}
use Rattle.race_check.specs.Texts.{known, told}
use Rattle.race_check.proofs.texts.SetTexts.add_steps.Given as goal

abbrev pub invariant-loop-step : goal.invariant-loop-step
invariant-loop-step l =
    (patterns : List Pattern) (site : Site) (name : List ℕ) →
    told (known l.self name) (flat_map (set_text name) (map (step_seen patterns site) (drop l.step-index l.steps)))
    ≡ told (known l.fn.self name) (flat_map (set_text name) (map (step_seen patterns site) l.steps))
