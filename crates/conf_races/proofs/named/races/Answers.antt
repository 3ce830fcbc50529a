use Rattle.std.proofs.Common.{List, ℕ, map, subst, ◌∙◌}
use Rattle.conf_text.specs.declared.directive.Directive.{Directive}
use Rattle.site_whole.specs.Whole.{whole}
use Rattle.race_places.specs.Places.{conflict_seen}
use Rattle.conf_races.specs.Runs.{in_runs, run_path}
use Rattle.conf_races.specs.Races.{RacesBy}
use Rattle.conf_races.proofs.named.races.Goals as goal

pub returns-clause-told : goal.returns-clause-told
returns-clause-told c = λ paths patterns.
    let servers = (whole patterns c.args.site.now).servers in
    let files = c.in_ok-files.files.items in
    let told = map (conflict_seen (run_path paths files)) c.in_ok-conflicts.conflicts.items in
    subst (λ (fs : List ℕ). RacesBy (run_path paths fs) (in_runs c.args.directives.items) servers told) c.in_ok-files.ensures.files
    (subst (λ (ds : List Directive). RacesBy (run_path paths files) ds servers told) (c.as_slice.ensures.value ∙ c.in_ok-files.ensures.runs)
    (c.in_ok-conflicts.ensures.told (run_path paths files) patterns))
