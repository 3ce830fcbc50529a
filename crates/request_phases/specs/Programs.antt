-- Where programs and the search of a location lead.
use Rattle.std.specs.Prelude.{ℕ, Bool, not, ◌&&◌, nat_le, List, [], Option, None, Some, if◌then◌else◌}
use Rattle.acts.specs.Act.{Done, ◌>>=◌}
use Rattle.ngx_pattern.specs.Pattern.{Pattern as SetPattern}
use Rattle.ngx_variables.specs.declared.request.Request.{Request}
use Rattle.site_model.specs.Levels.{raw_level}
use Rattle.site_model.specs.declared.site.Site.{Site}
use Rattle.request_meaning.specs.site_views.Values.{Values}
use Rattle.try_index.specs.site_whole.Whole.{level_whole}
use Rattle.request_meaning.specs.Serving.{World, Serving, Asked}
use Rattle.request_meaning.specs.Errors.{Decided, decided}
use Rattle.request_meaning.specs.Rewriting.{Passed, program_run}
use Rattle.request_meaning.specs.Phases.{after_program, is_too_large, entered, in_location}
use Rattle.family_meaning.specs.Suspended.{follows}
use Rattle.location_search.specs.pattern_search.Found.{patterns_seen}
use Rattle.rewrite_code.specs.Places.{standing_seen, progress_seen}
use Rattle.rewrite_code.specs.Runs.{program_of, still}
use Rattle.rewrite_code.specs.declared.place.Progress.{Progress}
use Rattle.rewrite_code.specs.declared.place.RunStep.{RunStep}
use Rattle.request_phases.specs.Rounds.{decision_seen}
use Rattle.rewrite_code.specs.declared.place.Ending.{Ending}
use Rattle.rewrite_code.specs.declared.place.Ending.TheVariants as endings
use Rattle.request_phases.specs.declared.state.Decision.{Decision}
use Rattle.request_phases.specs.declared.state.Decision.TheVariants as decisions

-- a request in the level with this number
abbrev pub moved_into : Site → ℕ → Progress → Progress
moved_into site number at =
    record at { request = record (at.request) { place = Some (raw_level site number).place }; level = number }

-- by what its end decides, a program ends a round, or k goes on
abbrev pub goes_on : Site → Progress → List ℕ → Option Decision → (Passed → Serving Decided) → Serving Decided
goes_on site at bytes None k = k (progress_seen site at)
goes_on site at bytes (Some d) k = Done (decided (standing_seen site at) (decision_seen bytes d))

-- what a program decides by its end; nothing where it came to its end alone
abbrev pub ended_as : (at_server : Bool) → Ending → Option Decision
ended_as at_server endings.End = None
ended_as at_server (endings.Status code (Some text)) = Some (decisions.Text code text)
ended_as at_server (endings.Status code None) = Some (if nat_le 400 code then decisions.Error code else decisions.Text code [])
ended_as at_server (endings.Redirect code to) = Some (decisions.Redirect code to)
ended_as at_server endings.Close = Some decisions.Close
ended_as at_server (endings.Failed leading) = Some (if at_server && leading then decisions.Page 500 else decisions.Error 500)

-- what follows as far as the program of a level came, and from its beginning
unfoldable pub ran_in : World → Asked → List SetPattern → Site → ℕ → Progress → RunStep → (at_server : Bool) → Serving Decided
ran_in w a patterns site level at step at_server = do
  r ← still w a.main site (program_of patterns site (raw_level site level).program) at step
  after_program at_server r (follows w a at_server)

unfoldable pub run_in : World → Asked → List SetPattern → Site → ℕ → Progress → (at_server : Bool) → Serving Decided
run_in w a patterns site level at at_server = do
  r ← program_run w a.main (program_of patterns site (raw_level site level).program) (standing_seen site at)
  after_program at_server r (follows w a at_server)

-- why a level turns a request away
abbrev pub refused_in : World → Values → Request → (inside : Bool) → Option ℕ
refused_in w values request inside =
    if values.internal && not inside then Some 404
    else (if is_too_large w request values then Some 413 else None)

-- a request comes into the level of a location
unfoldable pub entered_at : World → Asked → List SetPattern → Site → ℕ → Progress → Serving Decided
entered_at w a patterns site number at =
    let level = level_whole (patterns_seen patterns) site number in
    entered w a level.values (standing_seen site at) (in_location w a level (standing_seen site at))
