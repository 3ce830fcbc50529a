-- What single directives do.
use Rattle.std.specs.Prelude.{ℕ, Bool, true, false, List, Option, None, Some, option_map, if◌then◌else◌}
use Rattle.acts.specs.Vars.{Vars, set}
use Rattle.acts.specs.Act.{Done, Stat}
use Rattle.ngx_variables.specs.declared.request.Main.{Main}
use Rattle.ngx_variables.specs.declared.request.Request.{Request}
use Rattle.ngx_variables.specs.Grammar.{begins_with}
use Rattle.site_whole.specs.site_model.Levels.{raw_level}
use Rattle.site_whole.specs.site_model.declared.site.Site.{Site}
use Rattle.site_whole.specs.site_views.Values.{Text, Values}
use Rattle.site_whole.specs.site_views.Rewrites.{Test, Directive, Flag}
use Rattle.site_whole.specs.Whole.{values_seen}
use Rattle.request_meaning.specs.Serving.{Serving}
use Rattle.request_meaning.specs.Cuts.{Target}
use Rattle.request_meaning.specs.Rewriting.{Passed, Ran, Step, says, if_step, matched, changed, some_text, rewrite_to, rewrite_moves}
use Rattle.request_meaning.specs.Rewriting.Ran.{Ends, Breaks}
use Rattle.request_meaning.specs.Rewriting.Step.{Goes, Stops}
use Rattle.rewrite_code.specs.declared.place.Progress.{Progress}
use Rattle.rewrite_code.specs.declared.step.Move.{Move}
use Rattle.rewrite_code.specs.declared.step.Move.TheVariants as moves
use Rattle.rewrite_code.specs.declared.step.Done.{Done as CodeStep}
use Rattle.rewrite_code.specs.declared.step.Done.TheVariants as dones
use Rattle.rewrite_code.specs.declared.turn.Course.{Course}
use Rattle.rewrite_code.specs.declared.turn.Course.TheVariants as courses
use Rattle.rewrite_code.specs.Texts.{fit_of, target_of}
use Rattle.rewrite_code.specs.Places.{progress_seen, ran_of}
use Rattle.rewrite_code.specs.Runs.{told_step, test_passes}
use Rattle.rewrite_code.specs.Conditions.{Checked}
use Rattle.rewrite_code.specs.Conditions.Checked.{Knows, Asks}

abbrev pub move_seen : Site → Progress → Move → Step
move_seen site p (moves.On skip) = Goes skip (progress_seen site p)
move_seen site p (moves.Stop ending) = Stops (ran_of site p ending)

-- what a directive did, or the file test at which it waits
abbrev pub done_seen : Site → Progress → Directive → CodeStep → Serving Step
done_seen site p d (dones.Moved move) = Done (move_seen site p move)
done_seen site p d (dones.Asks path) = Stat path (λ item. Done (told_step d (progress_seen site p) item))

-- the values of the level with this number, where an `if` has one
abbrev pub values_at : Site → Option ℕ → Option Values
values_at site level = option_map (λ n. values_seen site (raw_level site n)) level

-- a `set` of a text, and the variables after it; one that was too long ends the program
abbrev pub set_made : (first : Bool) → List ℕ → Passed → Vars → Option (List ℕ) → Step × Vars
set_made first name p vars None = (Stops (Breaks p.at first), vars)
set_made first name p vars (Some text) = (Goes 0 p, set name text vars)

-- the text of a `return`, where it has one and it isn't too long
abbrev pub return_fit : Main → Request → Vars → Option Text → Option (Option (List ℕ))
return_fit main request vars None = Some None
return_fit main request vars (Some text) = some_text (fit_of main request vars text)

-- a `rewrite` by the groups of its match, where its pattern matches
abbrev pub rewrite_made : Main → Vars → Text → (is_url : Bool) → Flag → Passed → Option (List (List ℕ)) → Step
rewrite_made main vars to is_url flag p None = Goes 0 p
rewrite_made main vars to is_url flag p (Some groups) =
    let now = matched (Some groups) p in
    rewrite_to to is_url flag now (target_of main now.at.request vars to)

-- an `if` by what its condition says
abbrev pub if_made : Test → (negated : Bool) → (block : ℕ) → Option Values → Passed → Checked → Serving Step
if_made test negated block values p (Knows tested) = Done (if_step negated block values p tested)
if_made test negated block values p (Asks path) = Stat path (λ item. Done (if_step negated block values p (says (test_passes test item))))

-- where a `rewrite` that matched leads: to a redirect, or to another path
abbrev pub course_step : Course → Passed → List ℕ → List ℕ → Step
course_step (courses.Moves code) p path args = rewrite_moves p code path args
course_step (courses.Goes seeks ends) p path args =
    if begins_with 47 path
    then (if ends then Stops (Ends (changed p path args seeks)) else Goes 0 (changed p path args seeks))
    else Stops (Breaks p.at false)
