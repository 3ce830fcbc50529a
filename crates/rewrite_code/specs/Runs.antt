-- What a program still does from a place on, after what was answered so far.
use Rattle.std.specs.Prelude.{◌≡◌, ℕ, Bool, true, false, List, [], ◌∷◌, drop, map, Option}
use Rattle.acts.specs.Vars.{Vars}
use Rattle.acts.specs.Act.{Done, Stat, ◌>>=◌, settled}
use Rattle.file_tree.specs.Tree.{Item}
use Rattle.ngx_pattern.specs.Pattern.{Pattern as SetPattern}
use Rattle.ngx_variables.specs.declared.request.Main.{Main}
use Rattle.site_whole.specs.site_model.declared.site.Site.{Site}
use Rattle.site_whole.specs.site_model.declared.program.RewriteStep.{RewriteStep}
use Rattle.site_whole.specs.site_views.Values.{Values}
use Rattle.site_whole.specs.site_views.Rewrites.{Test, Directive, Program}
use Rattle.site_whole.specs.site_views.Rewrites.Test.{IsSet, Equals, Matches, OnFile}
use Rattle.site_whole.specs.site_views.Rewrites.Directive.{Set, If, Rewrite, Return, Stop}
use Rattle.site_whole.specs.Whole.{step_seen}
use Rattle.request_meaning.specs.Serving.{World, Serving}
use Rattle.request_meaning.specs.Rewriting.{Passed, Ran, Step, on, says, passes, if_step, tested, rewritten}
use Rattle.request_meaning.specs.Rewriting.Ran.{Ends, Breaks}
use Rattle.request_meaning.specs.Rewriting.Step.{Goes, Stops}
use Rattle.rewrite_code.specs.declared.place.Progress.{Progress}
use Rattle.rewrite_code.specs.declared.place.Ending.{Ending}
use Rattle.rewrite_code.specs.declared.place.RunStep.{RunStep}
use Rattle.rewrite_code.specs.declared.place.RunStep.TheVariants.{Ended, Test as AtTest}
use Rattle.pattern_search.specs.Found.{patterns_seen}
use Rattle.rewrite_code.specs.Found.{finding}
use Rattle.rewrite_code.specs.Places.{progress_seen, ran_of}

-- a program of a site's level, with the patterns of the set beside the site
abbrev pub program_of : List SetPattern → Site → List RewriteStep → Program
program_of patterns site steps = map (step_seen (patterns_seen patterns) site) steps

-- whether a file test holds of what is at its path; other conditions ask nothing
abbrev pub test_passes : Test → Item → Bool
test_passes (IsSet variable) item = false
test_passes (Equals variable text) item = false
test_passes (Matches variable pattern) item = false
test_passes (OnFile test path) item = passes test item

-- what an `if` with a file test does once it is told what is at its path; another directive, which never waits, ends the
-- program
abbrev pub told_step : Directive → Passed → Item → Step
told_step (Set name text) p item = Stops (Ends p)
told_step (If test negated block values) p item = if_step negated block values p (says (test_passes test item))
told_step (Rewrite pattern to is_url flag) p item = Stops (Ends p)
told_step (Return code text) p item = Stops (Ends p)
told_step Stop p item = Stops (Ends p)

-- What a program still does once the file test with which it begins is told what is at its path.
unfoldable pub resumed : World → Main → Program → Passed → Item → Serving Ran
resumed w main [] p item = Done (Ends p)
resumed w main (d ∷ later) p item = on (told_step d p item) (λ skip q. rewritten w main false skip later q)

-- What is still to be done where a call answered this: nothing, or what follows the file test with this number.
abbrev pub still : World → Main → Site → Program → Progress → RunStep → Serving Ran
still w main site program p (Ended ending) = Done (ran_of site p ending)
still w main site program p (AtTest path at) = Stat path (λ item. resumed w main (drop at program) (progress_seen site p) item)

-- Reading and writing variables as far as it gets alone, the rest of a program comes to what was answered, and to these
-- variables.
abbrev pub ComesTo : Serving Ran → Vars → Serving Ran → Vars → Type 0
ComesTo before old after new = settled before old ≡ (after, new)
