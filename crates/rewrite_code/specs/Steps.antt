-- A program between two of its directives.
use Rattle.std.specs.Prelude.{ℕ, ◌+◌, ◌<◌, ◌&&◌, ◌==◌, Bool, drop}
use Rattle.acts.specs.Vars.{Vars}
use Rattle.acts.specs.Act.{settled}
use Rattle.ngx_variables.specs.declared.request.Main.{Main}
use Rattle.site_whole.specs.site_model.declared.site.Site.{Site}
use Rattle.site_whole.specs.site_views.Rewrites.{Program}
use Rattle.request_meaning.specs.Serving.{World, Serving}
use Rattle.request_meaning.specs.Rewriting.{Ran, rewritten}
use Rattle.rewrite_code.specs.declared.place.Progress.{Progress}
use Rattle.rewrite_code.specs.declared.place.RunStep.TheVariants.{Ended}
use Rattle.rewrite_code.specs.declared.program.Next.{Next}
use Rattle.rewrite_code.specs.declared.program.Next.TheVariants.{At, Answered}
use Rattle.rewrite_code.specs.declared.step.Move.{Move}
use Rattle.rewrite_code.specs.declared.step.Move.TheVariants.{On, Stop}
use Rattle.rewrite_code.specs.Places.{progress_seen}
use Rattle.rewrite_code.specs.Runs.{still}

-- what is still to be done from a place on, or after an answer, and the variables
abbrev pub ahead : World → Main → Site → Program → Progress → Vars → Next → Serving Ran × Vars
ahead w main site program p vars (At at leading) = settled (rewritten w main leading 0 (drop at program) (progress_seen site p)) vars
ahead w main site program p vars (Answered step) = (still w main site program p step, vars)

-- where a directive at this place leads; `stays` where the run of `set`s that begins the program goes on past it
abbrev pub next_made : (stays : Bool) → (at : ℕ) → Move → Next
next_made stays at (On skip) = At (at + 1 + skip) ((skip == 0) && stays)
next_made stays at (Stop ending) = Answered (Ended ending)

-- it leads further
abbrev pub LeadsOn : (at : ℕ) → Next → Type 0
LeadsOn at (At next leading) = at < next
LeadsOn at (Answered step) = Unit {0}
