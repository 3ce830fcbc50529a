-- What the access phase does once the subrequest that it asked has replied.
use Rattle.std.specs.Prelude.{◌≡◌, ℕ, Bool, List, if◌then◌else◌}
use Rattle.acts.specs.Vars.{Vars}
use Rattle.acts.specs.Act.{Done, settled, ◌>>=◌}
use Rattle.ngx_variables.specs.declared.request.Main.{Main}
use Rattle.ngx_variables.specs.declared.request.Request.{Request}
use Rattle.site_model.specs.declared.site.Site.{Site}
use Rattle.request_meaning.specs.site_views.Values.{Text}
use Rattle.request_meaning.specs.Access as access
use Rattle.request_meaning.specs.Access.{sets, fit_verdict, status_verdict}
use Rattle.request_meaning.specs.Errors.{Decided}
use Rattle.request_meaning.specs.Phases.{by_verdict}
use Rattle.request_meaning.specs.Serving.{World, Serving, Asked, Standing, Prepared}
use Rattle.family_meaning.specs.Suspended.{rounds_rest}
use Rattle.rewrite_code.specs.Places.{standing_seen}
use Rattle.request_phases.specs.Rounds.{asked_in}
use Rattle.request_phases.specs.declared.admission.Admission.{Admission}
use Rattle.request_phases.specs.declared.admission.Admission.TheVariants.{LetsIn, Denies}
use Rattle.request_phases.specs.declared.state.Phases.{Phases}

abbrev pub verdict_seen : Admission → access.Verdict
verdict_seen LetsIn = access.Verdict.LetsIn
verdict_seen (Denies code) = access.Verdict.Denies code

-- the rest of the round by a reply with this status, of a subrequest whose request was this one at its end
abbrev pub admitted_act : Asked → Standing → (status : ℕ) → Request → Serving Decided
admitted_act a s status request = do
  v ← (do
    fit ← sets a.main request s.values.auth_sets
    Done (fit_verdict fit (status_verdict status)))
  by_verdict a s v

-- and the rounds after it
unfoldable pub phases_admitted : World → Site → Phases → (status : ℕ) → Request → Serving Prepared
phases_admitted w site p status request = rounds_rest w p.changes (asked_in p) (admitted_act (asked_in p) (standing_seen site p.at) status request)

-- Setting these variables by this request settles as setting the others, or as the end of it where a text is too long.
abbrev pub SetsTo : Main → Request → (all left : List (List ℕ × Text)) → (old new : Vars) → (fits : Bool) → Type 0
SetsTo main request all left old new fits =
    settled (sets main request all) old ≡ settled (if fits then sets main request left else Done fits) new
