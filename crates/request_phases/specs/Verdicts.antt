-- What the access phase does by what was found out.
use Rattle.acts.specs.Act.{Done, ◌>>=◌}
use Rattle.ngx_variables.specs.declared.request.Main.{Main}
use Rattle.request_meaning.specs.site_views.Values.{Values}
use Rattle.request_meaning.specs.Serving.{Serving, Asked, Standing, asks}
use Rattle.request_meaning.specs.Errors.{Decided}
use Rattle.request_meaning.specs.Access as access
use Rattle.request_meaning.specs.Access.{auth_child, sets, fit_verdict, status_verdict, verdict}
use Rattle.request_meaning.specs.Phases.{by_verdict}
use Rattle.request_phases.specs.declared.access.Verdict.{Verdict}
use Rattle.request_phases.specs.declared.access.Verdict.TheVariants.{LetsIn, Denies, Asks}

abbrev pub verdict_act : Main → Values → Verdict → Serving access.Verdict
verdict_act main values LetsIn = Done access.Verdict.LetsIn
verdict_act main values Denies = Done (access.Verdict.Denies 403)
verdict_act main values (Asks path) = do
  reply ← asks (auth_child main path.now)
  fit ← sets main reply.answer.request values.auth_sets
  Done (fit_verdict fit (status_verdict reply.answer.status))

-- a main request asks whether it is let in
abbrev pub guarded_act : Asked → Standing → Serving Decided
guarded_act a s = do
  v ← verdict a.main s.values
  by_verdict a s v
