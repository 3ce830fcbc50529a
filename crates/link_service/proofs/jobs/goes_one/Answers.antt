use Rattle.link_service.proofs.NodeLemmas.{served_then, spares_then, still_known}
use Rattle.link_service.proofs.jobs.goes_one.Goals as goal

pub returns-then-has_much-clause-served : goal.returns-then-has_much-clause-served
returns-then-has_much-clause-served g c = c.runs_if.ensures.served (g.F.Files.seen c.args.files.now)

pub returns-then-has_much-clause-spares : goal.returns-then-has_much-clause-spares
returns-then-has_much-clause-spares g c = c.runs_if.ensures.spares (g.F.Files.seen c.args.files.now)

pub returns-clause-served : goal.returns-clause-served
returns-clause-served g c =
    let f = g.F.Files.seen c.args.files.now in
    served_then (c.runs_if.ensures.spares f) (c.runs_if.ensures.served f) c.in_ok-job_if.ensures.served

pub returns-clause-spares : goal.returns-clause-spares
returns-clause-spares g c = spares_then (c.runs_if.ensures.spares (g.F.Files.seen c.args.files.now)) c.job_if.ensures.spares

pub job_if-requires : goal.job_if-requires
job_if-requires g c = record { known = still_known (c.runs_if.ensures.spares (g.F.Files.seen c.args.files.now)) c.requires.known }

pub returns-in_err-job_if-clause-spares : goal.returns-in_err-job_if-clause-spares
returns-in_err-job_if-clause-spares g c = spares_then (c.runs_if.ensures.spares (g.F.Files.seen c.args.files.now)) c.job_if.ensures.spares
