use Rattle.std.proofs.Common.{◌∙◌}
use Rattle.link_service.proofs.BesideLemmas.{stand_then}
use Rattle.link_service.proofs.wants.serve_want.Goals as goal

pub returns-in_ok-work_off-in-Read-clause-kept : goal.returns-in_ok-work_off-in-Read-clause-kept
returns-in_ok-work_off-in-Read-clause-kept g c = λ links_tell files_tell marks whole ticks k.
    let links = g.L.Links.seen c.read_one-read.new.links in
    c.in_ok-work_off-in-Read.ensures.served.kept links (c.read_one-read.ensures.tells.0 ∙ links_tell) files_tell marks whole ticks
    (c.read_one-read.ensures.kept (g.F.Files.seen c.args.files.now) links_tell files_tell marks whole ticks k)

pub returns-then-not-has_bytes-clause-kept : goal.returns-then-not-has_bytes-clause-kept
returns-then-not-has_bytes-clause-kept g c = c.read_one-read.ensures.kept (g.F.Files.seen c.args.files.now)

pub returns-in_ok-work_off-in-Run-clause-kept : goal.returns-in_ok-work_off-in-Run-clause-kept
returns-in_ok-work_off-in-Run-clause-kept g c = c.in_ok-work_off-in-Run.ensures.served.kept (g.L.Links.seen c.args.links.now)

pub returns-in_ok-work_off-in-Job-clause-kept : goal.returns-in_ok-work_off-in-Job-clause-kept
returns-in_ok-work_off-in-Job-clause-kept g c = λ links_tell files_tell marks whole ticks k.
    let links = g.L.Links.seen c.args.links.now in
    c.in_ok-work_off-in-Job.ensures.served.kept links links_tell (c.job_one.ensures.spares.tells ∙ files_tell) marks whole ticks
    (c.in_ok-large-in-Job.ensures.served.kept links links_tell files_tell marks whole ticks k)

pub returns-in-Write-clause-kept : goal.returns-in-Write-clause-kept
returns-in-Write-clause-kept g c = c.write_one-full.ensures.kept (g.F.Files.seen c.args.files.now)

pub returns-in-Close-clause-kept : goal.returns-in-Close-clause-kept
returns-in-Close-clause-kept g c = c.close_one.ensures.kept (g.F.Files.seen c.args.files.now)

pub returns-in_ok-work_off-in-Read-clause-beside : goal.returns-in_ok-work_off-in-Read-clause-beside
returns-in_ok-work_off-in-Read-clause-beside g c = λ clock.
    stand_then (c.read_one-read.ensures.beside (g.F.Files.seen c.args.files.now).answers clock)
    (c.in_ok-work_off-in-Read.ensures.served.beside (g.L.Links.seen c.read_one-read.new.links).answers clock)

pub returns-then-not-has_bytes-clause-beside : goal.returns-then-not-has_bytes-clause-beside
returns-then-not-has_bytes-clause-beside g c = λ clock. c.read_one-read.ensures.beside (g.F.Files.seen c.args.files.now).answers clock

pub returns-in_ok-work_off-in-Run-clause-beside : goal.returns-in_ok-work_off-in-Run-clause-beside
returns-in_ok-work_off-in-Run-clause-beside g c = λ clock. c.in_ok-work_off-in-Run.ensures.served.beside (g.L.Links.seen c.args.links.now).answers clock

pub returns-in_ok-work_off-in-Job-clause-beside : goal.returns-in_ok-work_off-in-Job-clause-beside
returns-in_ok-work_off-in-Job-clause-beside g c = λ clock.
    stand_then (c.in_ok-large-in-Job.ensures.served.beside (g.L.Links.seen c.args.links.now).answers clock)
    (c.in_ok-work_off-in-Job.ensures.served.beside (g.L.Links.seen c.args.links.now).answers clock)

pub returns-in-Write-clause-beside : goal.returns-in-Write-clause-beside
returns-in-Write-clause-beside g c = λ clock. c.write_one-full.ensures.beside (g.F.Files.seen c.args.files.now).answers clock

pub returns-in-Close-clause-beside : goal.returns-in-Close-clause-beside
returns-in-Close-clause-beside g c = λ clock. c.close_one.ensures.beside (g.F.Files.seen c.args.files.now).answers clock
