use Rattle.telling_core.specs.Core.{events_of}
use Rattle.memory_links.specs.Told.{answers_of}
use Rattle.ngx_outside.specs.Records.{beside_link}
use Rattle.link_service.specs.Tellings.{of_link}
use Rattle.link_service.proofs.BesideLemmas.{beside_from_start, moments_from_start}
use Rattle.outside_tests.proofs.serving.serve_from_start.Goals as goal

pub returns-clause-links : goal.returns-clause-links
returns-clause-links g c =
    beside_from_start of_link beside_link (events_of c.args.core.now) (events_of c.ending.new.core) (answers_of c.args.links.now) (answers_of c.ending.new.links)
    c.requires.ungiven c.requires.unanswered c.in_ok-ending.ensures.links

pub returns-clause-clock : goal.returns-clause-clock
returns-clause-clock g c = λ tells untold.
    let t = g.C.Clock in
    moments_from_start (events_of c.args.core.now) (events_of c.ending.new.core) (t.seen c.args.clock.now).tells (t.seen c.ending.new.clock).tells (t.seen c.args.clock.now).told (t.seen c.ending.new.clock).told
    c.requires.ungiven tells c.in_ok-ending.ensures.tells untold c.in_ok-ending.ensures.clock
