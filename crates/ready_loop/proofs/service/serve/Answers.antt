use Rattle.std.proofs.Common.{refl, sym, subst}
use Rattle.ready_loop.proofs.ThroughLemmas.{through_none, through_told, keeps_listening}
use Rattle.ngx_outside.specs.Seen.{LinksSeen}
use Rattle.link_service.specs.Tellings.{StandBeside, moments_told}
use Rattle.link_service.proofs.BesideLemmas.{stand_same, stand_then}
use Rattle.ready_loop.proofs.service.serve.Goals as goal

pub returns-then-not-listen_all-clause-kept : goal.returns-then-not-listen_all-clause-kept
returns-then-not-listen_all-clause-kept g c =
    let e = g.E.EventCore in
    let f = g.F.Files in
    let k = g.L.Links in
    let t = g.C.Clock in
    let n = c.listen_all.ensures in
    let files = f.seen c.args.files.now in
    let clock = t.seen c.args.clock.now in
    through_told (e.seen c.args.core.now) (e.seen c.args.core.now) (k.seen c.args.links.now) (k.seen c.listen_all.new.links) (k.seen c.listen_all.new.links) (k.seen c.tell_refused.new.self) files files clock clock c.refused.result
    n.tells c.tell_refused.ensures
    (keeps_listening (e.seen c.args.core.now) (k.seen c.args.links.now) (k.seen c.listen_all.new.links) files n.told n.ids n.counts n.link_faults)
    (through_none (e.seen c.args.core.now) (k.seen c.listen_all.new.links) files clock)

pub returns-clause-kept : goal.returns-clause-kept
returns-clause-kept g c =
    let e = g.E.EventCore in
    let f = g.F.Files in
    let k = g.L.Links in
    let t = g.C.Clock in
    let n = c.listen_all.ensures in
    through_told (e.seen c.args.core.now) (e.seen c.serve_turns.new.core) (k.seen c.args.links.now) (k.seen c.listen_all.new.links) (k.seen c.serve_turns.new.links) (k.seen c.tell_refused-2.new.self)
    (f.seen c.args.files.now) (f.seen c.serve_turns.new.files) (t.seen c.args.clock.now) (t.seen c.serve_turns.new.clock) c.refused-2.result
    n.tells c.tell_refused-2.ensures
    (keeps_listening (e.seen c.args.core.now) (k.seen c.args.links.now) (k.seen c.listen_all.new.links) (f.seen c.args.files.now) n.told n.ids n.counts n.link_faults)
    c.in_ok-ending.ensures.kept

pub returns-then-not-listen_all-clause-beside : goal.returns-then-not-listen_all-clause-beside
returns-then-not-listen_all-clause-beside g c =
    let e = g.E.EventCore in
    let f = g.F.Files in
    let k = g.L.Links in
    let t = g.C.Clock in
    let clock = moments_told (t.seen c.args.clock.now).tells (t.seen c.args.clock.now).told in
    subst (λ (l : LinksSeen). StandBeside (e.seen c.args.core.now).events (e.seen c.args.core.now).events (k.seen c.args.links.now).answers l.answers (f.seen c.args.files.now).answers (f.seen c.args.files.now).answers clock clock) (sym c.tell_refused.ensures)
    (stand_same (e.seen c.args.core.now).events (e.seen c.args.core.now).events (k.seen c.args.links.now).answers (k.seen c.listen_all.new.links).answers (f.seen c.args.files.now).answers (f.seen c.args.files.now).answers clock clock refl c.listen_all.ensures.answers refl refl)

pub returns-clause-beside : goal.returns-clause-beside
returns-clause-beside g c =
    let e = g.E.EventCore in
    let f = g.F.Files in
    let k = g.L.Links in
    let t = g.C.Clock in
    let clock = moments_told (t.seen c.args.clock.now).tells (t.seen c.args.clock.now).told in
    let last = moments_told (t.seen c.serve_turns.new.clock).tells (t.seen c.serve_turns.new.clock).told in
    subst (λ (l : LinksSeen). StandBeside (e.seen c.args.core.now).events (e.seen c.serve_turns.new.core).events (k.seen c.args.links.now).answers l.answers (f.seen c.args.files.now).answers (f.seen c.serve_turns.new.files).answers clock last) (sym c.tell_refused-2.ensures)
    (stand_then (stand_same (e.seen c.args.core.now).events (e.seen c.args.core.now).events (k.seen c.args.links.now).answers (k.seen c.listen_all.new.links).answers (f.seen c.args.files.now).answers (f.seen c.args.files.now).answers clock clock refl c.listen_all.ensures.answers refl refl) c.in_ok-ending.ensures.beside)
