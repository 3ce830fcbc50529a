use Rattle.std.proofs.Common.{◌∙◌, [], take, inl, refl, sym, ap}
use Rattle.std.proofs.lemmas.List.{append-nil}
use Rattle.ngx_outside.specs.Views.Ground.{Always}
use Rattle.ngx_outside.specs.Linked.{LinkView}
use Rattle.link_service.proofs.AccountLemmas.{ends_same}
use Rattle.link_service.proofs.KeptLemmas.{kept_passed, kept_same, grown_same}
use Rattle.ngx_outside.specs.Records.{Read}
use Rattle.ngx_outside.specs.declared.links.Input.TheVariants as input
use Rattle.link_service.proofs.BesideLemmas.{stand_answered}
use Rattle.link_service.proofs.links.read_one.Goals as goal

pub returns-in-Got-clause-kept : goal.returns-in-Got-clause-kept
returns-in-Got-clause-kept g c = λ files tells files_tell marks whole ticks.
    let e = g.E.EventCore in
    let l = g.L.Links in
    let told = c.in-Got.ensures.told tells in
    kept_passed marks whole (e.seen c.args.core.now) (e.seen c.arrived.new.core) (l.seen c.args.links.now) (l.seen c.read_link-input.new.links) files files ticks c.args.conn Always (take c.in-Got.count c.read_link-input.new.buf) []
    (record { terms = c.arrived.ensures.steady.0; now = c.arrived.ensures.steady.1; counts = c.arrived.ensures.counts; views = c.arrived.ensures.others; wires = told.others; used = c.read_link-input.ensures.ids.0; opens = λ d ne. c.read_link-input.ensures.ids.1 d; faults = c.read_link-input.ensures.link_faults; store = grown_same files; crowd = λ e. c.arrived.ensures.steady.2 ∙ e ∙ sym (c.read_link-input.ensures.counts tells).0 })
    (λ raceless trees agree. tt) (λ x. absurd x) (λ x. absurd x) (λ x. x) (c.read_link-input.ensures.ids.1 c.args.conn) (ap (λ (x : LinkView). x.local) told.own) (ap (λ (x : LinkView). x.peer) told.own) (ap (λ (x : LinkView). x.taken) told.own) (ap (λ (x : LinkView). x.sent) told.own ∙ sym (append-nil ((l.seen c.args.links.now).link c.args.conn).sent))
    (ends_same ((e.seen c.args.core.now).view c.args.conn) ((e.seen c.arrived.new.core).view c.args.conn) ((l.seen c.args.links.now).link c.args.conn) ((l.seen c.read_link-input.new.links).link c.args.conn) c.arrived.ensures.ended (ap (λ (x : LinkView). x.ended) told.own)) c.arrived.ensures.passed

pub returns-in-NotYet-clause-kept : goal.returns-in-NotYet-clause-kept
returns-in-NotYet-clause-kept g c = λ files tells files_tell marks whole ticks.
    let e = g.E.EventCore in
    let l = g.L.Links in
    let told = c.in-NotYet.ensures.told tells in
    kept_same marks whole (e.seen c.args.core.now) (e.seen c.args.core.now) (l.seen c.args.links.now) (l.seen c.read_link-input.new.links) files files ticks c.args.conn
    (record { terms = refl; now = refl; counts = inl refl; views = λ d ne. refl; wires = told.others; used = c.read_link-input.ensures.ids.0; opens = λ d ne. c.read_link-input.ensures.ids.1 d; faults = c.read_link-input.ensures.link_faults; store = grown_same files; crowd = λ e. e ∙ sym (c.read_link-input.ensures.counts tells).0 })
    refl (c.read_link-input.ensures.ids.1 c.args.conn) (ap (λ (x : LinkView). x.local) told.own) (ap (λ (x : LinkView). x.peer) told.own) (ap (λ (x : LinkView). x.among) told.own) (ap (λ (x : LinkView). x.taken) told.own) (ap (λ (x : LinkView). x.sent) told.own) (ap (λ (x : LinkView). x.ended) told.own)

pub returns-in-End-clause-kept : goal.returns-in-End-clause-kept
returns-in-End-clause-kept g c = λ files tells files_tell marks whole ticks.
    let e = g.E.EventCore in
    let l = g.L.Links in
    let told = c.in-End.ensures.told tells in
    kept_passed marks whole (e.seen c.args.core.now) (e.seen c.ended.new.core) (l.seen c.args.links.now) (l.seen c.read_link-input.new.links) files files ticks c.args.conn Always [] []
    (record { terms = c.ended.ensures.steady.0; now = c.ended.ensures.steady.1; counts = c.ended.ensures.counts; views = c.ended.ensures.others; wires = told.others; used = c.read_link-input.ensures.ids.0; opens = λ d ne. c.read_link-input.ensures.ids.1 d; faults = c.read_link-input.ensures.link_faults; store = grown_same files; crowd = λ e. c.ended.ensures.steady.2 ∙ e ∙ sym (c.read_link-input.ensures.counts tells).0 })
    (λ raceless trees agree. tt) (λ x. absurd x) (λ x. absurd x) (λ x. absurd x) (c.read_link-input.ensures.ids.1 c.args.conn) (ap (λ (x : LinkView). x.local) told.own) (ap (λ (x : LinkView). x.peer) told.own) (ap (λ (x : LinkView). x.taken) told.own ∙ sym (append-nil ((l.seen c.args.links.now).link c.args.conn).taken)) (ap (λ (x : LinkView). x.sent) told.own ∙ sym (append-nil ((l.seen c.args.links.now).link c.args.conn).sent))
    (λ h is. ap (λ (x : LinkView). x.ended) told.own) c.ended.ensures.passed

pub returns-in-Failed-clause-kept : goal.returns-in-Failed-clause-kept
returns-in-Failed-clause-kept g c = λ files tells files_tell marks whole ticks.
    let e = g.E.EventCore in
    let l = g.L.Links in
    let told = c.in-Failed.ensures.told tells in
    kept_passed marks whole (e.seen c.args.core.now) (e.seen c.link_failed.new.core) (l.seen c.args.links.now) (l.seen c.read_link-input.new.links) files files ticks c.args.conn Always [] []
    (record { terms = c.link_failed.ensures.steady.0; now = c.link_failed.ensures.steady.1; counts = c.link_failed.ensures.counts; views = c.link_failed.ensures.others; wires = told.others; used = c.read_link-input.ensures.ids.0; opens = λ d ne. c.read_link-input.ensures.ids.1 d; faults = c.read_link-input.ensures.link_faults; store = grown_same files; crowd = λ e. c.link_failed.ensures.steady.2 ∙ e ∙ sym (c.read_link-input.ensures.counts tells).0 })
    (λ raceless trees agree. tt) (λ x. c.read_link-input.ensures.cause c.in-Failed.is) (λ x. absurd x) (λ x. absurd x) (c.read_link-input.ensures.ids.1 c.args.conn) (ap (λ (x : LinkView). x.local) told.own) (ap (λ (x : LinkView). x.peer) told.own) (ap (λ (x : LinkView). x.taken) told.own ∙ sym (append-nil ((l.seen c.args.links.now).link c.args.conn).taken)) (ap (λ (x : LinkView). x.sent) told.own ∙ sym (append-nil ((l.seen c.args.links.now).link c.args.conn).sent))
    (ends_same ((e.seen c.args.core.now).view c.args.conn) ((e.seen c.link_failed.new.core).view c.args.conn) ((l.seen c.args.links.now).link c.args.conn) ((l.seen c.read_link-input.new.links).link c.args.conn) c.link_failed.ensures.ended (ap (λ (x : LinkView). x.ended) told.own)) c.link_failed.ensures.passed

pub returns-in-NotYet-clause-beside : goal.returns-in-NotYet-clause-beside
returns-in-NotYet-clause-beside g c = λ files clock.
    let l = g.L.Links in
    stand_answered (Read c.args.conn input.NotYet []) (g.E.EventCore.seen c.args.core.now).events (l.seen c.args.links.now).answers (l.seen c.read_link-input.new.links).answers files clock c.in-NotYet.ensures.answers refl
