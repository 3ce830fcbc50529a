use Rattle.std.proofs.Common.{◌∙◌, [], take, inl, refl, sym, ap, subst}
use Rattle.std.proofs.lemmas.List.{append-nil}
use Rattle.ngx_outside.specs.Views.Ground.{Always}
use Rattle.ngx_outside.specs.Linked.{LinkView, Updated, put}
use Rattle.link_service.proofs.KeptLemmas.{kept_passed, kept_same, grown_same}
use Rattle.link_service.proofs.AccountLemmas.{ends_same, some_bytes}
use Rattle.ngx_outside.specs.Records.{Written}
use Rattle.ngx_outside.specs.declared.links.Output.TheVariants as output
use Rattle.link_service.proofs.BesideLemmas.{stand_answered}
use Rattle.link_service.proofs.links.write_one.Goals as goal

pub returns-in-Put-clause-kept : goal.returns-in-Put-clause-kept
returns-in-Put-clause-kept g c = λ files tells files_tell marks whole ticks.
    let e = g.E.EventCore in
    let l = g.L.Links in
    let told = (subst (λ p. Updated c.args.conn (put (take c.in-Put.count p)) (l.seen c.args.links.now).link (l.seen c.write-output.new.self).link) c.pending.ensures (c.in-Put.ensures.told tells c.requires.open)) in
    kept_passed marks whole (e.seen c.args.core.now) (e.seen c.after_put.new.core) (l.seen c.args.links.now) (l.seen c.write-output.new.self) files files ticks c.args.conn Always [] (take c.in-Put.count ((e.seen c.args.core.now).view c.args.conn).pending)
    (record { terms = c.after_put.ensures.steady.0; now = c.after_put.ensures.steady.1; counts = c.after_put.ensures.counts; views = c.after_put.ensures.others; wires = told.others; used = c.write-output.ensures.ids.0; opens = λ d ne. c.write-output.ensures.ids.1 d; faults = c.write-output.ensures.link_faults; store = grown_same files; crowd = λ e. c.after_put.ensures.steady.2 ∙ e ∙ sym (c.write-output.ensures.counts tells).0 })
    (λ raceless trees agree. tt) (λ none. c.in-Put.ensures.nothing none (λ e. some_bytes c.requires.some (sym c.pending.ensures ∙ e))) (λ x. absurd x) (λ x. absurd x) (c.write-output.ensures.ids.1 c.args.conn) (ap (λ (x : LinkView). x.local) told.own) (ap (λ (x : LinkView). x.peer) told.own) (ap (λ (x : LinkView). x.taken) told.own ∙ sym (append-nil ((l.seen c.args.links.now).link c.args.conn).taken)) (ap (λ (x : LinkView). x.sent) told.own)
    (ends_same ((e.seen c.args.core.now).view c.args.conn) ((e.seen c.after_put.new.core).view c.args.conn) ((l.seen c.args.links.now).link c.args.conn) ((l.seen c.write-output.new.self).link c.args.conn) c.after_put.ensures.ended (ap (λ (x : LinkView). x.ended) told.own)) c.after_put.ensures.passed

pub returns-in-NotYet-clause-kept : goal.returns-in-NotYet-clause-kept
returns-in-NotYet-clause-kept g c = λ files tells files_tell marks whole ticks.
    let e = g.E.EventCore in
    let l = g.L.Links in
    let told = c.in-NotYet.ensures.told tells c.requires.open in
    kept_same marks whole (e.seen c.args.core.now) (e.seen c.args.core.now) (l.seen c.args.links.now) (l.seen c.write-output.new.self) files files ticks c.args.conn
    (record { terms = refl; now = refl; counts = inl refl; views = λ d ne. refl; wires = told.others; used = c.write-output.ensures.ids.0; opens = λ d ne. c.write-output.ensures.ids.1 d; faults = c.write-output.ensures.link_faults; store = grown_same files; crowd = λ e. e ∙ sym (c.write-output.ensures.counts tells).0 })
    refl (c.write-output.ensures.ids.1 c.args.conn) (ap (λ (x : LinkView). x.local) told.own) (ap (λ (x : LinkView). x.peer) told.own) (ap (λ (x : LinkView). x.among) told.own) (ap (λ (x : LinkView). x.taken) told.own) (ap (λ (x : LinkView). x.sent) told.own) (ap (λ (x : LinkView). x.ended) told.own)

pub returns-in-Failed-clause-kept : goal.returns-in-Failed-clause-kept
returns-in-Failed-clause-kept g c = λ files tells files_tell marks whole ticks.
    let e = g.E.EventCore in
    let l = g.L.Links in
    let told = c.in-Failed.ensures.told tells c.requires.open in
    kept_passed marks whole (e.seen c.args.core.now) (e.seen c.link_failed.new.core) (l.seen c.args.links.now) (l.seen c.write-output.new.self) files files ticks c.args.conn Always [] []
    (record { terms = c.link_failed.ensures.steady.0; now = c.link_failed.ensures.steady.1; counts = c.link_failed.ensures.counts; views = c.link_failed.ensures.others; wires = λ d ne. told d; used = c.write-output.ensures.ids.0; opens = λ d ne. c.write-output.ensures.ids.1 d; faults = c.write-output.ensures.link_faults; store = grown_same files; crowd = λ e. c.link_failed.ensures.steady.2 ∙ e ∙ sym (c.write-output.ensures.counts tells).0 })
    (λ raceless trees agree. tt) (λ x. c.write-output.ensures.cause c.in-Failed.is) (λ x. absurd x) (λ x. absurd x) (c.write-output.ensures.ids.1 c.args.conn) (ap (λ (x : LinkView). x.local) (told c.args.conn)) (ap (λ (x : LinkView). x.peer) (told c.args.conn)) (ap (λ (x : LinkView). x.taken) (told c.args.conn) ∙ sym (append-nil ((l.seen c.args.links.now).link c.args.conn).taken)) (ap (λ (x : LinkView). x.sent) (told c.args.conn) ∙ sym (append-nil ((l.seen c.args.links.now).link c.args.conn).sent))
    (ends_same ((e.seen c.args.core.now).view c.args.conn) ((e.seen c.link_failed.new.core).view c.args.conn) ((l.seen c.args.links.now).link c.args.conn) ((l.seen c.write-output.new.self).link c.args.conn) c.link_failed.ensures.ended (ap (λ (x : LinkView). x.ended) (told c.args.conn))) c.link_failed.ensures.passed

pub returns-in-NotYet-clause-beside : goal.returns-in-NotYet-clause-beside
returns-in-NotYet-clause-beside g c = λ files clock.
    let l = g.L.Links in
    stand_answered (Written c.args.conn output.NotYet) (g.E.EventCore.seen c.args.core.now).events (l.seen c.args.links.now).answers (l.seen c.write-output.new.self).answers files clock c.in-NotYet.ensures.answers refl
