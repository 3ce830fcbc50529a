use Rattle.std.proofs.Common.{◌∙◌, refl, sym, ap, inl}
use Rattle.ngx_outside.specs.Linked.{LinkView}
use Rattle.link_service.proofs.KeptLemmas.{kept_same, grown_same}
use Rattle.ngx_outside.specs.Records.{Noticed}
use Rattle.ngx_outside.specs.declared.links.Notice.TheVariants as notice
use Rattle.link_service.proofs.BesideLemmas.{stand_answered}
use Rattle.ready_loop.proofs.hear.hear.Goals as goal

pub returns-in-Opened-clause-kept : goal.returns-in-Opened-clause-kept
returns-in-Opened-clause-kept g c = λ files tells marks whole ticks told kept.
    let e = g.E.EventCore in
    let k = g.L.Links in
    let n = c.in-Opened.ensures in
    c.open_link.ensures.kept (n.tells ∙ tells) marks whole (k.seen c.args.links.now) files ticks told
    (record { linked = n.told tells; unused = n.ids.0; marked = n.ids.1; shut = n.ids.2; opened = n.ids.3; later = n.link_faults; crowd = n.crowd tells }) kept

pub returns-in-Readable-clause-kept : goal.returns-in-Readable-clause-kept
returns-in-Readable-clause-kept g c = λ files tells marks whole ticks told.
    let e = g.E.EventCore in
    let k = g.L.Links in
    let n = c.in-Readable.ensures in
    let own = (n.told tells).own in
    kept_same marks whole (e.seen c.args.core.now) (e.seen c.args.core.now) (k.seen c.args.links.now) (k.seen c.next-notice.new.self) files files ticks c.in-Readable.id
    (record { terms = refl; now = refl; counts = inl refl; views = λ d ne. refl; wires = (n.told tells).others; used = n.ids.1; opens = λ d ne. n.ids.2 d; faults = n.link_faults; store = grown_same files; crowd = λ h. h ∙ sym (n.crowd tells) })
    refl (n.ids.2 c.in-Readable.id) (ap (λ (x : LinkView). x.local) own) (ap (λ (x : LinkView). x.peer) own) (ap (λ (x : LinkView). x.among) own) (ap (λ (x : LinkView). x.taken) own) (ap (λ (x : LinkView). x.sent) own) (ap (λ (x : LinkView). x.ended) own)

pub returns-in-Writable-clause-kept : goal.returns-in-Writable-clause-kept
returns-in-Writable-clause-kept g c = λ files tells marks whole ticks told.
    let e = g.E.EventCore in
    let k = g.L.Links in
    let n = c.in-Writable.ensures in
    let own = (n.told tells).own in
    kept_same marks whole (e.seen c.args.core.now) (e.seen c.args.core.now) (k.seen c.args.links.now) (k.seen c.next-notice.new.self) files files ticks c.in-Writable.id
    (record { terms = refl; now = refl; counts = inl refl; views = λ d ne. refl; wires = (n.told tells).others; used = n.ids.1; opens = λ d ne. n.ids.2 d; faults = n.link_faults; store = grown_same files; crowd = λ h. h ∙ sym (n.crowd tells) })
    refl (n.ids.2 c.in-Writable.id) (ap (λ (x : LinkView). x.local) own) (ap (λ (x : LinkView). x.peer) own) (ap (λ (x : LinkView). x.among) own) (ap (λ (x : LinkView). x.taken) own) (ap (λ (x : LinkView). x.sent) own) (ap (λ (x : LinkView). x.ended) own)

pub returns-in-Nothing-clause-kept : goal.returns-in-Nothing-clause-kept
returns-in-Nothing-clause-kept g c = λ files tells marks whole ticks told.
    let e = g.E.EventCore in
    let k = g.L.Links in
    let n = c.in-Nothing.ensures in
    let own = n.told tells 0 in
    kept_same marks whole (e.seen c.args.core.now) (e.seen c.args.core.now) (k.seen c.args.links.now) (k.seen c.next-notice.new.self) files files ticks 0
    (record { terms = refl; now = refl; counts = inl refl; views = λ d ne. refl; wires = λ d ne. n.told tells d; used = n.ids.0; opens = λ d ne. n.ids.1 d; faults = n.link_faults; store = grown_same files; crowd = λ h. h ∙ sym (n.crowd tells) })
    refl (n.ids.1 0) (ap (λ (x : LinkView). x.local) own) (ap (λ (x : LinkView). x.peer) own) (ap (λ (x : LinkView). x.among) own) (ap (λ (x : LinkView). x.taken) own) (ap (λ (x : LinkView). x.sent) own) (ap (λ (x : LinkView). x.ended) own)

pub returns-in-Ended-clause-kept : goal.returns-in-Ended-clause-kept
returns-in-Ended-clause-kept g c = λ files tells marks whole ticks told.
    let e = g.E.EventCore in
    let k = g.L.Links in
    let n = c.in-Ended.ensures in
    let own = n.told tells 0 in
    kept_same marks whole (e.seen c.args.core.now) (e.seen c.args.core.now) (k.seen c.args.links.now) (k.seen c.next-notice.new.self) files files ticks 0
    (record { terms = refl; now = refl; counts = inl refl; views = λ d ne. refl; wires = λ d ne. n.told tells d; used = n.ids.0; opens = λ d ne. n.ids.1 d; faults = n.link_faults; store = grown_same files; crowd = λ h. h ∙ sym (n.crowd tells) })
    refl (n.ids.1 0) (ap (λ (x : LinkView). x.local) own) (ap (λ (x : LinkView). x.peer) own) (ap (λ (x : LinkView). x.among) own) (ap (λ (x : LinkView). x.taken) own) (ap (λ (x : LinkView). x.sent) own) (ap (λ (x : LinkView). x.ended) own)

pub returns-in-Failed-clause-kept : goal.returns-in-Failed-clause-kept
returns-in-Failed-clause-kept g c = λ files tells marks whole ticks told.
    let e = g.E.EventCore in
    let k = g.L.Links in
    let n = c.in-Failed.ensures in
    let own = n.told tells 0 in
    kept_same marks whole (e.seen c.args.core.now) (e.seen c.args.core.now) (k.seen c.args.links.now) (k.seen c.next-notice.new.self) files files ticks 0
    (record { terms = refl; now = refl; counts = inl refl; views = λ d ne. refl; wires = λ d ne. n.told tells d; used = n.ids.0; opens = λ d ne. n.ids.1 d; faults = n.link_faults; store = grown_same files; crowd = λ h. h ∙ sym (n.crowd tells) })
    refl (n.ids.1 0) (ap (λ (x : LinkView). x.local) own) (ap (λ (x : LinkView). x.peer) own) (ap (λ (x : LinkView). x.among) own) (ap (λ (x : LinkView). x.taken) own) (ap (λ (x : LinkView). x.sent) own) (ap (λ (x : LinkView). x.ended) own)

pub returns-in-Nothing-clause-beside : goal.returns-in-Nothing-clause-beside
returns-in-Nothing-clause-beside g c = λ files clock.
    let k = g.L.Links in
    stand_answered (Noticed notice.Nothing) (g.E.EventCore.seen c.args.core.now).events (k.seen c.args.links.now).answers (k.seen c.next-notice.new.self).answers files clock c.in-Nothing.ensures.answers refl

pub returns-in-Ended-clause-beside : goal.returns-in-Ended-clause-beside
returns-in-Ended-clause-beside g c = λ files clock.
    let k = g.L.Links in
    stand_answered (Noticed notice.Ended) (g.E.EventCore.seen c.args.core.now).events (k.seen c.args.links.now).answers (k.seen c.next-notice.new.self).answers files clock c.in-Ended.ensures.answers refl

pub returns-in-Failed-clause-beside : goal.returns-in-Failed-clause-beside
returns-in-Failed-clause-beside g c = λ files clock.
    let k = g.L.Links in
    stand_answered (Noticed notice.Failed) (g.E.EventCore.seen c.args.core.now).events (k.seen c.args.links.now).answers (k.seen c.next-notice.new.self).answers files clock c.in-Failed.ensures.answers refl
