use Rattle.std.proofs.Common.{◌∙◌, sym, ap}
use Rattle.ngx_outside.specs.Wants.{wants_at, first_doable}
use Rattle.connection_core.specs.Core.{serves_at}
use Rattle.connection_core.proofs.Shown.{sound_in}
use Rattle.connection_core.proofs.Ends.{no_wants}
use Rattle.connection_core.proofs.hub.HubEventCore.next_want.Goals as goal

pub returns-in-Some-clause-want : goal.returns-in-Some-clause-want
returns-in-Some-clause-want c =
    c.next_want.ensures (serves_at c.args.self.now)
    ∙ ap (λ v. first_doable c.args.due c.args.full (wants_at c.args.conn v)) (sym c.in-Some.ensures.view)

pub returns-in-None-clause-want : goal.returns-in-None-clause-want
returns-in-None-clause-want c =
    sym (ap (λ v. first_doable c.args.due c.args.full (wants_at c.args.conn v)) c.in-None.ensures.view ∙ no_wants c.args.conn c.args.due c.args.full)

pub returns-in-Some-clause-sound : goal.returns-in-Some-clause-sound
returns-in-Some-clause-sound c =
    let h = c.args.self.now in
    let t = h.table in
    sound_in c.connections_are_sound.ensures (serves_at h) t.ids.items t.conns.items c.args.conn

pub returns-in-None-clause-sound : goal.returns-in-None-clause-sound
returns-in-None-clause-sound c =
    let h = c.args.self.now in
    let t = h.table in
    sound_in c.connections_are_sound.ensures (serves_at h) t.ids.items t.conns.items c.args.conn
