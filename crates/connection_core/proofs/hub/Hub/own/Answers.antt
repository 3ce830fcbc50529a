use Rattle.ngx_outside.specs.Views.{nobody}
use Rattle.connection_core.specs.Core.{now_at, view_at}
use Rattle.connection_core.specs.Table.{serves_with, view_in}
use Rattle.connection_core.proofs.Steps.{steps_own, ended_own}
use Rattle.connection_core.proofs.Told.{told_still, reached_still}
use Rattle.connection_core.proofs.hub.Hub.own.Goals as goal

pub returns-clause-steps : goal.returns-clause-steps
returns-clause-steps c = λ fresh.
    let h = c.args.self.now in
    let n = c.own-answer.new in
    steps_own fresh (now_at h) c.args.event.now c.own-answer.result c.args.conn (view_at h) (view_in (serves_with n.space.patterns n.self.served) n.self.ids.items n.self.conns.items) c.requires.own c.requires.conn (c.own-answer.ensures.steps h.told h.reached)

pub returns-clause-ended : goal.returns-clause-ended
returns-clause-ended c =
    let h = c.args.self.now in
    let n = c.own-answer.new in
    ended_own nobody.course (now_at h) c.args.event.now c.own-answer.result c.args.conn (view_at h) (view_in (serves_with n.space.patterns n.self.served) n.self.ids.items n.self.conns.items) c.requires.own c.requires.conn (c.own-answer.ensures.steps h.told h.reached) c.own-answer.ensures.ended

pub invariant_of-self : goal.invariant_of-self
invariant_of-self c =
    let h = c.args.self.now in
    let n = c.own-answer.new in
    record {
      known = c.own-answer.ensures.known h.known;
      told = told_still h.space.patterns n.space.patterns h.table.served n.self.served c.own-answer.ensures.patterns c.own-answer.ensures.served h.told;
      reached = reached_still h.space.patterns n.space.patterns h.table.served n.self.served n.self.conns.items c.own-answer.ensures.patterns c.own-answer.ensures.served (c.own-answer.ensures.reached h.reached);
    }
