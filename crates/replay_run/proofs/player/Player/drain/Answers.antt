use Rattle.std.proofs.Common.{◌≡◌, ◌∙◌, get_or, refl, sym, subst, arith}
use Rattle.ngx_outside.specs.Seen.{Terms}
use Rattle.replay_run.specs.Told.{told_of}
use Rattle.replay_run.specs.Scene.{stage, AreHeld, DrainsOne}
use Rattle.replay_run.proofs.Drains.{some_begun, some_more, all_drained}
use Rattle.replay_run.proofs.player.Player.drain.Goals as goal

pub loop-conn-init : goal.loop-conn-init
loop-conn-init g c =
    let e = g.E.EventCore in
    record {
      terms = refl;
      newest = c.requires.newest;
      sure = c.requires.sure;
      told = refl;
      drained = some_begun (e.seen c.args.core.now).terms.fresh (told_of c.args.files.now) c.as_slice-conn-items.result.now (stage (e.seen c.args.core.now).view (e.seen c.args.core.now).now c.args.self.now.lanes.items);
    }

pub loop-conn-preserved : goal.loop-conn-preserved
loop-conn-preserved g c =
    let e = g.E.EventCore in
    let i = c.loop-conn.invariant in
    let s = c.in_ok-drain_one.ensures in
    let conns = c.as_slice-conn-items.result.now in
    let conn = get_or conns c.loop-conn.conn-index 0 in
    let old = stage (e.seen c.args.core.now).view (e.seen c.args.core.now).now c.args.self.now.lanes.items in
    let mid = stage (e.seen c.loop-conn.core).view (e.seen c.loop-conn.core).now c.loop-conn.self.lanes.items in
    let new = stage (e.seen c.drain_one.new.core).view (e.seen c.drain_one.new.core).now c.drain_one.new.self.lanes.items in
    let listed : conns ≡ (e.seen c.args.core.now).conns = c.as_slice-conn-items.ensures.value ∙ c.in_ok-conns.ensures ∙ c.conns.ensures.conns in
    let held : AreHeld conns old.view = subst (λ l. AreHeld l old.view) (sym listed) (record { order = c.conns.ensures.order; held = c.conns.ensures.held }) in
    record {
      terms = s.steady ∙ i.terms;
      newest = s.newest;
      sure = s.sure;
      told = s.told ∙ i.told;
      drained = some_more (e.seen c.args.core.now).terms.fresh (told_of c.args.files.now) conns c.loop-conn.conn-index old mid new held c.loop-conn-test.true i.drained
          (subst (λ t. DrainsOne (e.seen c.args.core.now).terms.fresh t conn mid new) i.told
          (subst (λ (t : Terms). DrainsOne t.fresh (told_of c.loop-conn.files) conn mid new) i.terms s.drains))
          s.rests;
    }

pub returns-clause-drains : goal.returns-clause-drains
returns-clause-drains g c =
    let e = g.E.EventCore in
    let conns = c.as_slice-conn-items.result.now in
    let old = stage (e.seen c.args.core.now).view (e.seen c.args.core.now).now c.args.self.now.lanes.items in
    let new = stage (e.seen c.loop-conn.core).view (e.seen c.loop-conn.core).now c.loop-conn.self.lanes.items in
    let listed : conns ≡ (e.seen c.args.core.now).conns = c.as_slice-conn-items.ensures.value ∙ c.in_ok-conns.ensures ∙ c.conns.ensures.conns in
    let held : AreHeld conns old.view = subst (λ l. AreHeld l old.view) (sym listed) (record { order = c.conns.ensures.order; held = c.conns.ensures.held }) in
    all_drained (e.seen c.args.core.now).terms.fresh (told_of c.args.files.now) conns c.loop-conn.conn-index old new held (omega (arith, c.loop-conn-test.false)) c.loop-conn.invariant.drained
