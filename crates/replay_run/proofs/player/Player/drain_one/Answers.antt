use Rattle.std.proofs.Common.{◌≡◌, ◌∙◌, refl, sym, ap, subst, Some}
use Rattle.ngx_outside.specs.Wants.{wants_at}
use Rattle.ngx_outside.specs.Seen.{Terms}
use Rattle.ngx_outside.specs.Views.{Start}
use Rattle.replay_run.specs.Told.{Told, told_of}
use Rattle.replay_run.specs.Scene.{stage, lane_in, first_served, Serves}
use Rattle.replay_run.proofs.Numbers.{serves_now}
use Rattle.replay_run.proofs.Wanted.{served_wanted, served_is}
use Rattle.replay_run.proofs.Drains.{drains_none, drains_then}
use Rattle.replay_run.proofs.player.Player.drain_one.Goals as goal

pub loop-want-init : goal.loop-want-init
loop-want-init g c =
    let e = g.E.EventCore in
    record {
      terms = refl;
      newest = c.requires.newest;
      sure = c.requires.sure;
      told = refl;
      drains = drains_none (e.seen c.args.core.now).terms.fresh (told_of c.args.files.now) c.args.conn (stage (e.seen c.args.core.now).view (e.seen c.args.core.now).now c.args.self.now.lanes.items);
    }

pub serve-requires-clause-wanted : goal.serve-requires-clause-wanted
serve-requires-clause-wanted g c =
    served_wanted (g.E.EventCore.seen c.loop-want.core).view c.args.conn (lane_in c.loop-want.self.lanes.items) c.in-Some.want
    (ap (λ l. first_served (lane_in l) (wants_at c.args.conn ((g.E.EventCore.seen c.loop-want.core).view c.args.conn))) (sym c.deref.ensures.value) ∙ sym c.next_served.ensures ∙ c.in-Some.is)

pub serve-requires-clause-served : goal.serve-requires-clause-served
serve-requires-clause-served g c =
    let wants = wants_at c.args.conn ((g.E.EventCore.seen c.loop-want.core).view c.args.conn) in
    served_is (lane_in c.loop-want.self.lanes.items) wants c.in-Some.want
    (ap (λ l. first_served (lane_in l) wants) (sym c.deref.ensures.value) ∙ sym c.next_served.ensures ∙ c.in-Some.is)

pub loop-want-preserved : goal.loop-want-preserved
loop-want-preserved g c =
    let e = g.E.EventCore in
    let lanes = c.loop-want.self.lanes.items in
    let wants = wants_at c.args.conn ((e.seen c.loop-want.core).view c.args.conn) in
    let old = stage (e.seen c.args.core.now).view (e.seen c.args.core.now).now c.args.self.now.lanes.items in
    let mid = stage (e.seen c.loop-want.core).view (e.seen c.loop-want.core).now lanes in
    let new = stage (e.seen c.serve.new.core).view (e.seen c.serve.new.core).now c.serve.new.self.lanes.items in
    let served : first_served (lane_in lanes) wants ≡ Some c.in-Some.want =
    ap (λ l. first_served (lane_in l) wants) (sym c.deref.ensures.value) ∙ sym c.next_served.ensures ∙ c.in-Some.is in
    record {
      terms = c.in_ok-serve.ensures.steady ∙ c.loop-want.invariant.terms;
      newest = ap (λ (t : Told). t.newest) c.in_ok-serve.ensures.told ∙ c.loop-want.invariant.newest ∙ sym (ap (λ (s : Start). s.tree) (serves_now (e.seen c.loop-want.core).terms.fresh (told_of c.loop-want.files) c.in-Some.want mid new c.in_ok-serve.ensures.serves));
      sure = c.in_ok-serve.ensures.sure;
      told = c.in_ok-serve.ensures.told ∙ c.loop-want.invariant.told;
      drains = drains_then (e.seen c.args.core.now).terms.fresh (told_of c.args.files.now) c.args.conn old mid new c.in-Some.want c.loop-want.invariant.drains served
          (subst (λ t. Serves (e.seen c.args.core.now).terms.fresh t c.in-Some.want mid new) c.loop-want.invariant.told
          (subst (λ (t : Terms). Serves t.fresh (told_of c.loop-want.files) c.in-Some.want mid new) c.loop-want.invariant.terms c.in_ok-serve.ensures.serves));
    }

pub returns-clause-rests : goal.returns-clause-rests
returns-clause-rests g c =
    ap (λ l. first_served (lane_in l) (wants_at c.args.conn ((g.E.EventCore.seen c.loop-want.core).view c.args.conn))) (sym c.deref.ensures.value) ∙ sym c.next_served.ensures ∙ c.in_default.is
