use Rattle.std.proofs.Common.{◌≡◌, ℕ, length, refl, sym, ap, ◌∙◌, subst, arith}
use Rattle.ngx_outside.specs.Views.{Start, Steps, Ticked, LeftBy, kept_moment, OpensIf, CountsHeld, CountsRefused, TakesNone, now_after, ended_after, nobody}
use Rattle.ngx_outside.specs.declared.event.StepAnswer.TheVariants.{Done}
use Rattle.ngx_outside.specs.Seen.{opens_at}
use Rattle.connection_core.specs.Core.{serves_at, view_at, fresh_at, now_at, left_at, price_at, seen_at}
use Rattle.connection_core.specs.Table.{serves_with, view_in, left_in, AllTicked}
use Rattle.connection_core.proofs.Ticks.{ticked_in, ticked_ended, ticked_left, ticked_known}
use Rattle.connection_core.proofs.Ends.{known_later, opens_as}
use Rattle.connection_core.proofs.Reached.{ticked_reached}
use Rattle.connection_core.proofs.Told.{told_still, reached_still}
use Rattle.connection_core.proofs.Steps.{kept_is, gone_counts, ended_opened, ended_gone}
use Rattle.connection_core.proofs.hub.HubEventCore.step.Goals as goal

pub returns-in-Opened-clause-steps : goal.returns-in-Opened-clause-steps
returns-in-Opened-clause-steps c =
    let h = c.args.self.now in
    let n = c.open-answer.new.self in
    subst (λ e. Steps (fresh_at h) (now_at h) e c.open-answer.result (view_at h) (view_in (serves_with h.space.patterns n.served) n.ids.items n.conns.items)) (sym c.in-Opened.is) (c.open-answer.ensures.steps h.space.patterns (now_at h))

pub returns-in-Opened-clause-opens : goal.returns-in-Opened-clause-opens
returns-in-Opened-clause-opens c =
    let h = c.args.self.now in
    let t = h.table in
    subst (λ e. OpensIf (opens_at (seen_at h)) e c.open-answer.result) (sym c.in-Opened.is)
    (opens_as (serves_at h) t.ids.items t.conns.items (omega (arith, t.paired, t.ids.ok.0, t.conns.ok.0)) c.in-Opened.conn c.in-Opened.local c.in-Opened.peer c.open-answer.result (c.open-answer.ensures.opens h.space.patterns))

pub returns-in-Opened-clause-held : goal.returns-in-Opened-clause-held
returns-in-Opened-clause-held c =
    let h = c.args.self.now in
    let n = c.open-answer.new.self in
    subst (λ e. CountsHeld e c.open-answer.result (length h.table.ids.items) (length n.ids.items)) (sym c.in-Opened.is) c.open-answer.ensures.held

pub returns-in-Gone-clause-held : goal.returns-in-Gone-clause-held
returns-in-Gone-clause-held c =
    let h = c.args.self.now in
    let n = c.close.new.self in
    subst (λ e. CountsHeld e c.close.result (length h.table.ids.items) (length n.ids.items)) (sym c.in-Gone.is) c.close.ensures.held

pub returns-in-Opened-clause-ended : goal.returns-in-Opened-clause-ended
returns-in-Opened-clause-ended c =
    let h = c.args.self.now in
    let n = c.open-answer.new.self in
    subst (λ e. (q : ℕ) → (view_in (serves_with h.space.patterns n.served) n.ids.items n.conns.items q).ended ≡ ended_after e c.open-answer.result q (view_at h q).ended) (sym c.in-Opened.is)
    (ended_opened _ (now_at h) c.in-Opened.conn c.in-Opened.local c.in-Opened.peer c.open-answer.result (view_at h) (view_in (serves_with h.space.patterns n.served) n.ids.items n.conns.items) (λ q. (c.cores_are_sound.ensures h q).sound) (c.open-answer.ensures.steps h.space.patterns (now_at h)))

pub returns-in-Opened-clause-taken : goal.returns-in-Opened-clause-taken
returns-in-Opened-clause-taken c = subst (λ e. TakesNone e c.open-answer.result) (sym c.in-Opened.is) c.open-answer.ensures.taken

pub returns-in-Gone-clause-ended : goal.returns-in-Gone-clause-ended
returns-in-Gone-clause-ended c =
    let h = c.args.self.now in
    let n = c.close.new.self in
    subst (λ e. (q : ℕ) → (view_in (serves_with h.space.patterns n.served) n.ids.items n.conns.items q).ended ≡ ended_after e c.close.result q (view_at h q).ended) (sym c.in-Gone.is)
    (ended_gone nobody.course (now_at h) c.in-Gone.conn c.close.result (view_at h) (view_in (serves_with h.space.patterns n.served) n.ids.items n.conns.items) (c.close.ensures.steps h.space.patterns (now_at h)))

pub returns-in-Gone-clause-taken : goal.returns-in-Gone-clause-taken
returns-in-Gone-clause-taken c = subst (λ e. TakesNone e c.close.result) (sym c.in-Gone.is) c.close.ensures.taken

pub returns-in-Tick-clause-steps : goal.returns-in-Tick-clause-steps
returns-in-Tick-clause-steps c =
    let h = c.args.self.now in
    let t = h.table in
    let n = c.tick.new.self in
    subst (λ e. Steps (fresh_at h) (now_at h) e (Done 0) (view_at h) (view_in (serves_with h.space.patterns n.served) n.ids.items n.conns.items)) (sym c.in-Tick.is) (λ q.
    subst (λ s. Ticked (kept_moment c.in-Tick.now) (view_at h q) (view_in (serves_with h.space.patterns s) n.ids.items n.conns.items q)) (sym c.tick.ensures.served)
    (subst (λ l. Ticked (kept_moment c.in-Tick.now) (view_at h q) (view_in (serves_at h) l n.conns.items q)) (sym c.tick.ensures.ids)
    (ticked_in (serves_at h) t.ids.items t.conns.items n.conns.items (kept_moment c.in-Tick.now) (subst (λ m. AllTicked m t.conns.items n.conns.items) (c.min-moment.ensures ∙ kept_is c.in-Tick.now) c.tick.ensures.ticked) q)))

pub returns-in-Tick-clause-ended : goal.returns-in-Tick-clause-ended
returns-in-Tick-clause-ended c =
    let h = c.args.self.now in
    let t = h.table in
    let n = c.tick.new.self in
    subst (λ e. (q : ℕ) → (view_in (serves_with h.space.patterns n.served) n.ids.items n.conns.items q).ended ≡ ended_after e (Done 0) q (view_at h q).ended) (sym c.in-Tick.is) (λ q.
    subst (λ s. (view_in (serves_with h.space.patterns s) n.ids.items n.conns.items q).ended ≡ (view_at h q).ended) (sym c.tick.ensures.served)
    (subst (λ l. (view_in (serves_at h) l n.conns.items q).ended ≡ (view_at h q).ended) (sym c.tick.ensures.ids)
    (ticked_ended (serves_at h) t.ids.items t.conns.items n.conns.items c.min-moment.result c.tick.ensures.ticked q)))

pub returns-in-Tick-clause-left : goal.returns-in-Tick-clause-left
returns-in-Tick-clause-left c =
    let h = c.args.self.now in
    let n = c.tick.new.self in
    subst (λ e. LeftBy (price_at h) e (Done 0) (left_at h) (left_in n.conns.items)) (sym c.in-Tick.is) (ticked_left c.min-moment.result h.table.conns.items n.conns.items c.tick.ensures.ticked)

pub returns-in-Tick-clause-held : goal.returns-in-Tick-clause-held
returns-in-Tick-clause-held c =
    let h = c.args.self.now in
    let n = c.tick.new.self in
    subst (λ e. CountsHeld e (Done 0) (length h.table.ids.items) (length n.ids.items)) (sym c.in-Tick.is) (ap length c.tick.ensures.ids)

pub tick-requires : goal.tick-requires
tick-requires c = let e = c.min-moment.ensures in omega (arith, e)

pub invariant_of-self-in-Tick : goal.invariant_of-self-in-Tick
invariant_of-self-in-Tick c =
    let h = c.args.self.now in
    let n = c.tick.new.self in
    record {
      known = ticked_known h.tree c.min-moment.result h.table.conns.items n.conns.items c.tick.ensures.ticked h.known;
      told = told_still h.space.patterns h.space.patterns h.table.served n.served refl c.tick.ensures.served h.told;
      reached = reached_still h.space.patterns h.space.patterns h.table.served n.served n.conns.items refl c.tick.ensures.served (ticked_reached (serves_at h) c.min-moment.result h.table.conns.items n.conns.items c.tick.ensures.ticked h.reached);
    }

pub returns-in-Tick-clause-now : goal.returns-in-Tick-clause-now
returns-in-Tick-clause-now c =
    let h = c.args.self.now in
    ap (λ (m : ℕ). let s : Start = record { moment = m; tree = h.tree } in s) (c.min-moment.ensures ∙ kept_is c.in-Tick.now) ∙ ap (λ e. now_after (now_at h) e (Done 0)) (sym c.in-Tick.is)

pub returns-in-Gone-clause-steps : goal.returns-in-Gone-clause-steps
returns-in-Gone-clause-steps c =
    let h = c.args.self.now in
    let n = c.close.new.self in
    subst (λ e. Steps (fresh_at h) (now_at h) e c.close.result (view_at h) (view_in (serves_with h.space.patterns n.served) n.ids.items n.conns.items)) (sym c.in-Gone.is) (c.close.ensures.steps h.space.patterns (now_at h))

pub returns-in-Gone-clause-refused : goal.returns-in-Gone-clause-refused
returns-in-Gone-clause-refused c =
    let h = c.args.self.now in
    let n = c.close.new.self in
    subst (λ e. CountsRefused e c.close.result h.refused h.refused) (sym c.in-Gone.is) (gone_counts nobody.course (now_at h) c.in-Gone.conn c.close.result h.refused (view_at h) (view_in (serves_with h.space.patterns n.served) n.ids.items n.conns.items) (c.close.ensures.steps h.space.patterns (now_at h)))

pub invariant_of-self : goal.invariant_of-self
invariant_of-self c =
    let h = c.args.self.now in
    let n = c.open-answer.new.self in
    record {
      known = c.open-answer.ensures.known h.tree h.known;
      told = told_still h.space.patterns h.space.patterns h.table.served n.served refl c.open-answer.ensures.served h.told;
      reached = reached_still h.space.patterns h.space.patterns h.table.served n.served n.conns.items refl c.open-answer.ensures.served (c.open-answer.ensures.reached (serves_at h) h.reached);
    }

pub invariant_of-self-in-Tree : goal.invariant_of-self-in-Tree
invariant_of-self-in-Tree c =
    let h = c.args.self.now in
    record {
      known = known_later h.tree c.in-Tree.to h.table.conns.items (omega (arith, c.if-to-self.false)) h.known;
      told = h.told;
      reached = h.reached;
    }

pub invariant_of-self-in-Gone-1 : goal.invariant_of-self-in-Gone-1
invariant_of-self-in-Gone-1 c =
    let h = c.args.self.now in
    let n = c.close.new.self in
    record {
      known = c.close.ensures.known h.tree h.known;
      told = told_still h.space.patterns h.space.patterns h.table.served n.served refl c.close.ensures.served h.told;
      reached = reached_still h.space.patterns h.space.patterns h.table.served n.served n.conns.items refl c.close.ensures.served (c.close.ensures.reached (serves_at h) h.reached);
    }

pub returns-in-Arrived-clause-steps : goal.returns-in-Arrived-clause-steps
returns-in-Arrived-clause-steps c = c.own.ensures.steps (fresh_at c.args.self.now)
