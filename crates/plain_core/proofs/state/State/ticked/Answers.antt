use Rattle.std.proofs.Common.{ℕ, sym, refl, subst, ◌∙◌}
use Rattle.ngx_outside.specs.Views.{Ticked}
use Rattle.plain_core.specs.Shown.{shown}
use Rattle.plain_core.specs.Held.{at_conn}
use Rattle.plain_core.proofs.HeldLaws.{tick_step, kept_is}
use Rattle.plain_core.proofs.state.State.ticked.Goals as goal

pub returns-clause-steps : goal.returns-clause-steps
returns-clause-steps c = λ k.
    let s = c.args.self.now in
    subst (λ (m : ℕ). Ticked m (at_conn s.number (shown s.conn) k) (at_conn s.number (shown c.tick.new.self) k)) (c.min-kept.ensures ∙ sym (kept_is c.args.now))
    (tick_step s.number k c.min-kept.result (shown s.conn) (shown c.tick.new.self) c.tick.ensures.ticked)

pub returns-clause-now : goal.returns-clause-now
returns-clause-now c = (c.min-kept.ensures ∙ sym (kept_is c.args.now), refl)
