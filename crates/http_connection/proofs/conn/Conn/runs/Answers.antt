use Rattle.std.proofs.Common.{◌≡◌, true, false, inl, refl, sym, subst, ◌∙◌, arith}
use Rattle.std.specs.Prelude.{is_some}
use Rattle.ngx_outside.specs.Views.{Start}
use Rattle.ngx_outside.specs.declared.event.Event.TheVariants.{Run}
use Rattle.http_connection.specs.Rests.{Serves}
use Rattle.http_connection.specs.Conn.{StepsConn, TimesConn, ready_at}
use Rattle.http_connection.proofs.Readies.{contains_ready, is_none_of, starts_ready}
use Rattle.http_connection.proofs.conn.Conn.runs.Goals as goal

pub returns-then-not-is_ready-clause-steps : goal.returns-then-not-is_ready-clause-steps
returns-then-not-is_ready-clause-steps c = λ conn.
    let s = c.args.self.now in
    record {
      own = λ tells led course. record {
        same = refl;
        cause = λ has.
            let among = contains_ready (ready_at (is_some s.cause) s.flight s.closing s.out s.body s.next) c.args.node has in
            let never : false ≡ true = sym c.if-not-is_ready.true ∙ c.is_ready.ensures ∙ among in
            cc;
      };
      reached = λ led. led;
      left = refl;
      ended = refl;
      taken = tt;
      asked = inl (omega arith);
      keeps = refl;
      tail = refl;
    }

pub returns-then-is_some-clause-steps : goal.returns-then-is_some-clause-steps
returns-then-is_some-clause-steps c = c.goes_on.ensures.steps (record { moment = c.args.moment; tree = c.args.tree })

pub starts_one-requires-clause-none : goal.starts_one-requires-clause-none
starts_one-requires-clause-none c = is_none_of c.args.self.now.flight (sym c.is_some.ensures ∙ c.if-is_some.false)

pub starts_one-requires-clause-ready : goal.starts_one-requires-clause-ready
starts_one-requires-clause-ready c =
    let s = c.args.self.now in
    (starts_ready (is_some s.cause) s.flight s.closing s.out s.body s.next c.args.node (is_none_of s.flight (sym c.is_some.ensures ∙ c.if-is_some.false)) (sym c.is_ready.ensures ∙ c.if-not-is_ready.false)).0

pub goes_on-requires-clause-ready : goal.goes_on-requires-clause-ready
goes_on-requires-clause-ready c = sym c.is_ready.ensures ∙ c.if-not-is_ready.false

pub returns-else-is_some-clause-steps : goal.returns-else-is_some-clause-steps
returns-else-is_some-clause-steps c = λ conn.
    let s = c.args.self.now in
    let now : Start = record { moment = c.args.moment; tree = c.args.tree } in
    let x : Serves = record { patterns = c.args.space.now.patterns; served = c.args.served.now } in
    let r = starts_ready (is_some s.cause) s.flight s.closing s.out s.body s.next c.args.node (is_none_of s.flight (sym c.is_some.ensures ∙ c.if-is_some.false)) (sym c.is_ready.ensures ∙ c.if-not-is_ready.false) in
    subst (λ n. StepsConn x now (Run conn n) c.starts_one.result c.args.self.now c.starts_one.new.self) r.1 (c.starts_one.ensures.steps conn)

pub returns-else-is_some-clause-times : goal.returns-else-is_some-clause-times
returns-else-is_some-clause-times c = λ conn.
    let s = c.args.self.now in
    let now : Start = record { moment = c.args.moment; tree = c.args.tree } in
    let x : Serves = record { patterns = c.args.space.now.patterns; served = c.args.served.now } in
    let r = starts_ready (is_some s.cause) s.flight s.closing s.out s.body s.next c.args.node (is_none_of s.flight (sym c.is_some.ensures ∙ c.if-is_some.false)) (sym c.is_ready.ensures ∙ c.if-not-is_ready.false) in
    subst (λ n. TimesConn x now (Run conn n) c.starts_one.result c.args.self.now c.starts_one.new.self) r.1 (c.starts_one.ensures.times conn)
