use Rattle.std.proofs.Common.{length, ap, sym, ◌∙◌}
use Rattle.std.specs.Prelude.{is_some}
use Rattle.response_flow.specs.subrequests.Wants.{first_of}
use Rattle.http_connection.specs.Conn.{starts_at}
use Rattle.http_connection.proofs.Readies.{first_starts, flying_ready, none_starts, resting_ready}
use Rattle.http_connection.proofs.conn.Conn.first_ready.Goals as goal

pub first_ready-requires : goal.first_ready-requires
first_ready-requires c = (length c.args.self.now.out, c.args.self.now.flying)

pub returns-then-is_some : goal.returns-then-is_some
returns-then-is_some c =
    let s = c.args.self.now in
    c.first_ready.ensures ∙ ap first_of (flying_ready (is_some s.cause) s.flight s.closing s.out s.body s.next (sym c.is_some.ensures ∙ c.if-is_some.true) s.quit)

pub returns-then-may_start : goal.returns-then-may_start
returns-then-may_start c =
    let s = c.args.self.now in
    first_starts (starts_at (is_some s.cause) s.closing s.out s.body s.next) (sym c.may_start.ensures ∙ c.if-may_start.true) ∙ ap first_of (resting_ready (is_some s.cause) s.flight s.closing s.out s.body s.next (sym c.is_some.ensures ∙ c.if-is_some.false))

pub returns : goal.returns
returns c =
    let s = c.args.self.now in
    none_starts (starts_at (is_some s.cause) s.closing s.out s.body s.next) (sym c.may_start.ensures ∙ c.if-may_start.false) ∙ ap first_of (resting_ready (is_some s.cause) s.flight s.closing s.out s.body s.next (sym c.is_some.ensures ∙ c.if-is_some.false))
