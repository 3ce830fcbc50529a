use Rattle.std.proofs.Common.{length, ap, sym, ◌∙◌}
use Rattle.std.specs.Prelude.{is_some}
use Rattle.response_flow.specs.subrequests.Wants.{is_among}
use Rattle.http_connection.specs.Conn.{starts_at}
use Rattle.http_connection.proofs.Readies.{flying_ready, is_started, isnt_started, resting_ready}
use Rattle.http_connection.proofs.conn.Conn.is_ready.Goals as goal

pub is_ready-requires : goal.is_ready-requires
is_ready-requires c = (length c.args.self.now.out, c.args.self.now.flying)

pub returns-then-is_some : goal.returns-then-is_some
returns-then-is_some c =
    let s = c.args.self.now in
    c.is_ready.ensures ∙ ap (is_among c.args.node) (flying_ready (is_some s.cause) s.flight s.closing s.out s.body s.next (sym c.is_some.ensures ∙ c.if-is_some.true) s.quit)

pub returns-then-node-eq0 : goal.returns-then-node-eq0
returns-then-node-eq0 c =
    let s = c.args.self.now in
    let starts = starts_at (is_some s.cause) s.closing s.out s.body s.next in
    c.may_start.ensures ∙ is_started starts c.args.node c.if-node-eq0.true
    ∙ ap (is_among c.args.node) (resting_ready (is_some s.cause) s.flight s.closing s.out s.body s.next (sym c.is_some.ensures ∙ c.if-is_some.false))

pub returns-else-node-eq0 : goal.returns-else-node-eq0
returns-else-node-eq0 c =
    let s = c.args.self.now in
    let starts = starts_at (is_some s.cause) s.closing s.out s.body s.next in
    isnt_started starts c.args.node c.if-node-eq0.false
    ∙ ap (is_among c.args.node) (resting_ready (is_some s.cause) s.flight s.closing s.out s.body s.next (sym c.is_some.ensures ∙ c.if-is_some.false))
