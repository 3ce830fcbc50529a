use Rattle.std.proofs.Common.{◌≡◌, length, sym, ap, ◌∙◌, arith}
use Rattle.ngx_outside.specs.Views.{ConnView}
use Rattle.http_connection.specs.Conn.{view_of}
use Rattle.http_connection.specs.Rests.{Serves}
use Rattle.connection_core.specs.Table.{serves_with}
use Rattle.connection_core.proofs.Held.{seat_at, seen, unseen, here_is, stands_in, belongs_in}
use Rattle.connection_core.proofs.Ends.{cut_rising, cut_steps, cut_known, keeps_open}
use Rattle.connection_core.proofs.Keeping.{cut_keep}
use Rattle.connection_core.proofs.Ticks.{cut_later}
use Rattle.connection_core.proofs.Reached.{cut_reached}
use Rattle.connection_core.proofs.table.Table.close.Goals as goal

pub returns-then-not-is_shut-clause-steps : goal.returns-then-not-is_shut-clause-steps
returns-then-not-is_shut-clause-steps c = λ patterns now.
    let t = c.args.self.now in
    let x : Serves = serves_with patterns t.served in
    let even : length t.conns.items ≡ length t.ids.items = omega (arith, t.paired, t.ids.ok.0, t.conns.ok.0) in
    let s = seat_at c.args.conn c.in-Ok.at t.ids.items t.conns.items (stands_in c.args.conn c.in-Ok.at c.as_slice.result.now t.ids.items c.as_slice.ensures.value c.in-Ok.ensures) even in
    let here = here_is c.in-Ok.at t.conns.items s.placed c.index.result.now c.index.ensures in
    keeps_open x c.args.conn t.ids.items t.conns.items now
    (ap (λ (v : ConnView). v.shut) (seen x c.args.conn c.in-Ok.at t.ids.items t.conns.items s ∙ ap (view_of x) (sym here)) ∙ sym c.is_shut.ensures ∙ c.if-not-is_shut.true)

pub returns-else-not-is_shut-clause-steps : goal.returns-else-not-is_shut-clause-steps
returns-else-not-is_shut-clause-steps c = λ patterns now.
    let t = c.args.self.now in
    let x : Serves = serves_with patterns t.served in
    let even : length t.conns.items ≡ length t.ids.items = omega (arith, t.paired, t.ids.ok.0, t.conns.ok.0) in
    let stands = stands_in c.args.conn c.in-Ok.at c.as_slice.result.now t.ids.items c.as_slice.ensures.value c.in-Ok.ensures in
    let s = seat_at c.args.conn c.in-Ok.at t.ids.items t.conns.items stands even in
    let here = here_is c.in-Ok.at t.conns.items s.placed c.index.result.now c.index.ensures in
    cut_steps x c.args.conn c.in-Ok.at t.ids.items c.take_out.new.items.items t.conns.items c.take_out-in-Ok.new.items.items s c.take_out.ensures.items c.take_out-in-Ok.ensures.items
    (ap (λ conn. (view_of x conn).shut) (sym here) ∙ sym c.is_shut.ensures ∙ c.if-not-is_shut.false) now 0

pub returns-in-Err-clause-steps : goal.returns-in-Err-clause-steps
returns-in-Err-clause-steps c = λ patterns now.
    let t = c.args.self.now in
    let x : Serves = serves_with patterns t.served in
    keeps_open x c.args.conn t.ids.items t.conns.items now
    (ap (λ (v : ConnView). v.shut) (unseen x c.args.conn c.in-Err.field-0 t.ids.items t.conns.items (belongs_in c.args.conn c.in-Err.field-0 c.as_slice.result.now t.ids.items c.as_slice.ensures.value c.in-Err.ensures)))

pub returns-else-not-is_shut-clause-known : goal.returns-else-not-is_shut-clause-known
returns-else-not-is_shut-clause-known c = λ tree known.
    let t = c.args.self.now in
    let even : length t.conns.items ≡ length t.ids.items = omega (arith, t.paired, t.ids.ok.0, t.conns.ok.0) in
    let stands = stands_in c.args.conn c.in-Ok.at c.as_slice.result.now t.ids.items c.as_slice.ensures.value c.in-Ok.ensures in
    let s = seat_at c.args.conn c.in-Ok.at t.ids.items t.conns.items stands even in
    cut_known tree c.args.conn c.in-Ok.at t.ids.items t.conns.items c.take_out-in-Ok.new.items.items s c.take_out-in-Ok.ensures.items known

pub returns-else-not-is_shut-clause-reached : goal.returns-else-not-is_shut-clause-reached
returns-else-not-is_shut-clause-reached c = λ x led.
    let t = c.args.self.now in
    let even : length t.conns.items ≡ length t.ids.items = omega (arith, t.paired, t.ids.ok.0, t.conns.ok.0) in
    let stands = stands_in c.args.conn c.in-Ok.at c.as_slice.result.now t.ids.items c.as_slice.ensures.value c.in-Ok.ensures in
    let s = seat_at c.args.conn c.in-Ok.at t.ids.items t.conns.items stands even in
    cut_reached x c.args.conn c.in-Ok.at t.ids.items t.conns.items c.take_out-in-Ok.new.items.items s c.take_out-in-Ok.ensures.items led

pub invariant_of-self : goal.invariant_of-self
invariant_of-self c =
    let t = c.args.self.now in
    let stands = stands_in c.args.conn c.in-Ok.at c.as_slice.result.now t.ids.items c.as_slice.ensures.value c.in-Ok.ensures in
    let even : length t.conns.items ≡ length t.ids.items = omega (arith, t.paired, t.ids.ok.0, t.conns.ok.0) in
    let s = seat_at c.args.conn c.in-Ok.at t.ids.items t.conns.items stands even in
    record {
      later = cut_later t.soon c.args.conn c.in-Ok.at t.ids.items t.conns.items c.take_out-in-Ok.new.items.items s c.take_out-in-Ok.ensures.items t.later;
      keeping = cut_keep t.keeps c.args.conn c.in-Ok.at t.ids.items t.conns.items c.take_out-in-Ok.new.items.items s c.take_out-in-Ok.ensures.items t.keeping;
      rising = cut_rising c.args.conn c.in-Ok.at t.ids.items c.take_out.new.items.items stands c.take_out.ensures.items t.rising;
      paired = omega (arith, t.paired, c.take_out.ensures.len, c.take_out-in-Ok.ensures.len);
    }
