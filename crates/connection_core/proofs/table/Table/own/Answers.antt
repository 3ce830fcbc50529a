use Rattle.std.proofs.Common.{◌≡◌, ◌≤◌, length, subst, sym, arith}
use Rattle.ngx_outside.specs.Views.{Start, StepsOwn, OneSteps, nobody}
use Rattle.http_connection.specs.Conn.{due_at, ended_by}
use Rattle.http_connection.specs.Times.{soonest}
use Rattle.http_connection.specs.Rests.{Serves}
use Rattle.connection_core.specs.Table.{serves_with, view_in, Placed}
use Rattle.connection_core.proofs.Keeping.{set_keep}
use Rattle.connection_core.proofs.Ticks.{set_later}
use Rattle.connection_core.proofs.Held.{here_is, seat_at, one_steps, one_ended, left_after, none_steps, stands_in, belongs_in}
use Rattle.connection_core.proofs.Ends.{own_known}
use Rattle.connection_core.proofs.Reached.{led_at, own_reached}
use Rattle.connection_core.proofs.table.Table.own.Goals as goal

pub happen_at-answer-requires : goal.happen_at-answer-requires
happen_at-answer-requires c =
    let t = c.args.self.now in
    let even : length t.conns.items ≡ length t.ids.items = omega (arith, t.paired, t.ids.ok.0, t.conns.ok.0) in
    record { placed = (seat_at c.args.conn c.in-Ok.at t.ids.items t.conns.items (stands_in c.args.conn c.in-Ok.at c.as_slice.result.now t.ids.items c.as_slice.ensures.value c.in-Ok.ensures) even).placed }

pub returns-in-Ok-clause-steps : goal.returns-in-Ok-clause-steps
returns-in-Ok-clause-steps c = λ told led.
    let t = c.args.self.now in
    let even : length t.conns.items ≡ length t.ids.items = omega (arith, t.paired, t.ids.ok.0, t.conns.ok.0) in
    let s = seat_at c.args.conn c.in-Ok.at t.ids.items t.conns.items (stands_in c.args.conn c.in-Ok.at c.as_slice.result.now t.ids.items c.as_slice.ensures.value c.in-Ok.ensures) even in
    let now : Start = record { moment = c.args.moment; tree = c.args.tree } in
    let x : Serves = serves_with c.args.space.now.patterns t.served in
    let n = c.happen_at-answer.new in
    subst (λ p. OneSteps c.args.conn (StepsOwn nobody.course now c.args.event.now c.happen_at-answer.result) (view_in x t.ids.items t.conns.items) (view_in (serves_with p t.served) t.ids.items n.conns.items)) (sym c.happen_at-answer.ensures.patterns)
    (one_steps x c.args.conn c.in-Ok.at t.ids.items t.conns.items c.happen_at-answer.new.conns.items now c.args.event.now c.happen_at-answer.result s (c.happen_at-answer.ensures.replaced c.requires.own s.placed) told (led_at x c.args.conn c.in-Ok.at t.ids.items t.conns.items s led) nobody.course)

pub returns-in-Ok-clause-left : goal.returns-in-Ok-clause-left
returns-in-Ok-clause-left c =
    let t = c.args.self.now in
    let even : length t.conns.items ≡ length t.ids.items = omega (arith, t.paired, t.ids.ok.0, t.conns.ok.0) in
    let s = seat_at c.args.conn c.in-Ok.at t.ids.items t.conns.items (stands_in c.args.conn c.in-Ok.at c.as_slice.result.now t.ids.items c.as_slice.ensures.value c.in-Ok.ensures) even in
    let now : Start = record { moment = c.args.moment; tree = c.args.tree } in
    let x : Serves = serves_with c.args.space.now.patterns t.served in
    left_after x c.args.conn c.in-Ok.at t.ids.items t.conns.items c.happen_at-answer.new.conns.items now c.args.event.now c.happen_at-answer.result s c.requires.own (c.happen_at-answer.ensures.replaced c.requires.own s.placed)

pub returns-in-Ok-clause-ended : goal.returns-in-Ok-clause-ended
returns-in-Ok-clause-ended c =
    let t = c.args.self.now in
    let even : length t.conns.items ≡ length t.ids.items = omega (arith, t.paired, t.ids.ok.0, t.conns.ok.0) in
    let s = seat_at c.args.conn c.in-Ok.at t.ids.items t.conns.items (stands_in c.args.conn c.in-Ok.at c.as_slice.result.now t.ids.items c.as_slice.ensures.value c.in-Ok.ensures) even in
    let now : Start = record { moment = c.args.moment; tree = c.args.tree } in
    let x : Serves = serves_with c.args.space.now.patterns t.served in
    let n = c.happen_at-answer.new in
    subst (λ p. (view_in (serves_with p t.served) t.ids.items n.conns.items c.args.conn).ended ≡ ended_by c.args.event.now c.happen_at-answer.result (view_in x t.ids.items t.conns.items c.args.conn).ended) (sym c.happen_at-answer.ensures.patterns)
    (one_ended x c.args.conn c.in-Ok.at t.ids.items t.conns.items c.happen_at-answer.new.conns.items now c.args.event.now c.happen_at-answer.result s (c.happen_at-answer.ensures.replaced c.requires.own s.placed))

pub returns-in-Ok-clause-taken : goal.returns-in-Ok-clause-taken
returns-in-Ok-clause-taken c =
    let t = c.args.self.now in
    let even : length t.conns.items ≡ length t.ids.items = omega (arith, t.paired, t.ids.ok.0, t.conns.ok.0) in
    let s = seat_at c.args.conn c.in-Ok.at t.ids.items t.conns.items (stands_in c.args.conn c.in-Ok.at c.as_slice.result.now t.ids.items c.as_slice.ensures.value c.in-Ok.ensures) even in
    (c.happen_at-answer.ensures.replaced c.requires.own s.placed).does.taken

pub returns-in-Err-clause-steps : goal.returns-in-Err-clause-steps
returns-in-Err-clause-steps c = λ told led.
    let t = c.args.self.now in
    let now : Start = record { moment = c.args.moment; tree = c.args.tree } in
    let x : Serves = serves_with c.args.space.now.patterns t.served in
    none_steps x c.args.conn c.in-Err.field-0 t.ids.items t.conns.items now c.args.event.now nobody.course c.requires.own (belongs_in c.args.conn c.in-Err.field-0 c.as_slice.result.now t.ids.items c.as_slice.ensures.value c.in-Err.ensures)

pub returns-in-Ok-clause-known : goal.returns-in-Ok-clause-known
returns-in-Ok-clause-known c = λ known.
    let t = c.args.self.now in
    let even : length t.conns.items ≡ length t.ids.items = omega (arith, t.paired, t.ids.ok.0, t.conns.ok.0) in
    let s = seat_at c.args.conn c.in-Ok.at t.ids.items t.conns.items (stands_in c.args.conn c.in-Ok.at c.as_slice.result.now t.ids.items c.as_slice.ensures.value c.in-Ok.ensures) even in
    let now : Start = record { moment = c.args.moment; tree = c.args.tree } in
    let x : Serves = serves_with c.args.space.now.patterns t.served in
    own_known x c.args.conn c.in-Ok.at t.conns.items c.happen_at-answer.new.conns.items now c.args.event.now c.happen_at-answer.result s.placed (c.happen_at-answer.ensures.replaced c.requires.own s.placed) known

pub returns-in-Ok-clause-reached : goal.returns-in-Ok-clause-reached
returns-in-Ok-clause-reached c = λ led.
    let t = c.args.self.now in
    let even : length t.conns.items ≡ length t.ids.items = omega (arith, t.paired, t.ids.ok.0, t.conns.ok.0) in
    let s = seat_at c.args.conn c.in-Ok.at t.ids.items t.conns.items (stands_in c.args.conn c.in-Ok.at c.as_slice.result.now t.ids.items c.as_slice.ensures.value c.in-Ok.ensures) even in
    let now : Start = record { moment = c.args.moment; tree = c.args.tree } in
    let x : Serves = serves_with c.args.space.now.patterns t.served in
    own_reached x c.in-Ok.at t.conns.items c.happen_at-answer.new.conns.items now c.args.event.now c.happen_at-answer.result s.placed (c.happen_at-answer.ensures.replaced c.requires.own s.placed) led

pub invariant_of-self : goal.invariant_of-self
invariant_of-self c =
    let t = c.args.self.now in
    let even : length t.conns.items ≡ length t.ids.items = omega (arith, t.paired, t.ids.ok.0, t.conns.ok.0) in
    let s = seat_at c.args.conn c.in-Ok.at t.ids.items t.conns.items (stands_in c.args.conn c.in-Ok.at c.as_slice.result.now t.ids.items c.as_slice.ensures.value c.in-Ok.ensures) even in
    let r = c.happen_at-answer.ensures.replaced c.requires.own s.placed in
    let p : Placed c.in-Ok.at c.happen_at-answer.new.conns.items = record { front = s.placed.front; here = r.there; back = s.placed.back; whole = r.whole; size = s.placed.size } in
    let here = here_is c.in-Ok.at c.happen_at-answer.new.conns.items p c.index.result.now c.index.ensures in
    record {
      rising = t.rising;
      paired = omega (arith, t.paired, c.happen_at-answer.ensures.len);
      later = set_later t.soon c.earlier-self.result s.placed.front s.placed.back s.placed.here r.there t.conns.items c.happen_at-answer.new.conns.items s.placed.whole r.whole c.earlier-self.ensures.0 (subst (λ x. c.earlier-self.result ≤ soonest (due_at x)) here c.earlier-self.ensures.1) t.later;
      keeping = set_keep t.keeps s.placed.front s.placed.here r.there s.placed.back t.conns.items c.happen_at-answer.new.conns.items s.placed.whole r.whole r.does.keeps t.keeping;
    }
