use Rattle.std.proofs.Common.{◌≡◌, ◌≤◌, length, subst, sym, ap, ◌∙◌, arith}
use Rattle.http_connection.specs.declared.conn.Conn.{Conn}
use Rattle.http_connection.specs.Conn.{view_of, asked_of}
use Rattle.connection_core.proofs.Held.{seat_at, seen, unseen, here_is, journal_seen, journal_unseen, stands_in, belongs_in}
use Rattle.connection_core.proofs.Ends.{known_at}
use Rattle.connection_core.proofs.Keeping.{keep_at}
use Rattle.connection_core.proofs.table.Table.get.Goals as goal

pub returns-in-Ok-clause-view : goal.returns-in-Ok-clause-view
returns-in-Ok-clause-view c = λ x.
    let t = c.args.self.now in
    let even : length t.conns.items ≡ length t.ids.items = omega (arith, t.paired, t.ids.ok.0, t.conns.ok.0) in
    let s = seat_at c.args.conn c.in-Ok.at t.ids.items t.conns.items (stands_in c.args.conn c.in-Ok.at c.as_slice.result.now t.ids.items c.as_slice.ensures.value c.in-Ok.ensures) even in
    seen x c.args.conn c.in-Ok.at t.ids.items t.conns.items s
    ∙ ap (view_of x) (sym (here_is c.in-Ok.at t.conns.items s.placed c.index.result.now c.index.ensures))

pub returns-in-Ok-clause-journal : goal.returns-in-Ok-clause-journal
returns-in-Ok-clause-journal c =
    let t = c.args.self.now in
    let even : length t.conns.items ≡ length t.ids.items = omega (arith, t.paired, t.ids.ok.0, t.conns.ok.0) in
    let s = seat_at c.args.conn c.in-Ok.at t.ids.items t.conns.items (stands_in c.args.conn c.in-Ok.at c.as_slice.result.now t.ids.items c.as_slice.ensures.value c.in-Ok.ensures) even in
    journal_seen c.args.conn c.in-Ok.at t.ids.items t.conns.items s
    ∙ ap (λ (x : Conn). x.journal.past.entries) (sym (here_is c.in-Ok.at t.conns.items s.placed c.index.result.now c.index.ensures))

pub returns-in-Err-clause-view : goal.returns-in-Err-clause-view
returns-in-Err-clause-view c = λ x.
    let t = c.args.self.now in
    unseen x c.args.conn c.in-Err.field-0 t.ids.items t.conns.items (belongs_in c.args.conn c.in-Err.field-0 c.as_slice.result.now t.ids.items c.as_slice.ensures.value c.in-Err.ensures)

pub returns-in-Err-clause-journal : goal.returns-in-Err-clause-journal
returns-in-Err-clause-journal c =
    let t = c.args.self.now in
    journal_unseen c.args.conn c.in-Err.field-0 t.ids.items t.conns.items (belongs_in c.args.conn c.in-Err.field-0 c.as_slice.result.now t.ids.items c.as_slice.ensures.value c.in-Err.ensures)

pub returns-in-Ok-clause-known : goal.returns-in-Ok-clause-known
returns-in-Ok-clause-known c = λ tree known.
    let t = c.args.self.now in
    let even : length t.conns.items ≡ length t.ids.items = omega (arith, t.paired, t.ids.ok.0, t.conns.ok.0) in
    let s = seat_at c.args.conn c.in-Ok.at t.ids.items t.conns.items (stands_in c.args.conn c.in-Ok.at c.as_slice.result.now t.ids.items c.as_slice.ensures.value c.in-Ok.ensures) even in
    subst (λ x. asked_of x ≤ tree) (sym (here_is c.in-Ok.at t.conns.items s.placed c.index.result.now c.index.ensures)) (known_at tree c.args.conn c.in-Ok.at t.ids.items t.conns.items s known)

pub returns-in-Ok-clause-keeps : goal.returns-in-Ok-clause-keeps
returns-in-Ok-clause-keeps c =
    let t = c.args.self.now in
    let even : length t.conns.items ≡ length t.ids.items = omega (arith, t.paired, t.ids.ok.0, t.conns.ok.0) in
    let s = seat_at c.args.conn c.in-Ok.at t.ids.items t.conns.items (stands_in c.args.conn c.in-Ok.at c.as_slice.result.now t.ids.items c.as_slice.ensures.value c.in-Ok.ensures) even in
    ap (λ (x : Conn). x.journal.keeps) (here_is c.in-Ok.at t.conns.items s.placed c.index.result.now c.index.ensures) ∙ keep_at t.keeps s.placed.front s.placed.here s.placed.back t.conns.items s.placed.whole t.keeping
