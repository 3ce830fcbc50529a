use Rattle.std.proofs.Common.{◌≡◌, ◌≤◌, Some, length, subst, arith}
use Rattle.file_tree.specs.declared.job.Ask.TheVariants.{Read as AskRead}
use Rattle.http_connection.specs.Conn.{due_at}
use Rattle.http_connection.specs.Times.{soonest}
use Rattle.http_connection.specs.Rests.{Serves}
use Rattle.connection_core.specs.Table.{serves_with, Placed}
use Rattle.connection_core.proofs.Keeping.{set_keep}
use Rattle.connection_core.proofs.Ticks.{set_later}
use Rattle.connection_core.proofs.Held.{here_is, seat_at, stands_in, belongs_in}
use Rattle.connection_core.proofs.Blocks.{within_at, asks_at, asks_none, idle_at, brought_in, known_by, reached_by}
use Rattle.connection_core.proofs.table.Table.read.Goals as goal

pub read_at-requires : goal.read_at-requires
read_at-requires g c =
    let t = c.args.self.now in
    let even : length t.conns.items ≡ length t.ids.items = omega (arith, t.paired, t.ids.ok.0, t.conns.ok.0) in
    let s = seat_at c.args.conn c.in-Ok.at t.ids.items t.conns.items (stands_in c.args.conn c.in-Ok.at c.as_slice.result.now t.ids.items c.as_slice.ensures.value c.in-Ok.ensures) even in
    record {
      placed = s.placed;
      known = within_at (g.F.Files.seen c.args.files.now).newest c.args.conn c.in-Ok.at c.args.node t.ids.items t.conns.items s c.requires.known;
    }

pub returns-in_ok-answer-in-Ok-clause-done : goal.returns-in_ok-answer-in-Ok-clause-done
returns-in_ok-answer-in-Ok-clause-done g c = λ path start count of asks.
    let t = c.args.self.now in
    let even : length t.conns.items ≡ length t.ids.items = omega (arith, t.paired, t.ids.ok.0, t.conns.ok.0) in
    let s = seat_at c.args.conn c.in-Ok.at t.ids.items t.conns.items (stands_in c.args.conn c.in-Ok.at c.as_slice.result.now t.ids.items c.as_slice.ensures.value c.in-Ok.ensures) even in
    let x : Serves = serves_with c.args.space.now.patterns t.served in
    let old = g.F.Files.seen c.args.files.now in
    let new = g.F.Files.seen c.read_at.new.files in
    brought_in old.tells (old.trees of) path start count c.args.conn c.args.node old.answers new.answers c.args.moment c.in-Ok.at x t.ids.items t.conns.items c.read_at.new.conns.items _ s
    (c.in_ok-answer-in-Ok.ensures.done s.placed path start count of (asks_at x c.args.conn c.in-Ok.at c.args.node t.ids.items t.conns.items s (Some (AskRead path start count of)) asks))

pub returns-in_ok-answer-in-Ok-clause-skips : goal.returns-in_ok-answer-in-Ok-clause-skips
returns-in_ok-answer-in-Ok-clause-skips g c = λ idle.
    let t = c.args.self.now in
    let even : length t.conns.items ≡ length t.ids.items = omega (arith, t.paired, t.ids.ok.0, t.conns.ok.0) in
    let s = seat_at c.args.conn c.in-Ok.at t.ids.items t.conns.items (stands_in c.args.conn c.in-Ok.at c.as_slice.result.now t.ids.items c.as_slice.ensures.value c.in-Ok.ensures) even in
    let x : Serves = serves_with c.args.space.now.patterns t.served in
    c.read_at.ensures.skips s.placed (idle_at x c.args.conn c.in-Ok.at c.args.node t.ids.items t.conns.items s idle)

pub returns-in_ok-answer-in-Ok-clause-skipped : goal.returns-in_ok-answer-in-Ok-clause-skipped
returns-in_ok-answer-in-Ok-clause-skipped g c = λ idle.
    let t = c.args.self.now in
    let even : length t.conns.items ≡ length t.ids.items = omega (arith, t.paired, t.ids.ok.0, t.conns.ok.0) in
    let s = seat_at c.args.conn c.in-Ok.at t.ids.items t.conns.items (stands_in c.args.conn c.in-Ok.at c.as_slice.result.now t.ids.items c.as_slice.ensures.value c.in-Ok.ensures) even in
    let x : Serves = serves_with c.args.space.now.patterns t.served in
    c.in_ok-answer-in-Ok.ensures.skipped s.placed (idle_at x c.args.conn c.in-Ok.at c.args.node t.ids.items t.conns.items s idle)

pub returns-in_ok-answer-in-Ok-clause-known : goal.returns-in_ok-answer-in-Ok-clause-known
returns-in_ok-answer-in-Ok-clause-known g c = λ tree known.
    let t = c.args.self.now in
    let even : length t.conns.items ≡ length t.ids.items = omega (arith, t.paired, t.ids.ok.0, t.conns.ok.0) in
    let s = seat_at c.args.conn c.in-Ok.at t.ids.items t.conns.items (stands_in c.args.conn c.in-Ok.at c.as_slice.result.now t.ids.items c.as_slice.ensures.value c.in-Ok.ensures) even in
    let x : Serves = serves_with c.args.space.now.patterns t.served in
    let old = g.F.Files.seen c.args.files.now in
    let new = g.F.Files.seen c.read_at.new.files in
    known_by x tree old.tells old.trees c.args.node old.answers new.answers c.args.moment c.in-Ok.at t.conns.items c.read_at.new.conns.items _ s.placed
    (c.in_ok-answer-in-Ok.ensures.done s.placed) (c.read_at.ensures.skips s.placed) known

pub returns-in_ok-answer-in-Ok-clause-reached : goal.returns-in_ok-answer-in-Ok-clause-reached
returns-in_ok-answer-in-Ok-clause-reached g c = λ led.
    let t = c.args.self.now in
    let even : length t.conns.items ≡ length t.ids.items = omega (arith, t.paired, t.ids.ok.0, t.conns.ok.0) in
    let s = seat_at c.args.conn c.in-Ok.at t.ids.items t.conns.items (stands_in c.args.conn c.in-Ok.at c.as_slice.result.now t.ids.items c.as_slice.ensures.value c.in-Ok.ensures) even in
    let x : Serves = serves_with c.args.space.now.patterns t.served in
    let old = g.F.Files.seen c.args.files.now in
    let new = g.F.Files.seen c.read_at.new.files in
    reached_by x old.tells old.trees c.args.node old.answers new.answers c.args.moment c.in-Ok.at t.conns.items c.read_at.new.conns.items _ s.placed
    (c.in_ok-answer-in-Ok.ensures.done s.placed) (c.read_at.ensures.skips s.placed) led

pub returns-in-Err-clause-done : goal.returns-in-Err-clause-done
returns-in-Err-clause-done g c = λ path start count of asks.
    let t = c.args.self.now in
    let x : Serves = serves_with c.args.space.now.patterns t.served in
    absurd (asks_none x c.args.conn c.in-Err.field-0 c.args.node t.ids.items t.conns.items path start count of (belongs_in c.args.conn c.in-Err.field-0 c.as_slice.result.now t.ids.items c.as_slice.ensures.value c.in-Err.ensures) asks)

pub invariant_of-self-in-Ok : goal.invariant_of-self-in-Ok
invariant_of-self-in-Ok g c =
    let t = c.args.self.now in
    let even : length t.conns.items ≡ length t.ids.items = omega (arith, t.paired, t.ids.ok.0, t.conns.ok.0) in
    let s = seat_at c.args.conn c.in-Ok.at t.ids.items t.conns.items (stands_in c.args.conn c.in-Ok.at c.as_slice.result.now t.ids.items c.as_slice.ensures.value c.in-Ok.ensures) even in
    let r = c.read_at.ensures.stays s.placed in
    let p : Placed c.in-Ok.at c.read_at.new.conns.items = record { front = s.placed.front; here = r.0; back = s.placed.back; whole = r.1; size = s.placed.size } in
    let here = here_is c.in-Ok.at c.read_at.new.conns.items p c.index.result.now c.index.ensures in
    record {
      rising = t.rising;
      paired = omega (arith, t.paired, c.read_at.ensures.len);
      later = set_later t.soon c.earlier-self.result s.placed.front s.placed.back s.placed.here r.0 t.conns.items c.read_at.new.conns.items s.placed.whole r.1 c.earlier-self.ensures.0 (subst (λ x. c.earlier-self.result ≤ soonest (due_at x)) here c.earlier-self.ensures.1) t.later;
      keeping = set_keep t.keeps s.placed.front s.placed.here r.0 s.placed.back t.conns.items c.read_at.new.conns.items s.placed.whole r.1 r.2 t.keeping;
    }
