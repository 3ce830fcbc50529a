use Rattle.std.proofs.Common.{sym, ap, ◌∙◌, subst}
use Rattle.std.proofs.lemmas.Result.{IfOk-weaker, on_err_weaker}
use Rattle.ngx_outside.specs.Views.{ask_in}
use Rattle.http_connection.specs.response_flow.Flights.{jobs_of}
use Rattle.http_connection.specs.declared.conn.Conn.{Conn}
use Rattle.http_connection.specs.Reads.{AsksWithin}
use Rattle.connection_core.proofs.Held.{here_is, replaced_at, set_at, unchanged_at}
use Rattle.connection_core.proofs.place.read_at.Goals as goal

pub read_done-requires : goal.read_done-requires
read_done-requires g c =
    let here = here_is c.args.at c.args.conns.now.items c.requires.placed c.index_mut-conn.result.now c.index_mut-conn.ensures.value in
    record {
      reads = c.is_reading.ensures.reads (let h = c.if-not-is_reading.false in cc);
      known = subst (λ (x : Conn). AsksWithin (g.F.Files.seen c.args.files.now).newest (ask_in (jobs_of x.flight) c.args.node)) (sym here) (c.requires.known c.requires.placed);
    }

pub returns-clause-done : goal.returns-clause-done
returns-clause-done g c = λ p path start count of asks.
    let seen = g.F.Files.seen in
    let old = seen c.args.files.now in
    let new = seen c.read_done.new.files in
    let here = here_is c.args.at c.args.conns.now.items p c.index_mut-conn.result.now c.index_mut-conn.ensures.value in
    IfOk-weaker c.read_done.result _ _ (λ answer b. replaced_at c.args.at c.args.conns.now.items _ p c.index_mut-conn.result.now c.read_done.new.self c.index_mut-conn.ensures.value b)
    (c.read_done.ensures.done path start count of (ap (λ (x : Conn). ask_in (jobs_of x.flight) c.args.node) here ∙ asks))

pub returns-clause-same : goal.returns-clause-same
returns-clause-same g c =
    on_err_weaker c.read_done.result (unchanged_at c.args.at c.args.conns.now.items c.requires.placed c.index_mut-conn.result.now c.read_done.new.self c.index_mut-conn.ensures.value) c.read_done.ensures.same

pub returns-clause-stays : goal.returns-clause-stays
returns-clause-stays g c = λ p.
    let here = here_is c.args.at c.args.conns.now.items p c.index_mut-conn.result.now c.index_mut-conn.ensures.value in (
      c.read_done.new.self,
      set_at c.args.at c.args.conns.now.items p c.read_done.new.self,
      c.read_done.ensures.keeps ∙ ap (λ (x : Conn). x.journal.keeps) here,
    )

pub returns-then-not-is_reading-clause-stays : goal.returns-then-not-is_reading-clause-stays
returns-then-not-is_reading-clause-stays g c = λ p.
    let here = here_is c.args.at c.args.conns.now.items p c.index_mut-conn.result.now c.index_mut-conn.ensures.value in (
      c.index_mut-conn.result.now,
      set_at c.args.at c.args.conns.now.items p c.index_mut-conn.result.now,
      ap (λ (x : Conn). x.journal.keeps) here,
    )
