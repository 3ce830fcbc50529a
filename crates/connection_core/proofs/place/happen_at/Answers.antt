use Rattle.ngx_outside.specs.Views.{Start}
use Rattle.http_connection.specs.Conn.{StepsConn}
use Rattle.http_connection.specs.Rests.{Serves}
use Rattle.connection_core.proofs.Held.{replaced_at}
use Rattle.connection_core.proofs.place.happen_at.Goals as goal

pub returns-clause-replaced : goal.returns-clause-replaced
returns-clause-replaced c = λ own p.
    let x : Serves = record { patterns = c.args.space.now.patterns; served = c.args.served.now } in
    let now : Start = record { moment = c.args.moment; tree = c.args.tree } in
    replaced_at c.args.at c.args.conns.now.items (λ old new. StepsConn x now c.args.event.now c.happen.result old new) p
    c.index_mut.result.now c.happen.new.conn c.index_mut.ensures.value (c.happen.ensures.steps own)
