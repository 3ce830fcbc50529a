use Rattle.std.proofs.Common.{ap, sym, ◌∙◌}
use Rattle.std.specs.Prelude.{take}
use Rattle.page_response.specs.declared.pages.Pages.{Pages}
use Rattle.response_flow.specs.Flights.{page_left}
use Rattle.response_flow.proofs.Writing.{page_left_written}
use Rattle.response_flow.proofs.wants.page_written.Goals as goal

pub returns-clause-rest : goal.returns-clause-rest
returns-clause-rest c = λ w patterns site trees.
    let old = c.deref_mut-inside.result.now in
    let same = c.deref_mut-inside.ensures.value in
    let e = c.written.ensures in
    ap (page_left w patterns site trees) (sym same)
    ∙ (page_left_written w patterns site trees old c.written.new.self (take c.args.count old.outgoing.pending)
    (e.bytes w patterns site trees) (e.log w patterns site trees) (e.nodes w patterns site trees) e.others.0
    ∙ ap (λ (x : Pages). Rattle.response_flow.specs.Writes.with_bytes (take c.args.count x.outgoing.pending) (page_left w patterns site trees c.written.new.self)) same)
