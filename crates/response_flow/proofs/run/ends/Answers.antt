use Rattle.std.proofs.Common.{◌++◌, ◌≤◌, ap, ◌∙◌, arith}
use Rattle.page_response.specs.Pages.{bytes_left}
use Rattle.response_flow.specs.Flights.{most_kept}
use Rattle.response_flow.proofs.Goes as goes
use Rattle.response_flow.proofs.run.ends.Goals as goal

pub returns-clause-ends : goal.returns-clause-ends
returns-clause-ends c = λ w patterns site trees before from first over continues.
    goes.ends c.row_tells_still.ensures w patterns site trees c.args.pages before from c.finish.new.out first c.args.closing c.in_ok-finished.finished.size c.args.level c.requires.whole over
    (c.in_ok-finished.ensures.put w patterns site trees over ∙ ap (λ o. o ++ bytes_left w patterns site trees c.args.pages) c.requires.unsent)
    (c.in_ok-finished.ensures.log w patterns site trees over) continues

pub returns-clause-kept : goal.returns-clause-kept
unfolding most_kept
returns-clause-kept c =
    let few : c.len.result ≤ 67108864 = c.if-len-gt-MOST_KEPT.false in
    let len = c.len.ensures in
    omega (arith, few, len)
