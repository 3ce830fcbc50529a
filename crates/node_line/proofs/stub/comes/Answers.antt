use Rattle.std.proofs.Common.{take, sym, ◌∙◌}
use Rattle.node_turn.specs.Stages.{hand_at}
use Rattle.node_line.specs.Stubs.CameAs.{Joined}
use Rattle.node_line.proofs.Shows as shows
use Rattle.node_line.proofs.stub.comes.Goals as goal

pub returns-then-is_shown-clause-came : goal.returns-then-is_shown-clause-came
returns-then-is_shown-clause-came c =
    let n = c.args.node.now in
    let count = c.in_ok-placed.placed.count in
    let is = c.in_ok-placed.ensures in
    let shown = sym c.is_shown.ensures ∙ c.if-is_shown.true in
    let fresh = shows.fresh n.place (sym c.withholds_none.ensures ∙ c.if-withholds_none.true) in
    Joined fresh.0 (take count (hand_at n.stage)) (shows.some_taken n.stage count shown c.if-placed-eq0.false) fresh.1 c.put.ensures.put is.row is.acts (λ w patterns site main text. shows.ends_good w patterns site main n text shown)
