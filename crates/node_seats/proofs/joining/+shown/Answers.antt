use Rattle.std.proofs.Common.{length, sym, ◌∙◌}
use Rattle.std.proofs.lemmas.Bool.{eqb-true}
use Rattle.std.proofs.lemmas.List.{nil_from_length}
use Rattle.std.proofs.lemmas.Option.{IfSome_then}
use Rattle.node_seats.proofs.Upward as upward
use Rattle.node_seats.proofs.Walks as walks
use Rattle.node_seats.proofs.joining.+shown.Goals as goal
use Rattle.node_seats.proofs.joining.+shown.Goals.{shown_from-else-is_some-via-then-is_some+else-not-ends_well, shown_from-else-is_some-via-else-is_some}

pub shown_above-returns : goal.shown_above-returns
shown_above-returns t c =
    let nodes = c.args.nodes.now in
    IfSome_then c.shown_from.result c.shown_from.ensures
    (λ root from. upward.above_shown nodes c.args.at c.args.parent c.args.levels root c.if-levels-eq0.false c.if-at-ge-MOST_NODES.false (sym c.comes_beside.ensures ∙ c.if-not-comes_beside.false) from)

pub shown_from-returns-then-ends_well : goal.shown_from-returns-then-ends_well
shown_from-returns-then-ends_well t c =
    let nodes = c.args.nodes.now in
    let m = c.in_ok-node.node.now in
    let is = c.in_ok-node.ensures.lookup in
    let text = c.in-Gathers.text in
    λ n depth there deep certain.
    upward.gathers_shown nodes c.args.at c.args.levels depth n m c.in-Gathers.stub text (walks.there_some nodes c.args.at m is.3.0 is.1) c.in-Gathers.is
    (nil_from_length text (eqb-true (length text) 0 (sym c.is_empty.ensures ∙ c.if-is_empty.true)))
    (sym c.waits_well.ensures ∙ c.if-waits_well.true) (sym c.ends_well.ensures ∙ c.if-ends_well.true) there deep certain

pub shown_from-returns-else-is_some : goal.shown_from-returns-else-is_some
shown_from-returns-else-is_some t c =
    let nodes = c.args.nodes.now in
    let m = c.in_ok-node.node.now in
    let is = c.in_ok-node.ensures.lookup in
    let comes : upward.Comes nodes c.args.at m = elim c.else-is_some.branch [
      | shown_from-else-is_some-via-then-is_some+else-not-ends_well w ↦ upward.well_comes nodes c.args.at m (sym w.ends_well-then-is_some.ensures ∙ w.if-not-ends_well.false)
      | shown_from-else-is_some-via-else-is_some w ↦ upward.bare_comes nodes c.args.at m c.in-Captured.stub c.in-Captured.text c.in-Captured.is (upward.none_in c.in-Captured.stub (sym c.is_some.ensures ∙ w.if-is_some.false))
    ] in
    IfSome_then c.shown_above.result c.shown_above.ensures
    (λ root above. upward.captured_shown nodes c.args.at c.args.levels root m c.in-Captured.stub c.in-Captured.text (walks.there_some nodes c.args.at m is.3.0 is.1) c.in-Captured.is comes above)
