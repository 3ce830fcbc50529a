use Rattle.std.proofs.Common.{◌-◌, ◌&&◌, sym, ap, ◌∙◌}
use Rattle.node_seats.specs.Seats.{heard_by, is_heard}
use Rattle.node_seats.proofs.Walks as walks
use Rattle.node_seats.proofs.seats.+is_heard.Goals as goal

pub returns-then-levels-eq0 : goal.returns-then-levels-eq0
returns-then-levels-eq0 t c = walks.none_heard c.args.levels c.args.nodes.now c.args.at c.args.node.now (sym c.is_withheld.ensures ∙ c.if-is_withheld.true) c.if-levels-eq0.true

pub returns-in-None : goal.returns-in-None
returns-in-None t c =
    let nodes = c.args.nodes.now in
    let n = c.args.node.now in
    sym (ap (heard_by (is_heard (c.args.levels - 1) nodes n.parent) n.parent c.args.at) (walks.there_none nodes n.parent c.in-None.ensures.lookup.3))
    ∙ walks.above_heard c.args.levels nodes c.args.at n (sym c.is_withheld.ensures ∙ c.if-is_withheld.true) c.if-levels-eq0.false

pub returns-then-hears : goal.returns-then-hears
returns-then-hears t c =
    let nodes = c.args.nodes.now in
    let n = c.args.node.now in
    let is = c.in-Some.ensures.lookup in
    let above = is_heard (c.args.levels - 1) nodes n.parent c.in-Some.above.now in
    c.is_heard.ensures ∙ ap (λ b. b && above) (sym (sym c.hears.ensures ∙ c.if-hears.true))
    ∙ sym (ap (heard_by (is_heard (c.args.levels - 1) nodes n.parent) n.parent c.args.at) (walks.there_some nodes n.parent c.in-Some.above.now is.3.0 is.1))
    ∙ walks.above_heard c.args.levels nodes c.args.at n (sym c.is_withheld.ensures ∙ c.if-is_withheld.true) c.if-levels-eq0.false

pub returns-else-hears : goal.returns-else-hears
returns-else-hears t c =
    let nodes = c.args.nodes.now in
    let n = c.args.node.now in
    let is = c.in-Some.ensures.lookup in
    let above = is_heard (c.args.levels - 1) nodes n.parent c.in-Some.above.now in
    c.if-hears.false ∙ ap (λ b. b && above) (sym (sym c.hears.ensures ∙ c.if-hears.false))
    ∙ sym (ap (heard_by (is_heard (c.args.levels - 1) nodes n.parent) n.parent c.args.at) (walks.there_some nodes n.parent c.in-Some.above.now is.3.0 is.1))
    ∙ walks.above_heard c.args.levels nodes c.args.at n (sym c.is_withheld.ensures ∙ c.if-is_withheld.true) c.if-levels-eq0.false

pub returns : goal.returns
returns t c = walks.in_row_heard c.args.levels c.args.nodes.now c.args.at c.args.node.now (sym c.is_withheld.ensures ∙ c.if-is_withheld.false)
