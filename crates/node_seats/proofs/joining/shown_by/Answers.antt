use Rattle.std.proofs.Common.{sym, ◌∙◌}
use Rattle.std.proofs.lemmas.Option.{IfSome_then}
use Rattle.node_seats.proofs.Upward as upward
use Rattle.node_seats.proofs.Walks as walks
use Rattle.node_seats.proofs.joining.shown_by.Goals as goal

pub returns-then-has_bytes : goal.returns-then-has_bytes
returns-then-has_bytes c =
    let nodes = c.args.nodes.now in
    let m = c.in_ok-node.node.now in
    let is = c.in_ok-node.ensures.lookup in
    IfSome_then c.shown_from.result c.shown_from.ensures
    (λ root from. upward.bytes_shown nodes c.args.at root m (walks.there_some nodes c.args.at m is.3.0 is.1) (upward.none_in m.asks (sym c.is_some.ensures ∙ c.if-is_some.false)) (sym c.has_bytes.ensures ∙ c.if-has_bytes.true) from)

pub returns-then-gives : goal.returns-then-gives
returns-then-gives c =
    let nodes = c.args.nodes.now in
    let m = c.in_ok-node.node.now in
    let is = c.in_ok-node.ensures.lookup in
    IfSome_then c.shown_above.result c.shown_above.ensures
    (λ root above. upward.ended_shown nodes c.args.at root m (walks.there_some nodes c.args.at m is.3.0 is.1) (upward.none_in m.asks (sym c.is_some.ensures ∙ c.if-is_some.false)) (sym c.gives.ensures ∙ c.if-gives.true) above)
