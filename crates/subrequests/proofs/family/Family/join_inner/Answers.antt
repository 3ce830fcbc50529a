use Rattle.std.proofs.Common.{◌≡◌, ◌==◌, true, cond, Some, set, slice_get, sym, ap, subst, ◌∙◌}
use Rattle.postpone_filter.specs.Row.{Row, is_open, reopened}
use Rattle.node_line.specs.node_turn.declared.node.Node.{Node}
use Rattle.node_seats.specs.Seats.{is_captured}
use Rattle.subrequests.specs.Families.{IsSound}
use Rattle.subrequests.proofs.Joins as joining
use Rattle.family_nodes.proofs.Sets as sets
use Rattle.subrequests.proofs.Wholes as wholes
use Rattle.subrequests.proofs.family.Family.join_inner.Goals as goal

pub returns-clause-joins : goal.returns-clause-joins
returns-clause-joins c =
    let f = c.args.self.now in
    let id = c.args.id in
    let is = c.in-Some.ensures.lookup in
    let n = c.in-Some.node.now in
    let m = c.node_mut.result.now in
    let there = subst (λ ns. slice_get ns id ≡ Some n) c.as_slice.ensures.value (sets.there_some c.as_slice.result.now id n is.3.0 is.1) in
    let here = wholes.found_there f.nodes id m n there c.node_mut.ensures.value in
    let same : n ≡ m = wholes.some_same n m (sym there ∙ here) in
    record {
      node = m;
      there = here;
      captured = ap (λ (x : Node). is_captured x.place) (sym same) ∙ sym c.is_withheld.ensures ∙ c.if-not-is_withheld.false;
      goes_on = ap (λ (x : Node). x.over) (sym same) ∙ c.if-node.false;
      row_is = c.in_ok-reopen.ensures.row ∙ ap (reopened c.args.at id) c.end.ensures.row;
      lawful = c.in_ok-reopen.ensures.lawful;
      opened = λ j. c.in_ok-reopen.ensures.opened j ∙ ap (λ (r : Row). cond (j == id) true (is_open j r.pieces)) c.end.ensures.row;
      nodes_are = ap (set f.nodes id) c.put_joined.ensures;
    }

pub returns-clause-whole : goal.returns-clause-whole
returns-clause-whole c = λ whole.
    let f = c.args.self.now in
    let id = c.args.id in
    let is = c.in-Some.ensures.lookup in
    let n = c.in-Some.node.now in
    let m = c.node_mut.result.now in
    let there = subst (λ ns. slice_get ns id ≡ Some n) c.as_slice.ensures.value (sets.there_some c.as_slice.result.now id n is.3.0 is.1) in
    let here = wholes.found_there f.nodes id m n there c.node_mut.ensures.value in
    let same : n ≡ m = wholes.some_same n m (sym there ∙ here) in
    subst (λ (x : Node). IsSound c.reopen.new.self (set f.nodes id x)) (sym c.put_joined.ensures)
    (joining.one_sound f.order c.reopen.new.self f.nodes c.args.at id m here (ap (λ (x : Node). is_captured x.place) (sym same) ∙ sym c.is_withheld.ensures ∙ c.if-not-is_withheld.false) (ap (λ (x : Node). x.over) (sym same) ∙ c.if-node.false)
    whole (c.in_ok-reopen.ensures.row ∙ ap (reopened c.args.at id) c.end.ensures.row) c.in_ok-reopen.ensures.lawful
    (λ j. c.in_ok-reopen.ensures.opened j ∙ ap (λ b. cond (j == id) true b) (c.end.ensures.opened j)))
