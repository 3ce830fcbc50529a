use Rattle.std.proofs.Common.{ℕ, ◌+◌, ◌++◌, [], length, sym, ap, ◌∙◌, append-nil, append_assoc}
use Rattle.family_order.specs.family_meaning.Line.{Left}
use Rattle.outgoing.specs.Leaving.{framed_as, to_come}
use Rattle.postpone_filter.specs.Runs.{filled}
use Rattle.subrequests.specs.Moved.{files, meant}
use Rattle.page_response.proofs.Moving as moving
use Rattle.page_response.proofs.pages.Pages.finish.Goals as goal

pub returns-clause-put : goal.returns-clause-put
returns-clause-put c = λ w patterns site trees over.
    let p = c.args.self in
    let f = p.family in
    let closed = λ (j : ℕ). c.end.ensures.opened j ∙ moving.closed_then f.order.pieces over.1.alone j in
    let still = ap (λ (l : Left). l.body) (c.row_tells_still.ensures.over w (trees f.tree) (meant w patterns site (files trees f) f) f.vars over.0 over.1) in
    let all = still ∙ (sym (moving.none_given 0 f.order.pieces) ∙ c.end.ensures.order (λ _. [])) in
    c.in_ok-tail.ensures.ok
    ∙ ap (λ xs. c.args.out.now ++ xs) (c.in_ok-size.ensures.put closed [] ∙ ap (to_come p.outgoing) (append-nil (filled (λ _. []) c.end.new.self.pieces) ∙ sym all))

pub returns-clause-log : goal.returns-clause-log
returns-clause-log c = λ w patterns site trees over.
    let p = c.args.self in
    let f = p.family in
    let closed = λ (j : ℕ). c.end.ensures.opened j ∙ moving.closed_then f.order.pieces over.1.alone j in
    let still = ap (λ (l : Left). l.body) (c.row_tells_still.ensures.over w (trees f.tree) (meant w patterns site (files trees f) f) f.vars over.0 over.1) in
    let all = still ∙ (sym (moving.none_given 0 f.order.pieces) ∙ c.end.ensures.order (λ _. [])) in
    c.in_ok-size.ensures.log closed ∙ ap (λ xs. p.sent + length xs) (sym all)

pub returns-clause-tail : goal.returns-clause-tail
returns-clause-tail c =
    let o = c.put_rest.new.outgoing in
    record {
      front = c.args.out.now ++ o.pending;
      block = o.block;
      kind = c.in_ok-size.ensures.kind;
      few = c.in_ok-tail.ensures.few;
      ends = c.in_ok-tail.ensures.ok ∙ sym (append_assoc c.args.out.now o.pending (framed_as o.block []));
      size = c.in_ok-tail.ensures.tail;
    }
