use Rattle.std.proofs.Common.{◌+◌, ◌++◌, ◌≤◌, List, ℕ, length, drop, sym, ap, ◌∙◌, subst}
use Rattle.subrequests.specs.family_rest.Reached.{Reached}
use Rattle.subrequests.specs.family_rest.Reached.Reached.{Left as HasLeft, Forgot}
use Rattle.subrequests.specs.family_rest.Still.{still, subs_still}
use Rattle.outgoing.specs.Leaving.{to_come}
use Rattle.postpone_filter.specs.Row.{Row}
use Rattle.postpone_filter.specs.Runs.Call.{Use}
use Rattle.family_order.specs.Items.{IsWellRow}
use Rattle.family_order.proofs.Wells.{step-well}
use Rattle.subrequests.specs.node_seats.Seats.{seen}
use Rattle.subrequests.specs.Moved.{files, meant}
use Rattle.page_response.proofs.Moving as moving
use Rattle.page_response.proofs.pages.Pages.pump_one.Goals as goal

pub returns-clause-same : goal.returns-clause-same
returns-clause-same c = λ w patterns site trees.
    let p = c.args.self.now in
    let f = p.family in
    let tells = c.row_tells_still.ensures in
    let tree = trees f.tree in
    let m = meant w patterns site (files trees f) f in
    let n = c.put-put.result in
    let front = c.front-front.ensures.value in
    let within = subst (λ xs. n ≤ length xs) front c.put-put.ensures.within in
    let exact = λ (more : List ℕ). ap (λ xs. to_come c.put-put.new.self (drop n xs ++ more)) (sym front) ∙ (c.put-put.ensures.exact more ∙ ap (λ xs. to_come p.outgoing (xs ++ more)) front) in
    let row = sym c.used.ensures.row in
    record {
      bytes =
          moving.moved tells w tree m f.vars n within p.outgoing c.put-put.new.self exact
          ∙ ap (λ (r : Row). to_come c.put-put.new.self (still w tree (seen w patterns site f.main r f.nodes (files trees f)) f.vars).body) row;
      nodes = ap (λ k. length f.nodes + k) (moving.asks tells w tree m f.vars n within
          ∙ ap (λ (r : Row). subs_still w tree (seen w patterns site f.main r f.nodes (files trees f)) f.vars) row);
      whole = moving.counted tells w tree m f.vars n within p.sent ∙ ap (λ (r : Row). (p.sent + n) + length (still w tree (seen w patterns site f.main r f.nodes (files trees f)) f.vars).body) row;
    }

pub returns-clause-whole : goal.returns-clause-whole
returns-clause-whole c = λ sound.
    let f = c.args.self.now.family in
    record {
      well = subst (IsWellRow 0) (sym c.used.ensures.row) (step-well 0 (Use c.put-put.result) f.order sound.well tt);
      few = sound.few;
      count = ap (λ (r : Row). r.nodes) c.used.ensures.row ∙ sound.count;
      going = λ j. c.used.ensures.opened j ∙ sound.going j;
      rises = sound.rises;
    }

pub returns-clause-reached : goal.returns-clause-reached
returns-clause-reached c = λ w patterns site reached texts.
    let f = c.args.self.now.family in
    subst (λ (r : Row). Reached w (seen w patterns site f.main r f.nodes texts) f.vars) (sym c.used.ensures.row) (Forgot (HasLeft c.put-put.result (reached texts)))
