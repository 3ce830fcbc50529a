use Rattle.std.proofs.Common.{refl, ◌∙◌}
use Rattle.page_response.proofs.Moving as moving
use Rattle.page_response.proofs.pages.Pages.pump.Goals as goal

pub loop-init : goal.loop-init
loop-init c = record {
  same = λ w patterns site trees. moving.no_change w patterns site trees c.args.self.now;
  reached = λ w patterns site reached. reached;
  whole = λ whole. whole;
  bounded = λ bounded. bounded;
  kind = refl;
  others = (refl, refl, refl);
}

pub loop-preserved : goal.loop-preserved
loop-preserved c =
    let i = c.loop.invariant in
    let e = c.pump_one.ensures in
    record {
      same = λ w patterns site trees. moving.same_then w patterns site trees c.args.self.now c.loop.self c.pump_one.new.self (i.same w patterns site trees) (e.same w patterns site trees);
      reached = λ w patterns site reached. e.reached w patterns site (i.reached w patterns site reached);
      whole = λ whole. e.whole (i.whole whole);
      bounded = λ bounded. e.bounded (i.bounded bounded);
      kind = e.kind ∙ i.kind;
      others = (e.others.0 ∙ i.others.0, e.others.1 ∙ i.others.1, e.others.2 ∙ i.others.2);
    }

pub returns-then-not-pump_one-clause-same : goal.returns-then-not-pump_one-clause-same
returns-then-not-pump_one-clause-same c = λ w patterns site trees.
    moving.same_then w patterns site trees c.args.self.now c.loop.self c.pump_one.new.self (c.loop.invariant.same w patterns site trees) (c.pump_one.ensures.same w patterns site trees)
