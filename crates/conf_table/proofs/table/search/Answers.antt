use Rattle.std.proofs.Common.{◌≤◌, length, sym, ◌∙◌, arith}
use Rattle.conf_table.proofs.TableLaws.{less-up_to, greater-from}
use Rattle.conf_table.proofs.table.search.Goals as goal

pub loop-low-preserved-in-Less : goal.loop-low-preserved-in-Less
loop-low-preserved-in-Less c =
    let within : c.loop-low.high ≤ length c.args.rows.now = c.loop-low.invariant.within in
    record {
      order = omega arith;
      within = c.loop-low.invariant.within;
      below = λ k d h. less-up_to _ _ _ k d _ c.requires (omega arith) (sym c.cmp.ensures ∙ c.in-Less.is) (omega arith);
      above = c.loop-low.invariant.above;
    }

pub loop-low-preserved : goal.loop-low-preserved
loop-low-preserved c =
    let within : c.loop-low.high ≤ length c.args.rows.now = c.loop-low.invariant.within in
    record {
      order = omega arith;
      within = omega arith;
      below = c.loop-low.invariant.below;
      above = λ k d h l. greater-from _ _ _ k d _ c.requires l (sym c.cmp.ensures ∙ c.in-Greater.is) h;
    }
