use Rattle.std.proofs.Common.{arith, sym, ◌∙◌}
use Rattle.memory_outside.proofs.Stores.{found_last, passed_last, none_in_front}
use Rattle.memory_outside.proofs.files.find.Goals as goal

pub returns-then-is_at : goal.returns-then-is_at
returns-then-is_at c =
    sym c.loop-at.invariant.behind
    ∙ found_last c.args.items.now c.loop-at.at c.index-items-at.result c.args.of c.args.path.now (omega arith) (omega arith) c.index-items-at.is (sym c.is_at.ensures ∙ c.if-is_at.true)

pub loop-at-preserved : goal.loop-at-preserved
loop-at-preserved c = record {
  within = omega arith;
  behind = sym (passed_last c.args.items.now c.loop-at.at c.index-items-at.result c.args.of c.args.path.now (omega arith) (omega arith) c.index-items-at.is (sym c.is_at.ensures ∙ c.if-is_at.false)) ∙ c.loop-at.invariant.behind;
}

pub returns : goal.returns
returns c = sym c.loop-at.invariant.behind ∙ none_in_front c.args.items.now c.loop-at.at c.args.of c.args.path.now c.loop-at-test.false
