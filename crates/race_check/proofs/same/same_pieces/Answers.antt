use Rattle.std.proofs.Common.{sym, arith, rules}
use Rattle.race_check.proofs.Alike.{differ, alike_more, alike_not, alike_end}
use Rattle.race_check.proofs.same.same_pieces.Goals as goal

pub returns-then-a-b : goal.returns-then-a-b
returns-then-a-b c = sym (differ c.args.a.now c.args.b.now c.if-a-b.true)

pub returns-then-not-same_piece : goal.returns-then-not-same_piece
returns-then-not-same_piece c = alike_not c.args.a.now c.args.b.now c.loop-at.at c.index-a-at.result c.index-b-at.result (omega arith) (omega arith) c.index-a-at.is c.index-b-at.is (search rules) c.loop-at.invariant

pub loop-at-preserved : goal.loop-at-preserved
loop-at-preserved c = alike_more c.args.a.now c.args.b.now c.loop-at.at c.index-a-at.result c.index-b-at.result (omega arith) (omega arith) c.index-a-at.is c.index-b-at.is (search rules) c.loop-at.invariant

pub returns : goal.returns
returns c = alike_end c.args.a.now c.args.b.now c.loop-at.at (omega arith) (omega arith) c.loop-at.invariant
