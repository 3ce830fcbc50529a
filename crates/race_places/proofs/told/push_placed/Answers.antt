use Rattle.std.proofs.Common.{◌≡◌, ◌++◌, [], ◌∷◌, ◌+◌, drop, arith, rules}
use Rattle.race_check.proofs.Lists.{next_at, all_over}
use Rattle.race_places.specs.Index.{at}
use Rattle.race_places.proofs.Placing.{placed_more, placed_over}
use Rattle.race_places.proofs.told.push_placed.Goals as goal

pub loop-named-preserved : goal.loop-named-preserved
loop-named-preserved c =
    let i = c.loop-named.named-index in
    let xs = c.args.all.now in
    let pushed : c.push.new.self.items ≡ c.loop-named.conflicts.items ++ c.in_ok-conflict.conflict ∷ [] = search rules in
    placed_more (at c.args.sets.now) (at c.args.reads.now) xs c.args.conflicts.now.items
    c.named-item.result (drop (i + 1) xs) (drop i xs) c.in_ok-conflict.conflict c.loop-named.conflicts.items c.push.new.self.items
    (next_at xs i c.named-item.result (omega arith) c.named-item.is) c.in_ok-conflict.ensures pushed c.loop-named.invariant

pub returns : goal.returns
returns c =
    placed_over (at c.args.sets.now) (at c.args.reads.now) c.args.all.now c.args.conflicts.now.items
    (drop c.loop-named.named-index c.args.all.now) c.loop-named.conflicts.items (all_over c.args.all.now c.loop-named.named-index (omega arith)) c.loop-named.invariant
