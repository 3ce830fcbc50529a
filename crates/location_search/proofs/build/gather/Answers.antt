use Rattle.location_search.proofs.Trees.{gathering-step}
use Rattle.location_search.proofs.build.gather.Goals as goal

pub loop-last-preserved : goal.loop-last-preserved
loop-last-preserved c =
    gathering-step c.args.depth c.args.waiting.now.items c.loop-last.waiting.items c.take_inside.new.waiting.items c.in-Some.last
    c.loop-last.gathered c.add.new.self c.in-Some.ensures.some.0 c.in-Some.ensures.some.1
    c.in_ok-add.ensures.exact c.in_ok-add.ensures.prefixes c.in_ok-add.ensures.patterns c.loop-last.invariant
