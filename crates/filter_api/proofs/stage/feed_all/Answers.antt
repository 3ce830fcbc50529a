use Rattle.filter_api.proofs.Feeds.{feeds_turn}
use Rattle.ssi_text.specs.Marks.{marks}
use Rattle.filter_api.specs.Members.{Machine}
use Rattle.filter_api.proofs.stage.feed_all.Goals as goal

pub loop-part-preserved : goal.loop-part-preserved
loop-part-preserved g c =
    let m : Machine = ((goal.BodyFilter-dyn g (c.args.filter.now.vtable, c.args.filter.now.value)).member c.args.filter.now.value).machine c.args.facts.now in
    feeds_turn m c.args.state.now c.loop-part.state _ c.loop-part.yielded c.in-Some.part (marks c.loop-part.out.items) _ (marks c.args.out.now.items) c.loop-part.invariant.0 c.loop-part.invariant.1 c.in_ok-feed_one.ensures.state c.in_ok-feed_one.ensures.out
