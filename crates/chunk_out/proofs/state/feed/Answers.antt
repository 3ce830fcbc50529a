use Rattle.std.proofs.Common.{◌-◌, arith}
use Rattle.chunk_out.proofs.FeedLemmas.{feed_step, feed_end}
use Rattle.chunk_out.proofs.state.feed.Goals as goal

pub loop-rest-preserved : goal.loop-rest-preserved
loop-rest-preserved c =
    let i = c.loop-rest.invariant in
    let s = c.split_at.ensures in
    let step = feed_step c.args.block.now.items c.args.bytes.now c.loop-rest.block.items c.loop-rest.rest.now c.args.out.now.items c.loop-rest.out.items c.as_slice.result.now c.split_at.result.0.now c.split_at.result.1.now c.clear.new.self.items c.write_block.new.out.items (4096 - c.len-in-loop-rest.result)
    i.within i.left i.fed (omega arith) (omega (arith, c.as_slice.ensures.len, c.len-in-loop-rest.ensures)) c.as_slice.ensures.value s.front s.back c.clear.ensures.items c.write_block.ensures.items in
    record {
      within = omega (arith, s.back_len, i.within);
      left = step.left;
      waits = omega (arith, c.clear.ensures.len);
      kept = omega (arith, c.clear.ensures.capacity, i.kept);
      fed = step.fed;
      capacity = omega (arith, c.write_block.ensures.capacity, i.capacity);
      limit = omega (arith, c.write_block.ensures.len, i.limit);
    }

pub returns-clause-feeds : goal.returns-clause-feeds
returns-clause-feeds c =
    let i = c.loop-rest.invariant in
    feed_end c.args.block.now.items c.args.bytes.now c.loop-rest.block.items c.loop-rest.rest.now c.args.out.now.items c.loop-rest.out.items c.append.new.out.items c.min-kept.result
    i.within i.left i.fed (omega (arith, c.min-kept.ensures)) c.append.ensures.items
