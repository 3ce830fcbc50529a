use Rattle.outgoing.proofs.PutLemmas.{puts_chunks}
use Rattle.outgoing.proofs.framing.add_chunks.Goals as goal

pub returns-clause-puts : goal.returns-clause-puts
returns-clause-puts c = puts_chunks c.args.chunks.now c.args.bytes.now c.feed_within.new.self c.args.out.now.items c.feed_within.new.out.items c.feed_within.result c.feed_within.ensures.within c.feed_within.ensures.feeds
