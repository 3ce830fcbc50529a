use Rattle.chunk_out.proofs.FeedLemmas.{compose}
use Rattle.chunk_out.proofs.laws.feeds_compose.Goals as goal

pub returns : goal.returns
returns c = compose
