use Rattle.std.proofs.Common.{length}
use Rattle.memory_links.proofs.links.+crowd.Given as goal

abbrev pub decreases-crowd : goal.decreases-crowd
decreases-crowd l = length l.peers.now
