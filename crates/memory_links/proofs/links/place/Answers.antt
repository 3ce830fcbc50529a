use Rattle.std.proofs.Common.{arith}
use Rattle.memory_links.proofs.Ids.{absent_zero, absent_past}
use Rattle.memory_links.proofs.links.place.Goals as goal
use Rattle.memory_links.proofs.links.place.Goals.{else-id-gt0-via-then-id-gt0+else-id-peers, else-id-gt0-via-else-id-gt0}

pub returns-else-id-gt0 : goal.returns-else-id-gt0
returns-else-id-gt0 c =
    elim c.else-id-gt0.branch [
      | else-id-gt0-via-then-id-gt0+else-id-peers w ↦ absent_past c.args.peers.now c.args.id (omega arith)
      | else-id-gt0-via-else-id-gt0 w ↦ absent_zero c.args.peers.now c.args.id (omega arith)
    ]
