use Rattle.std.proofs.Common.{◌+◌, arith}
use Rattle.memory_links.proofs.Ids.{reports_push}
use Rattle.memory_links.proofs.Played.{begins_push}
use Rattle.memory_links.proofs.links.open_next.Goals as goal

pub returns-in-Ok-clause-reports : goal.returns-in-Ok-clause-reports
returns-in-Ok-clause-reports c =
    reports_push c.args.peers.now.items c.push_peer.new.peers.items c.args.peer (c.len.result + 1) c.args.faults.now (omega (arith, c.len.ensures)) c.in-Ok.ensures.ok
    c.requires.fresh c.requires.among c.requires.held

pub returns-in-Ok-clause-sends : goal.returns-in-Ok-clause-sends
returns-in-Ok-clause-sends c =
    begins_push c.args.peers.now.items c.push_peer.new.peers.items c.args.peer (c.len.result + 1) (omega (arith, c.len.ensures)) c.in-Ok.ensures.ok
