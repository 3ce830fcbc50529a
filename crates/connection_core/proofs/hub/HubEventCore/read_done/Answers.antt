use Rattle.std.proofs.Common.{refl}
use Rattle.connection_core.proofs.Ends.{known_later}
use Rattle.connection_core.proofs.Blocks.{brought_as}
use Rattle.connection_core.proofs.Told.{told_still, reached_still}
use Rattle.connection_core.proofs.hub.HubEventCore.read_done.Goals as goal

pub read-requires : goal.read-requires
read-requires g c =
    let h = c.args.self.now in
    record { known = known_later h.tree (g.F.Files.seen c.args.files.now).newest h.table.conns.items c.requires.known h.known }

pub returns-clause-done : goal.returns-clause-done
returns-clause-done g c = λ path start count of asks.
    let old = g.F.Files.seen c.args.files.now in
    let new = g.F.Files.seen c.read.new.files in
    let h = c.args.self.now in
    let n = c.read.new.self in
    brought_as old.tells (old.trees of) path start count c.args.conn c.args.node old.answers new.answers h.space.patterns h.table.served n.served h.table.keeps n.keeps h.table.ids.items n.ids.items h.table.conns.items n.conns.items h.moment h.tree h.refused c.count.new.refused _
    c.read.ensures.served c.read.ensures.keeps c.read.ensures.ids h.told h.reached c.count.ensures
    (c.in_ok-answer.ensures.done path start count of asks)

pub invariant_of-self-2 : goal.invariant_of-self-2
invariant_of-self-2 g c =
    let h = c.args.self.now in
    let n = c.read.new.self in
    record {
      known = c.read.ensures.known h.tree h.known;
      told = told_still h.space.patterns h.space.patterns h.table.served n.served refl c.read.ensures.served h.told;
      reached = reached_still h.space.patterns h.space.patterns h.table.served n.served n.conns.items refl c.read.ensures.served (c.read.ensures.reached h.reached);
    }
