use Rattle.connection_core.proofs.Places.{stands}
use Rattle.connection_core.proofs.place.place_near.Goals as goal

pub returns-then-is_there : goal.returns-then-is_there
returns-then-is_there c =
    let at = c.is_there.ensures (search) in
    stands c.args.ids.now c.args.conn c.args.near c.requires at.0 at.1
