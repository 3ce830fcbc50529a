use Rattle.connection_core.proofs.Places.{placed}
use Rattle.connection_core.proofs.place.place.Goals as goal

pub returns : goal.returns
returns c = placed c.args.ids.now c.args.conn c.binary_search.result c.requires c.binary_search.ensures.position
