use Rattle.replay_confs.proofs.Fronts.{below_none, below_some}
use Rattle.replay_confs.proofs.paths.below.Goals as goal

pub returns-in_default : goal.returns-in_default
returns-in_default c = below_none c.args.folder.now c.args.path.now c.front_of.result.now c.behind.result c.front_of.ensures c.behind.ensures c.in_default.is

pub returns : goal.returns
returns c = below_some c.args.folder.now c.args.path.now c.front_of.result.now c.as_slice.result.now c.behind.result c.in-Some.rest c.behind-2.result c.front_of.ensures c.behind.ensures c.in-Some.is c.as_slice.ensures c.behind-2.ensures
