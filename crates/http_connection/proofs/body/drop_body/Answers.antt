use Rattle.http_connection.proofs.Bodies.{ends_taken, goes_on_taken}
use Rattle.http_connection.proofs.body.drop_body.Goals as goal

pub returns-in-Ended-clause-drops : goal.returns-in-Ended-clause-drops
returns-in-Ended-clause-drops c = ends_taken c.args.body c.take-used.new.self c.args.bytes.now c.take-used.result.0 c.take-used.result.1 c.take-used.ensures.takes c.take-used.ensures.within c.in-Ended.is

pub returns-in-More-clause-drops : goal.returns-in-More-clause-drops
returns-in-More-clause-drops c = goes_on_taken c.args.body c.take-used.new.self c.args.bytes.now c.take-used.result.0 c.take-used.result.1 c.take-used.ensures.takes c.take-used.ensures.within c.in-More.is
