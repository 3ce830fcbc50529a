use Rattle.std.proofs.Common.{◌∙◌, ap}
use Rattle.http_connection.specs.Times.{after, soonest}
use Rattle.http_connection.proofs.Least.{shortest_of}
use Rattle.http_connection.proofs.times.shortest.Goals as goal

pub returns : goal.returns
returns c = shortest_of c.args.head c.args.pace c.limit.result c.limit-2.result c.seconds-2.result c.min.result c.min-2.result (c.limit.ensures ∙ ap (λ s. soonest (after 0 s)) c.seconds.ensures) c.limit-2.ensures c.seconds-2.ensures c.min.ensures c.min-2.ensures
