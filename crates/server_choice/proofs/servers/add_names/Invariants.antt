use Rattle.std.proofs.Common.{take}
use Rattle.server_choice.specs.Listening.{HasMore}
use Rattle.server_choice.proofs.servers.add_names.Given as goal

abbrev pub invariant-loop-name : goal.invariant-loop-name
invariant-loop-name l = HasMore l.fn.names l.names (take l.name-index l.own) l.server
