use Rattle.std.proofs.Common.{◌≡◌, drop}
use Rattle.server_choice.specs.Listening.{has_entry}
use Rattle.server_choice.proofs.servers.has_entry.Given as goal

abbrev pub invariant-loop-entry : goal.invariant-loop-entry
invariant-loop-entry l = has_entry (drop l.entry-index l.entries) l.local ≡ has_entry l.entries l.local
