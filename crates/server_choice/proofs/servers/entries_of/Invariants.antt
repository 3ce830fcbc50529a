use Rattle.std.proofs.Common.{◌≡◌, ◌||◌, true, drop}
use Rattle.std.specs.List.{list_any}
use Rattle.http_types.specs.declared.words.Addr.{Addr}
use Rattle.server_choice.specs.Listening.{listens, AreEntriesOf, has_entry}
use Rattle.server_choice.proofs.servers.entries_of.Given as goal

abbrev pub invariant-loop-server : goal.invariant-loop-server
invariant-loop-server l = record {
  entries : AreEntriesOf l.entries.items l.servers;
  cover : (local : Addr) → list_any (listens local) l.servers ≡ true
      → (has_entry l.entries.items local || list_any (listens local) (drop l.server-index l.servers)) ≡ true;
}
