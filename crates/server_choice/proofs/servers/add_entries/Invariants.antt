use Rattle.std.proofs.Common.{◌≡◌, ◌||◌, true, take}
use Rattle.std.specs.List.{list_any}
use Rattle.http_types.specs.declared.words.Addr.{Addr}
use Rattle.site_views.specs.Choice.{is_exactly}
use Rattle.server_choice.specs.Listening.{listens, AreEntriesOf, has_entry}
use Rattle.server_choice.proofs.servers.add_entries.Given as goal

abbrev pub invariant-loop-addr : goal.invariant-loop-addr
invariant-loop-addr l = record {
  entries : AreEntriesOf l.fn.entries.items l.servers → AreEntriesOf l.entries.items l.servers;
  cover : (local : Addr) → list_any (listens local) l.servers ≡ true
      → (has_entry l.fn.entries.items local || list_any (is_exactly local) (take l.addr-index l.addrs)) ≡ true → has_entry l.entries.items local ≡ true;
}
