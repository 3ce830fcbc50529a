use Rattle.std.proofs.Common.{◌≡◌, drop, find}
use Rattle.site_views.specs.Choice.{is_wildcard}
use Rattle.server_choice.proofs.servers.entry_on_all.Given as goal

abbrev pub invariant-loop-entry : goal.invariant-loop-entry
invariant-loop-entry l = find (λ e. is_wildcard l.local e.addr) (drop l.entry-index l.entries) ≡ find (λ e. is_wildcard l.local e.addr) l.entries
