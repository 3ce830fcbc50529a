use Rattle.std.proofs.Common.{◌≡◌, drop, map}
use Rattle.std.specs.Prelude.{nat_lt}
use Rattle.ssi_values.specs.Tables.{bytes_beside}
use Rattle.ssi_values.proofs.table.Table.is_over.Given as goal

abbrev pub invariant-loop-entry : goal.invariant-loop-entry
invariant-loop-entry l = nat_lt l.left (bytes_beside l.name (map (λ e. (e.name, e.value)) (drop l.entry-index l.entry-items))) ≡ nat_lt l.room (bytes_beside l.name l.fn.self)
