use Rattle.std.proofs.Common.{◌≡◌, drop, map}
use Rattle.acts.specs.Vars.{look}
use Rattle.ssi_values.proofs.table.Table.get.Given as goal

abbrev pub invariant-loop-entry : goal.invariant-loop-entry
invariant-loop-entry l = look (map (λ e. (e.name, e.value)) (drop l.entry-index l.entry-items)) l.name ≡ look l.fn.self l.name
