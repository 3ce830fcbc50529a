use Rattle.std.proofs.Common.{◌≡◌, drop}
use Rattle.acts.specs.Vars.{look}
use Rattle.variable_table.proofs.table.VarTable.get.Given as goal

abbrev pub invariant-loop-setting : goal.invariant-loop-setting
invariant-loop-setting l = look (drop l.setting-index l.setting-items) l.name ≡ look l.fn.self l.name
