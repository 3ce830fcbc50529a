use Rattle.std.proofs.Common.{◌≡◌, ◌-◌, ◌<◌, ◌≤◌, ℕ, List, length, get_or}
use Rattle.std.specs.declared.cmp.Ordering.TheVariants.{Less, Greater}
use Rattle.conf_table.specs.declared.table.Row.{Row}
use Rattle.conf_table.proofs.TableLaws.{name_cmp}
use Rattle.conf_table.proofs.table.search.Given as goal

-- the name is not below `low` nor from `high` on
pub record Narrowed (rows : List Row) (name : List ℕ) (low high : ℕ) : Type 0 where
  pub order : low ≤ high
  pub within : high ≤ length rows
  pub below : (k : ℕ) (d : Row) → k < low → name_cmp ((get_or rows k d).name.now) name ≡ Less
  pub above : (k : ℕ) (d : Row) → high ≤ k → k < length rows → name_cmp ((get_or rows k d).name.now) name ≡ Greater

abbrev pub invariant-loop-low : goal.invariant-loop-low
invariant-loop-low l = Narrowed l.rows l.name l.low l.high

abbrev pub decreases-loop-low : goal.decreases-loop-low
decreases-loop-low l = l.high - l.low
