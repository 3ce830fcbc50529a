-- A set of ids.
use Rattle.std.specs.Prelude.{ℕ, Bool}
use Rattle.std.specs.Ordering.{nat_cmp}
use Rattle.std.specs.BTreeSet.{contains}
use Rattle.ready_loop.specs.declared.ids.Ids.{Ids}

abbrev pub has : Ids → ℕ → Bool
has ids id = contains nat_cmp ids.set id
