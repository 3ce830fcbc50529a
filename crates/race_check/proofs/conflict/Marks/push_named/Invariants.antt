use Rattle.std.proofs.Common.{◌≡◌, ◌++◌, drop, map, filter}
use Rattle.race_check.specs.Told.{marked, is_marked}
use Rattle.race_check.proofs.conflict.Marks.push_named.Given as goal

abbrev pub invariant-loop-name : goal.invariant-loop-name
invariant-loop-name l =
    l.named.items ++ map (marked l.number l.self) (filter (is_marked l.first l.self) (drop l.name-index l.name-items))
    ≡ l.fn.named.items ++ map (marked l.number l.self) (filter (is_marked l.first l.self) l.name-items)
