use Rattle.std.proofs.Common.{◌≡◌, ◌++◌, drop, map}
use Rattle.site_views.specs.Pattern.{text_at}
use Rattle.pattern_search.proofs.search.groups_of.Given as goal

abbrev pub invariant-loop-number : goal.invariant-loop-number
invariant-loop-number l = l.groups ++ map (text_at l.bytes) (drop l.number l.spans) ≡ map (text_at l.bytes) (drop 1 l.spans)
