use Rattle.std.proofs.Common.{◌≡◌, ◌++◌, ℕ, List, drop, map}
use Rattle.source_lines.specs.declared.line.Line.{Line}
use Rattle.site_views.specs.Pattern.{Pattern}
use Rattle.site_whole.specs.Whole.{level_whole}
use Rattle.race_places.specs.Index.{at}
use Rattle.race_places.specs.Places.{level_by, all_sets}
use Rattle.race_places.proofs.places.sets_of.Given as goal

abbrev pub invariant-loop-number : goal.invariant-loop-number
invariant-loop-number l =
    (lists : List (List Line)) (patterns : List Pattern) (name : List ℕ) →
    at l.sets name ++ all_sets name (map (level_whole patterns l.site) (drop l.number-index l.numbers)) (map (level_by lists) l.left)
    ≡ all_sets name (map (level_whole patterns l.site) l.numbers) (map (level_by lists) l.lines)
