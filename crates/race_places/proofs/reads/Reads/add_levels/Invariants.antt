use Rattle.std.proofs.Common.{◌≡◌, ◌||◌, ℕ, List, drop, map}
use Rattle.source_lines.specs.declared.line.Line.{Line}
use Rattle.site_views.specs.Pattern.{Pattern}
use Rattle.site_whole.specs.Whole.{level_whole}
use Rattle.race_places.specs.Index.{at, is_among}
use Rattle.race_places.specs.Marks.{AreThere}
use Rattle.race_places.specs.Places.{level_by, all_reads}
use Rattle.race_places.proofs.reads.Reads.add_levels.Given as goal

abbrev pub invariant-loop-number : goal.invariant-loop-number
invariant-loop-number l =
    AreThere l.site l.lists l.self.marks.items l.self.index
    × ((patterns : List Pattern) (name : List ℕ) (line : Line) →
    (is_among line (at l.self.index name) || is_among line (all_reads name (map (level_whole patterns l.site) (drop l.number-index l.numbers)) (map (level_by l.lists) l.left)))
    ≡ (is_among line (at l.fn.self.index name) || is_among line (all_reads name (map (level_whole patterns l.site) l.numbers) (map (level_by l.lists) l.levels))))
