use Rattle.std.proofs.Common.{◌≡◌, ◌||◌, ℕ, List, drop, map}
use Rattle.source_lines.specs.declared.line.Line.{Line}
use Rattle.site_model.specs.Levels.{raw_level}
use Rattle.site_whole.specs.Whole.{values_seen}
use Rattle.race_places.specs.Index.{at, is_among}
use Rattle.race_places.specs.Marks.{AreThere}
use Rattle.race_places.specs.Places.{origins_by, over_both, value_reads}
use Rattle.race_places.proofs.reads.Reads.add_blocks.Given as goal

abbrev pub invariant-loop-number : goal.invariant-loop-number
invariant-loop-number l =
    AreThere l.site l.lists l.self.marks.items l.self.index
    × ((name : List ℕ) (line : Line) →
    (is_among line (at l.self.index name) || is_among line (over_both (value_reads name) (map (λ n. values_seen l.site (raw_level l.site n)) (drop l.number-index l.numbers)) (map (origins_by l.lists) l.left)))
    ≡ (is_among line (at l.fn.self.index name) || is_among line (over_both (value_reads name) (map (λ n. values_seen l.site (raw_level l.site n)) l.numbers) (map (origins_by l.lists) l.lines))))
