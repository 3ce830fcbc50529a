use Rattle.std.proofs.Common.{◌≡◌, ◌++◌, ℕ, List, drop, map}
use Rattle.site_views.specs.Values.{IndexName}
use Rattle.site_whole.specs.Whole.{index_seen}
use Rattle.race_meaning.specs.Reads.{in_text}
use Rattle.race_places.specs.Index.{at}
use Rattle.race_places.specs.Places.{lines_of}
use Rattle.race_places.proofs.places.add_names.Given as goal

abbrev pub invariant-loop-index : goal.invariant-loop-index
invariant-loop-index l =
    (name : List ℕ) →
    at l.reads name ++ lines_of (λ (i : IndexName). in_text name i.text) (map index_seen (drop l.index-index l.names)) l.left ≡ at l.fn.reads name ++ lines_of (λ (i : IndexName). in_text name i.text) (map index_seen l.names) l.lines
