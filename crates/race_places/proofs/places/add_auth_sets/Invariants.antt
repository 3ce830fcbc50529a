use Rattle.std.proofs.Common.{◌≡◌, ◌++◌, ℕ, List, drop, map}
use Rattle.site_views.specs.Values.{Text}
use Rattle.site_whole.specs.Whole.{auth_set_seen}
use Rattle.race_meaning.specs.Reads.{in_text}
use Rattle.race_places.specs.Index.{at}
use Rattle.race_places.specs.Places.{lines_of}
use Rattle.race_places.proofs.places.add_auth_sets.Given as goal

abbrev pub invariant-loop-set : goal.invariant-loop-set
invariant-loop-set l =
    (name : List ℕ) →
    at l.reads name ++ lines_of (λ (s : List ℕ × Text). in_text name s.1) (map auth_set_seen (drop l.set-index l.sets)) l.left ≡ at l.fn.reads name ++ lines_of (λ (s : List ℕ × Text). in_text name s.1) (map auth_set_seen l.sets) l.lines
