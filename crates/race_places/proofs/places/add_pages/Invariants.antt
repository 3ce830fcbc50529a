use Rattle.std.proofs.Common.{◌≡◌, ◌++◌, ℕ, List, drop, map}
use Rattle.site_views.specs.Values.{PageRule}
use Rattle.site_whole.specs.Whole.{page_seen}
use Rattle.race_meaning.specs.Reads.{in_target}
use Rattle.race_places.specs.Index.{at}
use Rattle.race_places.specs.Places.{lines_of}
use Rattle.race_places.proofs.places.add_pages.Given as goal

abbrev pub invariant-loop-rule : goal.invariant-loop-rule
invariant-loop-rule l =
    (name : List ℕ) →
    at l.reads name ++ lines_of (λ (r : PageRule). in_target name r.target) (map page_seen (drop l.rule-index l.rules)) l.left ≡ at l.fn.reads name ++ lines_of (λ (r : PageRule). in_target name r.target) (map page_seen l.rules) l.lines
