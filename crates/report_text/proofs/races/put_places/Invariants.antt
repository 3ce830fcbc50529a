use Rattle.std.proofs.Common.{◌≡◌, ◌++◌, drop, map}
use Rattle.report_text.specs.Races.{place_of, places_text}
use Rattle.report_text.proofs.races.put_places.Given as goal

abbrev pub invariant-loop-line : goal.invariant-loop-line
invariant-loop-line l =
    l.out ++ places_text (map (place_of l.files l.paths) (drop l.line-index l.lines)) ≡ l.initial.out ++ places_text (map (place_of l.files l.paths) l.lines)
