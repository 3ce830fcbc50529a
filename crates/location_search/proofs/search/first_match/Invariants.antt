use Rattle.std.proofs.Common.{◌≡◌, drop, find, is_some}
use Rattle.pattern_search.specs.Found.{found_at}
use Rattle.location_search.proofs.search.first_match.Given as goal

abbrev pub invariant-loop-location : goal.invariant-loop-location
invariant-loop-location l = record {
  kept : l.patterns ≡ l.fn.patterns;
  rest : find (λ x. is_some (found_at l.fn.patterns x.pattern l.path)) (drop l.location-index l.list)
      ≡ find (λ x. is_some (found_at l.fn.patterns x.pattern l.path)) l.list;
}
