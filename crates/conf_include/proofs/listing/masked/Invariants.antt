use Rattle.std.proofs.Common.{◌≡◌, ◌++◌, take, map, filter}
use Rattle.conf_include.specs.Masks.{matches}
use Rattle.conf_include.proofs.ListingLaws.{texts}
use Rattle.conf_include.proofs.listing.masked.Given as goal

abbrev pub invariant-loop-name : goal.invariant-loop-name
invariant-loop-name l = l.paths ≡ map (λ n. l.front ++ n) (filter (matches l.mask) (texts (take l.name-index l.names)))
