use Rattle.std.proofs.Common.{◌≡◌, ◌+◌, length}
use Rattle.conf_values.specs.TextSet.{holds}
use Rattle.conf_values.specs.Listing.{are_listed_from}
use Rattle.conf_values.proofs.listing.are_listed.Given as goal

-- the words that are left decide
abbrev pub invariant-loop-rest : goal.invariant-loop-rest
invariant-loop-rest l =
    (are_listed_from (holds l.known.keys) l.listing l.at l.rest ≡ are_listed_from (holds l.known.keys) l.listing 0 l.words) × (l.at + length l.rest ≡ length l.words)

abbrev pub decreases-loop-rest : goal.decreases-loop-rest
decreases-loop-rest l = length l.rest
