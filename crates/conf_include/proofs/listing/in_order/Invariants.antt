use Rattle.std.proofs.Common.{◌≡◌, take}
use Rattle.conf_include.proofs.ListingLaws.{texts}
use Rattle.conf_include.proofs.listing.in_order.Given as goal

abbrev pub invariant-loop-name : goal.invariant-loop-name
invariant-loop-name l = texts l.names.items ≡ take l.name-index l.found
