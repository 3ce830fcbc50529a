use Rattle.std.proofs.Common.{List, ℕ, Contains, ◌↔◌, subst, ◌∙◌}
use Rattle.conf_include.specs.Paths.{folder_of}
use Rattle.conf_include.proofs.ListingLaws.{texts, found_listing, masked_named}
use Rattle.conf_include.proofs.listing.paths_matched.Goals as goal

pub returns-clause-paths : goal.returns-clause-paths
returns-clause-paths g c of tree names within told naming =
    let path = c.args.path.now in
    let listed = texts c.in_ok-names.names.items in
    let same : (name : List ℕ) → Contains listed name ↔ Contains c.in_ok-found.found name =
    λ name. subst (λ (l : List (List ℕ)). Contains listed name ↔ Contains l name) c.as_slice.ensures (c.in_ok-names.ensures.names name) in
    let is = naming (folder_of path) listed (found_listing tree (folder_of path) c.in_ok-found.found listed (c.in_ok-found.ensures.names of tree within told) c.in_ok-names.ensures.order same) in
    rw c.as_slice-2.ensures.value at c.in_ok-masked.ensures ∙ masked_named names path listed c.requires is
