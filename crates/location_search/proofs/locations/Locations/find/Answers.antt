use Rattle.std.proofs.Common.{◌≡◌, List, Some, sym, ap, ◌∙◌, subst, option_map, true, IfSome}
use Rattle.pattern_search.specs.site_views.Search.{Sought, search}
use Rattle.pattern_search.specs.Found.{patterns_seen, found}
use Rattle.location_search.specs.Lists.{numbered}
use Rattle.location_search.specs.Nodes.{IsTreeAt}
use Rattle.location_search.specs.Found.{AreSpans, found_seen, locations_in}
use Rattle.location_search.specs.declared.search.FoundLocation.{FoundLocation}
use Rattle.location_search.proofs.Sound.{found-sound}
use Rattle.location_search.specs.declared.node.Node.{Node}
use Rattle.location_search.proofs.Outcomes.{found-is}
use Rattle.location_search.proofs.Numbering.{server-locations}
use Rattle.location_search.proofs.Returns.{search-is}
use Rattle.location_search.proofs.locations.Locations.find.Goals as goal

pub returns-clause-found : goal.returns-clause-found
returns-clause-found c = λ server of site.
    let ps = c.args.patterns.now in
    let path = c.args.path.now in
    let tree = c.args.self.now.tree in
    let at : IsTreeAt c.deref.result.now (Some tree.own) (numbered server.locations.items)
    = subst (λ (ns : List Node). IsTreeAt ns (Some tree.own) (numbered server.locations.items)) (sym c.deref.ensures.value) of.tree in
    ap (option_map (found_seen (patterns_seen ps) site path c.seek.new.spans)) c.found_of.ensures
    ∙ found-is ps site path c.deref.result.now c.seek.new.spans c.seek.result
    ∙ ap (λ (s : Sought). s.found) (c.seek.ensures.sought site (numbered server.locations.items) at)
    ∙ sym (ap (λ l. search found l path) (server-locations (patterns_seen ps) site server)
    ∙ search-is ps path (locations_in (patterns_seen ps) site (numbered server.locations.items)))

pub returns-clause-sound : goal.returns-clause-sound
returns-clause-sound c =
    subst (λ o. IfSome o (λ (f : FoundLocation). f.matched ≡ true → AreSpans c.args.path.now c.seek.new.spans)) (sym c.found_of.ensures)
    (found-sound c.args.path.now c.seek.new.spans c.seek.result c.seek.ensures.sound)
