-- Of which server locations are.
use Rattle.pattern_search.specs.site_model.declared.site.Server.{Server}
use Rattle.location_match.specs.Numbers.{LeadsAs}
use Rattle.location_search.specs.Nodes.{IsTreeOf}
use Rattle.location_search.specs.Names.{level_named}
use Rattle.location_search.specs.declared.locations.Locations.{Locations}

-- they were made of this server's
pub record AreOf (locations : Locations) (server : Server) : Type 0 where
  pub tree : IsTreeOf locations.tree server.locations.items
  pub named : LeadsAs locations.named (level_named server.named.items)
