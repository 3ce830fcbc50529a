use Rattle.conf_inherit.proofs.SiteLaws.{added-all}
use Rattle.conf_inherit.proofs.site.locations_in.Goals as goal

pub returns-clause-seen : goal.returns-clause-seen
returns-clause-seen g c = λ b h. added-all c.in_ok-add_locations.ensures c.new-locations.ensures.items b h

pub returns-clause-levels : goal.returns-clause-levels
returns-clause-levels g c = c.in_ok-add_locations.ensures.levels_kept

pub returns-clause-shelf : goal.returns-clause-shelf
returns-clause-shelf g c = c.in_ok-add_locations.ensures.shelf_kept
