-- What becomes of a page of which a node runs.
use Rattle.std.specs.Prelude.{◌≡◌, ◌<◌, ◌≤◌, List, length}
use Rattle.file_tree.specs.Tree.{Trees}
use Rattle.ngx_pattern.specs.Pattern.{Pattern as SetPattern}
use Rattle.outgoing.specs.Leaving.{most}
use Rattle.family_order.specs.race_meaning.Named.{IsRaceless}
use Rattle.request_meaning.specs.Laws.{shipped}
use Rattle.subrequests.specs.request_phases.Rounds.{world_in}
use Rattle.subrequests.specs.request_phases.declared.ground.Ground.{Ground}
use Rattle.subrequests.specs.Moved.{IsWhole}
use Rattle.subrequests.specs.declared.family.Ran.{Ran}
use Rattle.subrequests.specs.declared.family.Ran.TheVariants.{Rests, TooMany}
use Rattle.page_response.specs.Pages.{IsReached, IsSameIn, nodes_asked, pages_left}
use Rattle.page_response.specs.declared.pages.Pages.{Pages}

-- Where no variable is named, as much is still to come as before; and less is left to do.
pub record Goes (patterns : List SetPattern) (g : Ground) (old new : Pages) : Type 0 where
  pub same : (trees : Trees) → IsRaceless (world_in patterns g shipped).server → IsReached (world_in patterns g shipped) patterns g.site.now old → IsSameIn patterns g trees old new
  pub reached : IsReached (world_in patterns g shipped) patterns g.site.now old → IsReached (world_in patterns g shipped) patterns g.site.now new
  pub whole : IsWhole new.family
  pub bounded : length new.outgoing.pending ≤ most
  pub lowers : pages_left new < pages_left old
  pub status : new.status ≡ old.status

-- Where no variable is named, and its node asks for one subrequest more than are opened, it asked for too many before, by any trees.
abbrev pub RunsTo : List SetPattern → Ground → (old new : Pages) → Ran → Type 0
RunsTo patterns g old new Rests = Goes patterns g old new
RunsTo patterns g old new TooMany = (trees : Trees) → IsRaceless (world_in patterns g shipped).server → IsReached (world_in patterns g shipped) patterns g.site.now old →
    1001 < nodes_asked (world_in patterns g shipped) patterns g.site.now trees old
