-- A page begins.
use Rattle.std.specs.Prelude.{◌≡◌, ◌≤◌, ◌+◌, ℕ, List, [], length}
use Rattle.file_tree.specs.Tree.{Trees, text_of}
use Rattle.ngx_pattern.specs.Pattern.{Pattern as SetPattern}
use Rattle.outgoing.specs.Leaving.{most}
use Rattle.request_flow.specs.race_meaning.Named.{IsRaceless}
use Rattle.request_meaning.specs.Laws.{shipped}
use Rattle.request_flow.specs.request_phases.Rounds.{world_in}
use Rattle.request_flow.specs.request_phases.declared.ground.Ground.{Ground}
use Rattle.subrequests.specs.Moved.{IsWhole}
use Rattle.page_response.specs.Pages.{IsReached, pages_left}
use Rattle.page_response.specs.declared.pages.Pages.{Pages}
use Rattle.request_flow.specs.Pages.{start_rest}
use Rattle.request_flow.specs.Reached.{PageReached}
use Rattle.request_flow.specs.Sents.{known_tree}
use Rattle.request_flow.specs.declared.page.PageStart.{PageStart}
use Rattle.request_flow.specs.declared.steps.Known.{Known}
use Rattle.request_flow.specs.declared.steps.Known.TheVariants.{Nothing, Told}
use Rattle.request_flow.specs.Flows.{item_asked}
use Rattle.response_flow.specs.Flights.{page_left, page_most, most_kept, with_opened}

-- the text of the file that was told last
abbrev pub file_text : Known → Trees → List ℕ
file_text (Nothing of) trees = text_of (trees of [])
file_text (Told f) trees = text_of (item_asked trees f.ask)

-- what is known of its bytes: all, or none
abbrev pub bytes_known : Known → List ℕ
bytes_known (Nothing of) = []
bytes_known (Told f) = f.text

-- As much is still to come of it as of its request, whatever is still to come of the files.
pub record Opens (patterns : List SetPattern) (g : Ground) (start : PageStart) (p : Pages) : Type 0 where
  pub same : (trees : Trees) → IsRaceless (world_in patterns g shipped).server → PageReached (world_in patterns g shipped) patterns g.site.now start →
      page_left (world_in patterns g shipped) patterns g.site.now trees p
      ≡ with_opened start.request.value.opened (start_rest (world_in patterns g shipped) patterns g.site.now trees start)
  pub reached : PageReached (world_in patterns g shipped) patterns g.site.now start → IsReached (world_in patterns g shipped) patterns g.site.now p
  pub whole : IsWhole p.family
  pub bounded : length p.outgoing.pending ≤ most
  pub few : most_kept + pages_left p ≤ page_most
  pub tree : p.family.tree ≡ known_tree start.page.known
