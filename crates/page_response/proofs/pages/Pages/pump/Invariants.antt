use Rattle.std.proofs.Common.{◌≡◌, ◌≤◌, List, length}
use Rattle.std.specs.Prelude.{is_some}
use Rattle.file_tree.specs.Tree.{Trees}
use Rattle.ngx_pattern.specs.Pattern.{Pattern as SetPattern}
use Rattle.outgoing.specs.Leaving.{most}
use Rattle.request_meaning.specs.Serving.{World}
use Rattle.site_model.specs.declared.site.Site.{Site}
use Rattle.subrequests.specs.Moved.{IsWhole}
use Rattle.page_response.specs.Pages.{IsReached, IsSame}
use Rattle.page_response.proofs.pages.Pages.pump.Given as goal

abbrev pub invariant-loop : goal.invariant-loop
invariant-loop l = record {
  same : (w : World) (patterns : List SetPattern) (site : Site) (trees : Trees) → IsSame w patterns site trees l.fn.self l.self;
  reached : (w : World) (patterns : List SetPattern) (site : Site) → IsReached w patterns site l.fn.self → IsReached w patterns site l.self;
  whole : IsWhole l.fn.self.family → IsWhole l.self.family;
  bounded : length l.fn.self.outgoing.pending ≤ most → length l.self.outgoing.pending ≤ most;
  kind : is_some l.self.outgoing.block ≡ is_some l.fn.self.outgoing.block;
  others : (l.self.steps ≡ l.fn.self.steps) × (l.self.status ≡ l.fn.self.status) × (l.self.family.tree ≡ l.fn.self.family.tree);
}
