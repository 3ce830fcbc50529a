-- What is still to come of a page of parts.
use Rattle.std.specs.Prelude.{◌≡◌, ℕ, ◌+◌, ◌*◌, ◌<◌, false, is_some, Option, List, [], ◌++◌, length}
use Rattle.file_tree.specs.Tree.{Trees}
use Rattle.ngx_pattern.specs.Pattern.{Pattern as SetPattern}
use Rattle.site_model.specs.declared.site.Site.{Site}
use Rattle.request_meaning.specs.Laws.{shipped}
use Rattle.postpone_filter.specs.Row.{Piece, is_open}
use Rattle.request_meaning.specs.Serving.{World, Answer}
use Rattle.subrequests.specs.request_phases.Rounds.{world_in}
use Rattle.subrequests.specs.request_phases.declared.ground.Ground.{Ground}
use Rattle.family_order.specs.family_meaning.Line.{Left}
use Rattle.family_order.specs.Acts.{IsOver}
use Rattle.subrequests.specs.family_rest.Reached.{Reached}
use Rattle.subrequests.specs.family_rest.Still.{still, subs_still}
use Rattle.outgoing.specs.Leaving.{framed_as, to_come, waiting}
use Rattle.subrequests.specs.Moved.{files, meant}
use Rattle.page_response.specs.declared.pages.Pages.{Pages}

-- what is still to come of its family, by these trees
abbrev pub left_in : World → List SetPattern → Site → Trees → Pages → Left
left_in w patterns site trees p = still w (trees p.family.tree) (meant w patterns site (files trees p.family) p.family) p.family.vars

-- The bytes that are still to come of it, framed; and how long its whole body is.
abbrev pub bytes_left : World → List SetPattern → Site → Trees → Pages → List ℕ
bytes_left w patterns site trees p = to_come p.outgoing (left_in w patterns site trees p).body

abbrev pub whole_length : World → List SetPattern → Site → Trees → Pages → ℕ
whole_length w patterns site trees p = p.sent + length (left_in w patterns site trees p).body

-- How many nodes it has, with the subrequests that are still asked for: no step makes these more.
abbrev pub nodes_asked : World → List SetPattern → Site → Trees → Pages → ℕ
nodes_asked w patterns site trees p =
    length p.family.nodes + subs_still w (trees p.family.tree) (meant w patterns site (files trees p.family) p.family) p.family.vars

-- As much is still to come of both.
pub record IsSame (w : World) (patterns : List SetPattern) (site : Site) (trees : Trees) (p q : Pages) : Type 0 where
  pub bytes : bytes_left w patterns site trees p ≡ bytes_left w patterns site trees q
  pub whole : whole_length w patterns site trees p ≡ whole_length w patterns site trees q
  pub nodes : nodes_asked w patterns site trees p ≡ nodes_asked w patterns site trees q

-- the same, in the world of a request
abbrev pub IsSameIn : List SetPattern → Ground → Trees → Pages → Pages → Type 0
IsSameIn patterns g trees p q = IsSame (world_in patterns g shipped) patterns g.site.now trees p q

-- Steps of its nodes have led to it, whatever is still to come of the files that are read.
abbrev pub IsReached : World → List SetPattern → Site → Pages → Type 0
IsReached w patterns site p = (texts : ℕ → List ℕ) → Reached w (meant w patterns site texts p.family) p.family.vars

-- All its nodes are over but that of the main request, which has come to its answer.
abbrev pub IsAllOver : World → List SetPattern → Site → Trees → Pages → Type 0
IsAllOver w patterns site trees p = (answer : Answer) × IsOver (meant w patterns site (files trees p.family) p.family) answer

-- What is kept ends in the tail of a body in chunks, of `tail` bytes: the chunk of what is left for no whole block, where there is
-- any, and the empty chunk. A body that isn't in chunks has no tail.
pub record EndsIn (before : Option (List ℕ)) (tail : ℕ) (out : List ℕ) : Type 0 where
  pub front : List ℕ
  pub block : Option (List ℕ)
  pub kind : is_some block ≡ is_some before
  pub few : waiting block < 4096
  pub ends : out ≡ front ++ framed_as block []
  pub size : tail ≡ length (framed_as block [])

-- no node goes on
abbrev pub AreClosed : List Piece → Type 0
AreClosed pieces = (j : ℕ) → is_open j pieces ≡ false

-- What is left to do: each step lowers it.
unfoldable pub step_weight : ℕ
step_weight = 65537

abbrev pub pages_left : Pages → ℕ
pages_left p = step_weight * p.steps + length p.outgoing.pending
