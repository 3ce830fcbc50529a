-- What becomes of a family by its nodes.
use Rattle.std.specs.Prelude.{◌≡◌, ◌≢◌, ℕ, ◌+◌, ◌&&◌, ◌==◌, not, Bool, true, false, List, [], length, slice_get, slice_set, Option, None, Some}
use Rattle.acts.specs.Act.{Inner, settled}
use Rattle.acts.specs.Vars.{Vars}
use Rattle.file_tree.specs.Tree.{IsFrom, Tree, Trees, is_fitting, known_text, tree_of}
use Rattle.file_tree.specs.declared.job.JobAnswer.{JobAnswer}
use Rattle.ngx_pattern.specs.Pattern.{Pattern as SetPattern}
use Rattle.site_model.specs.declared.site.Site.{Site}
use Rattle.request_meaning.specs.Laws.{shipped}
use Rattle.request_meaning.specs.Replies.{most_depth}
use Rattle.request_meaning.specs.Serving.{World, Serving, Answer}
use Rattle.node_line.specs.request_phases.Rounds.{asked_in, prepared_as, world_in}
use Rattle.node_line.specs.request_phases.declared.state.Conclusion.{Conclusion}
use Rattle.node_line.specs.request_phases.declared.state.Phases.{Phases}
use Rattle.node_line.specs.rewrite_code.Places.{standing_seen}
use Rattle.node_line.specs.request_phases.declared.ground.Ground.{Ground}
use Rattle.family_order.specs.Acts.{Goes, IsOver}
use Rattle.family_order.specs.Items.{Family as Meant, alone, doing}
use Rattle.family_order.specs.Items.Stance.{Going}
use Rattle.node_line.specs.family_rest.Still.{still, subs_still}
use Rattle.node_line.specs.ssi_exec.Scenes.{child_seen}
use Rattle.node_line.specs.ssi_exec.declared.document.Child.{Child}
use Rattle.node_line.specs.node_turn.Stages.{main_of, node_act}
use Rattle.subrequests.specs.Families.{IsInnerOpened, IsPushed, IsSound, reads_text, texts_of}
use Rattle.node_seats.specs.Seats.{seen}
use Rattle.node_line.specs.node_turn.Nodes.{after_phases, bytes_for}
use Rattle.node_line.specs.Stances.{Opening}
use Rattle.subrequests.specs.declared.family.Family.{Family}
use Rattle.node_line.specs.node_turn.declared.node.Node.{Node}
use Rattle.node_line.specs.node_turn.declared.node.Place.TheVariants.{Captured}
use Rattle.postpone_filter.specs.Row.{with_child}
use Rattle.node_line.specs.node_turn.declared.node.Stage.{Stage}

-- The family that the meaning has, where the files that are read still have these texts, by node; and those of these trees.
abbrev pub meant : World → List SetPattern → Site → (texts : ℕ → List ℕ) → Family → Meant
meant w patterns site texts f = seen w patterns site f.main f.order f.nodes texts

abbrev pub files : Trees → Family → ℕ → List ℕ
files trees f = texts_of trees f.nodes

abbrev pub IsWhole : Family → Type 0
IsWhole f = IsSound f.order f.nodes

-- Its nodes take steps, whatever is still to come of the files that are read; and by the files of any trees. It has a node more for
-- each subrequest that is opened.
pub record Steps (patterns : List SetPattern) (g : Ground) (old new : Family) : Type 0 where
  pub opened : ℕ
  pub grows : length new.nodes ≡ length old.nodes + opened
  pub any : (tree : Tree) (texts : ℕ → List ℕ) → Opening (world_in patterns g shipped) tree opened (meant (world_in patterns g shipped) patterns g.site.now texts old) old.vars
      (meant (world_in patterns g shipped) patterns g.site.now texts new) new.vars
  pub by_files : (tree : Tree) (trees : Trees) → Opening (world_in patterns g shipped) tree opened (meant (world_in patterns g shipped) patterns g.site.now (files trees old) old) old.vars
      (meant (world_in patterns g shipped) patterns g.site.now (files trees new) new) new.vars

-- the node with a number isn't over, and its stage has this property
abbrev pub is_at : (Stage → Bool) → Option Node → Bool
is_at p None = false
is_at p (Some n) = p n.stage && not n.over

abbrev pub stands : (Stage → Bool) → Family → (at : ℕ) → Type 0
stands p f at = is_at p (slice_get f.nodes at) ≡ true

-- The subrequest opens that a node asks for, which goes on as it is in the old family.
abbrev pub OpensAt : List SetPattern → Ground → (at : ℕ) → Child → (old new : Family) → Type 0
OpensAt patterns g at child old new =
    let w = world_in patterns g shipped in
    let site = g.site.now in
    (n : Node) → slice_get old.nodes at ≡ Some n → (tree : Tree) (texts : ℕ → List ℕ)
    → Opening w tree 1 (doing at (Going n.left (Inner (child_seen (main_of old.main n) child) (node_act w patterns site old.main n (texts at)))) (meant w patterns site texts old)) old.vars
    (meant w patterns site texts new) new.vars

-- The subrequest is asked for whose body a node waits for, which may have one more: it has a place in the row, and its node is the last.
pub record IsAsking (at : ℕ) (child : Child) (old new : Family) (n : Node) : Type 0 where
  pub free : n.asks ≡ None
  pub deep : n.left ≢ 0
  pub row : new.order ≡ with_child at old.order
  pub asking : Node
  pub asks : asking ≡ record n { children = asking.children; asks = Some old.order.nodes }
  pub pushed : IsPushed (slice_set old.nodes at asking) new.nodes at (Captured child.stub []) [] asking child

abbrev pub AsksAt : (at : ℕ) → Child → (old new : Family) → Type 0
AsksAt at child old new = (n : Node) → slice_get old.nodes at ≡ Some n → IsAsking at child old new n

-- The subrequest opens whose body comes to a node that may have one more, after the bytes that it has so far: it has a place in the row, and
-- its node is the last.
pub record IsInner (at : ℕ) (child : Child) (old new : Family) (n : Node) : Type 0 where
  pub free : n.asks ≡ None
  pub deep : n.left ≢ 0
  pub row : new.order ≡ with_child at old.order
  pub opening : Node
  pub before : List ℕ
  pub opens : IsInnerOpened n opening before
  pub pushed : IsPushed (slice_set old.nodes at opening) new.nodes at (Captured child.stub []) before opening child

abbrev pub InnerAt : (at : ℕ) → Child → (old new : Family) → Type 0
InnerAt at child old new = (n : Node) → slice_get old.nodes at ≡ Some n → IsInner at child old new n

-- The texts are the same that nodes read.
abbrev pub SameTexts : List Node → (texts texts' : ℕ → List ℕ) → Type 0
SameTexts nodes texts texts' = (j : ℕ) (n : Node) → slice_get nodes j ≡ Some n → reads_text n.stage ≡ true → texts j ≡ texts' j

-- The nodes that are old read the same by the files of any trees, and the new one none.
abbrev pub SameFiles : (old new : Family) → Type 0
SameFiles old new = (trees : Trees) → SameTexts new.nodes (files trees old) (files trees new)

-- It goes on, and as much is still to come of it as before, of its answer and of subrequests.
pub record Keeps (w : World) (tree : Tree) (f g : Meant) (vars : Vars) : Type 0 where
  pub goes : Goes w tree f vars g vars
  pub still : still w tree f vars ≡ still w tree g vars
  pub subs : subs_still w tree f vars ≡ subs_still w tree g vars

-- It comes by some answers of some files to what it still does.
pub record Comes (w : World) (patterns : List SetPattern) (site : Site) (old new : Family) (texts : ℕ → List ℕ) : Type 0 where
  pub tree : Tree
  pub before : ℕ → List ℕ
  pub goes : Goes w tree (meant w patterns site before old) old.vars (meant w patterns site texts new) new.vars

-- The answer to the job of a node with a number is from these trees.
abbrev pub IsFromAt : Trees → Option Node → JobAnswer → Type 0
IsFromAt trees None answer = Unit {0}
IsFromAt trees (Some n) answer = IsFrom trees n.ask answer

abbrev pub fits_at : (tree : ℕ) → Option Node → JobAnswer → Bool
fits_at tree None answer = false
fits_at tree (Some n) answer = is_fitting n.ask answer && (not n.over && (tree_of n.ask == tree))

-- It begins with the body of what phases decided: a main request alone, which may open fifty levels, comes to it without a subrequest
-- where its acts settle as that body does.
abbrev pub BeginsWith : Ground → Phases → Vars → Conclusion → (known : List ℕ) → Family → Type 0
BeginsWith g p vars outcome known f = (patterns : List SetPattern) (tree : Tree) (texts : ℕ → List ℕ) (first : Serving Answer) (table : Vars) →
    let w = world_in patterns g shipped in
    let site = g.site.now in
    settled first table ≡ settled (after_phases w most_depth [] (prepared_as w (asked_in p) (standing_seen site p.at) (bytes_for outcome (known_text known (texts 0))) outcome)) vars
    → Opening w tree 0 (alone 0 1 (Going most_depth first)) table (meant w patterns site texts f) f.vars

-- All its nodes are over but that of the main request, which has come to its answer.
abbrev pub IsDone : List SetPattern → Ground → Family → Type 0
IsDone patterns g f = (texts : ℕ → List ℕ) → (answer : Answer) × IsOver (meant (world_in patterns g shipped) patterns g.site.now texts f) answer

-- Its nodes come to ask for one subrequest more than are opened for one response.
pub record Overruns (w : World) (tree : Tree) (f : Meant) (vars : Vars) (nodes : ℕ) : Type 0 where
  pub count : ℕ
  pub after : Meant
  pub later : Vars
  pub opening : Opening w tree count f vars after later
  pub many : nodes + count ≡ 1002

abbrev pub OverrunsBy : List SetPattern → Ground → Family → Type 0
OverrunsBy patterns g f = (tree : Tree) (trees : Trees) →
    Overruns (world_in patterns g shipped) tree (meant (world_in patterns g shipped) patterns g.site.now (files trees f) f) f.vars (length f.nodes)
