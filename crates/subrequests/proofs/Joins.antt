-- A node that has a stub, and those whose bytes come to it.
use Rattle.std.proofs.Common.{◌≡◌, ◌≢◌, ◌<◌, ◌≤◌, ℕ, ◌+◌, ◌==◌, ◌||◌, nat_lt, Bool, true, false, not, cond, List, [], ◌∷◌, ◌++◌, length, set, get_or, slice_get, Option, None, Some, refl, sym, ap, ◌∙◌, subst, arith}
use Rattle.acts.specs.Vars.{Vars}
use Rattle.file_tree.specs.Tree.{Tree, Trees}
use Rattle.ngx_pattern.specs.Pattern.{Pattern as SetPattern}
use Rattle.ngx_variables.specs.declared.request.Main.{Main}
use Rattle.site_model.specs.declared.site.Site.{Site}
use Rattle.postpone_filter.specs.Row.{Row, is_open, ended, reopened}
use Rattle.postpone_filter.specs.Buffers.{IsLawful}
use Rattle.request_meaning.specs.Serving.{World}
use Rattle.family_order.specs.Items.{IsWellRow}
use Rattle.family_order.specs.Laws.{ShowsTheSame}
use Rattle.family_order.proofs.Wells.{well-reopened}
use Rattle.node_line.specs.node_turn.declared.node.Node.{Node}
use Rattle.node_line.specs.node_turn.declared.node.Place.{Place}
use Rattle.node_line.specs.node_turn.declared.node.Place.TheVariants.{Row as InRow, Stub, Gathers, Captured}
use Rattle.node_line.specs.Stances.{Opening}
use Rattle.node_line.proofs.Steps as steps
use Rattle.node_seats.specs.Seats.{NoInner, doing_by, is_captured, is_seated, most_levels, most_nodes, seen, stance_in}
use Rattle.node_seats.specs.Joining.{AreInner, IsShownAt, Joins, JoinsOne, joined_place}
use Rattle.node_seats.specs.Joining.Joins.{None_more, One_more}
use Rattle.node_seats.proofs.Gathering.{GathersAs, gathers_frees, same_stances, stub_gathers}
use Rattle.node_seats.proofs.Joined.{Few, Rising}
use Rattle.node_seats.proofs.Rowed.{joined_free, not_twice, others_stay}
use Rattle.node_seats.proofs.Shown.{joins_row}
use Rattle.subrequests.specs.Families.{IsSound, captured_at, freed_place, gathering_place, goes_on_at, has_stub, is_gathering, rises_at, texts_of, with_text}
use Rattle.subrequests.specs.Moved.{SameTexts}
use Rattle.family_nodes.proofs.Sets as sets
use Rattle.family_nodes.proofs.Sets.{get_set_other, get_set_same, length_set}
use Rattle.subrequests.proofs.Members as members
use Rattle.subrequests.proofs.Wholes as wholes

-- ---- one to which no bytes of subrequests come

pub gathering : (p : Place) → has_stub p ≡ true → GathersAs p (gathering_place p)
gathering InRow e = cc
gathering (Stub stub text) e = stub_gathers stub text
gathering (Gathers stub text) e = cc
gathering (Captured stub text) e = cc

pub freeing : (p : Place) → is_gathering p ≡ true → GathersAs p (freed_place p)
freeing InRow e = cc
freeing (Stub stub text) e = cc
freeing (Gathers stub text) e = gathers_frees stub text
freeing (Captured stub text) e = cc

-- it is the same whether they may come
pub same_step : (laws : ShowsTheSame) (w : World) (patterns : List SetPattern) (site : Site) (main : Main) (row : Row) (nodes : List Node) (texts : ℕ → List ℕ) (at : ℕ) (old : Node) (p : Place) → slice_get nodes at ≡ Some old →
    IsSound row nodes → is_seated nodes at (slice_get nodes at) ≡ true → NoInner nodes at 0 most_nodes → GathersAs old.place p → (tree : Tree) (vars : Vars) →
    Opening w tree 0 (seen w patterns site main row nodes texts) vars (seen w patterns site main row (set nodes at (record old { place = p })) texts) vars
same_step laws w patterns site main row nodes texts at old p there sound seat none gathers tree vars =
    steps.alike (laws.others (seen w patterns site main row nodes texts) (stance_in (doing_by w patterns site main texts) (set nodes at (record old { place = p })) most_levels)
    (λ j e. same_stances w patterns site main texts nodes at old p there gathers (members.asks_none nodes at old there seat) (members.bare_found nodes at old there sound.few none) j)) steps.stays

-- a place with other bytes that are withheld, twice
pub text_twice : (bytes more : List ℕ) (p : Place) → with_text more (with_text bytes p) ≡ with_text more p
text_twice bytes more InRow = refl
text_twice bytes more (Stub stub text) = refl
text_twice bytes more (Gathers stub text) = refl
text_twice bytes more (Captured stub text) = refl

-- ---- one that joins the row

pub some_of : (o : Option Node) → goes_on_at o ≡ true → (n : Node) × (o ≡ Some n)
some_of None e = cc
some_of (Some n) e = (n, refl)

no : false ≡ true → ⊥
no e = cc

number_is : (row : Row) (nodes : List Node) (id : ℕ) (n : Node) → slice_get nodes id ≡ Some n → is_captured n.place ≡ true → IsSound row nodes → id ≢ 0
number_is row nodes id n there captured sound e =
    no (sym (members.first_free nodes (sound.rises 0)) ∙ ap (λ i. captured_at (slice_get nodes i)) (sym e) ∙ ap captured_at there ∙ captured)

pub one_sound : (row row' : Row) (nodes : List Node) (at id : ℕ) (n : Node) → slice_get nodes id ≡ Some n → is_captured n.place ≡ true → n.over ≡ false → IsSound row nodes →
    row' ≡ reopened at id (ended id row) → IsLawful row'.nodes row'.pieces → ((j : ℕ) → is_open j row'.pieces ≡ cond (j == id) true (cond (j == id) false (is_open j row.pieces))) →
    IsSound row' (set nodes id (record n { place = joined_place n.place }))
one_sound row row' nodes at id n there captured over sound rows lawful opened = record {
  well = subst (IsWellRow 0) (sym rows)
      (well-reopened 0 at id (ended id row) (members.ended_well row (ended id row) id sound.well child refl) (members.apart_number id 0 child) (subst (λ (r : Row). IsLawful r.nodes r.pieces) rows lawful));
  few = subst (λ k. k ≤ 1001) (sym (length_set nodes id (record n { place = joined_place n.place }))) sound.few;
  count = ap (λ (r : Row). r.nodes) rows ∙ sound.count ∙ sym (length_set nodes id (record n { place = joined_place n.place }));
  going = λ j. opened j ∙ going j (j == id) refl;
  rises = λ j. rises j (j == id) refl;
}
  where
    child : id ≢ 0
    child = number_is row nodes id n there captured sound

    here : (j : ℕ) → (j == id) ≡ true → slice_get (set nodes id (record n { place = joined_place n.place })) j ≡ Some (record n { place = joined_place n.place })
    here j e = ap (slice_get (set nodes id (record n { place = joined_place n.place }))) (members.same_number j id e) ∙ get_set_same nodes id (record n { place = joined_place n.place }) n there

    other : (j : ℕ) → (j == id) ≡ false → slice_get (set nodes id (record n { place = joined_place n.place })) j ≡ slice_get nodes j
    other j e = get_set_other nodes id j (record n { place = joined_place n.place }) (members.other_number j id e)

    going : (j : ℕ) (b : Bool) → (j == id) ≡ b → cond b true (cond b false (is_open j row.pieces)) ≡ goes_on_at (slice_get (set nodes id (record n { place = joined_place n.place })) j)
    going j true e = ap not (sym over) ∙ ap goes_on_at (sym (here j e))
    going j false e = sound.going j ∙ ap goes_on_at (sym (other j e))

    rises : (j : ℕ) (b : Bool) → (j == id) ≡ b → rises_at j (slice_get (set nodes id (record n { place = joined_place n.place })) j) ≡ true
    rises j true e = ap (rises_at j) (here j e) ∙ ap (λ b. not b || nat_lt n.parent j) (joined_free n.place captured)
    rises j false e = ap (rises_at j) (other j e) ∙ sound.rises j

-- ---- one after another

-- one more
pub joins_more : (at id : ℕ) (list : List ℕ) (row later last : Row) (nodes those ends : List Node) → Joins at list row nodes later those → JoinsOne at id later those last ends → Joins at (list ++ id ∷ []) row nodes last ends
joins_more at id _ row _ last nodes _ ends None_more one = One_more one None_more
joins_more at id _ row later last nodes those ends (One_more {number} {numbers} {row'} {nodes'} first more) one = One_more first (joins_more at id numbers row' later last nodes' those ends more one)

joined_length : (at : ℕ) (list : List ℕ) (row last : Row) (nodes ends : List Node) → Joins at list row nodes last ends → length ends ≡ length nodes
joined_length at _ row _ nodes _ None_more = refl
joined_length at _ row last nodes ends (One_more {number} {numbers} {row'} {nodes'} one more) =
    joined_length at numbers row' last nodes' ends more ∙ ap length one.nodes_are ∙ length_set nodes number (record one.node { place = joined_place one.node.place })

-- they read the same
joined_texts : (at : ℕ) (list : List ℕ) (row last : Row) (nodes ends : List Node) → Joins at list row nodes last ends → (trees : Trees) (j : ℕ) → texts_of trees nodes j ≡ texts_of trees ends j
joined_texts at _ row _ nodes _ None_more trees j = refl
joined_texts at _ row last nodes ends (One_more {number} {numbers} {row'} {nodes'} one more) trees j =
    members.set_texts trees nodes number one.node (record one.node { place = joined_place one.node.place }) one.there refl j
    ∙ ap (λ ns. texts_of trees ns j) (sym one.nodes_are)
    ∙ joined_texts at numbers row' last nodes' ends more trees j

-- ---- one that is shown

rising : (row : Row) (nodes : List Node) → IsSound row nodes → Rising nodes
rising row nodes sound c m here captured =
    members.less_of m.parent c (sym (ap (λ b. not b || nat_lt m.parent c) captured) ∙ sym (ap (rises_at c) here) ∙ sound.rises c)

few_are : (row : Row) (nodes : List Node) → IsSound row nodes → Few nodes
unfolding most_nodes
few_are row nodes sound c m here = let less = members.there_less nodes c m here in let few = sound.few in omega (arith, less, few)

-- the node, and those that joined the row before it
pub record AsJoined (row row' : Row) (nodes nodes' : List Node) (at : ℕ) : Type 0 where
  pub node : Node
  pub list : List ℕ
  pub there : slice_get nodes at ≡ Some node
  pub goes : goes_on_at (slice_get nodes at) ≡ true
  pub sound : IsSound row nodes
  pub shown : IsShownAt nodes at
  pub inner : AreInner nodes at list
  pub joins : Joins at list row nodes row' nodes'
  pub then : IsSound row' nodes'

pub as_joined : (row row' : Row) (nodes nodes' : List Node) (at : ℕ) (list : List ℕ) → goes_on_at (slice_get nodes at) ≡ true → IsSound row nodes → IsShownAt nodes at → AreInner nodes at list → Joins at list row nodes row' nodes' →
    (IsSound row nodes → IsSound row' nodes') → AsJoined row row' nodes nodes' at
as_joined row row' nodes nodes' at list goes_on sound shown inner joins keeps =
    let q = some_of (slice_get nodes at) goes_on in
    record { node = q.0; list = list; there = q.1; goes = goes_on; sound = sound; shown = shown; inner = inner; joins = joins; then = keeps sound }

module _ (row row' : Row) (nodes nodes' : List Node) (at : ℕ) (r : AsJoined row row' nodes nodes' at) where
  abbrev pub in_row : Node
  in_row = record r.node { place = InRow }

  free : is_captured r.node.place ≡ false
  free = ap is_captured (r.shown r.node r.there).place

  pub there_then : slice_get nodes' at ≡ Some r.node
  there_then = sym (others_stay at r.list row row' nodes nodes' r.joins at (not_twice at r.list row row' nodes nodes' r.joins at r.node r.there free)) ∙ r.there

  pub is_there : at < length nodes'
  is_there = members.there_less nodes' at r.node there_then

  -- what is put in its place
  pub put_is : (old new : Node) → old ≡ get_or nodes' at old → new ≡ record old { place = InRow } → new ≡ in_row
  put_is old new is e =
      let same : old ≡ r.node = wholes.some_same old r.node (sym (sets.there_some nodes' at old is_there is) ∙ there_then) in
      e ∙ ap (λ (n : Node). record n { place = InRow }) same

  pub whole : IsSound row' (set nodes' at in_row)
  whole = members.set_sound row' row' nodes' at r.node in_row there_then r.then r.then.well refl (λ j. refl) refl (sym free) refl

  pub many : length (set nodes' at in_row) ≡ length nodes + 0
  many = length_set nodes' at in_row ∙ joined_length at r.list row row' nodes nodes' r.joins ∙ (let e : length nodes ≡ length nodes + 0 = omega arith in e)

  pub texts_are : (trees : Trees) → SameTexts (set nodes' at in_row) (texts_of trees nodes) (texts_of trees (set nodes' at in_row))
  texts_are trees j n e reads = joined_texts at r.list row row' nodes nodes' r.joins trees j ∙ members.set_texts trees nodes' at r.node in_row there_then refl j

  pub opening : (w : World) (patterns : List SetPattern) (site : Site) (main : Main) (texts : ℕ → List ℕ) (tree : Tree) (vars : Vars) →
      Opening w tree 0 (seen w patterns site main row nodes texts) vars (seen w patterns site main row' (set nodes' at in_row) texts) vars
  opening w patterns site main texts tree vars =
      joins_row w patterns site main texts tree vars row row' nodes nodes' at r.node r.list r.there (r.shown r.node r.there) (rising row nodes r.sound) (few_are row nodes r.sound) (r.inner r.node r.there).0 (r.inner r.node r.there).1 r.joins
      r.sound.well.lawful (r.sound.going at ∙ r.goes)
      (members.seen_well w patterns site main row' (set nodes' at in_row) texts whole)
