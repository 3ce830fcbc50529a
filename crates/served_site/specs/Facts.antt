-- What a served site knows of its locations and servers has one proof at most.
use mathlib.Core.HLevel.{Π_prop, ×_prop, Unit-prop, is_prop→PathP}
use base.Stored.{Coded-set}
use Rattle.std.specs.Prelude.{◌≡◌, ℕ, List, [], ◌∷◌, Option, Some, slice_get}
use Rattle.std.proofs.Props.{props}
use Rattle.std.proofs.Common.{sym, ◌∙◌}
use Rattle.site_model.specs.declared.site.Location.{Location as CodeLocation}
use Rattle.site_model.specs.declared.site.Server.{Server}
use Rattle.site_model.specs.declared.site.Site.{Site}
use Rattle.server_choice.specs.Listening.{AreOf as AreOfSite, IsEntryOf, AreEntriesOf}
use Rattle.server_choice.specs.declared.servers.Entry.{Entry}
use Rattle.server_choice.specs.declared.servers.Servers.{Servers}
use Rattle.location_search.specs.Lists.{Member, Numbered, members, is_firm}
use Rattle.location_search.specs.Lists.Numbered.{NoneLeft, Nest}
use Rattle.location_search.specs.Nodes.{HasList, IsNodeOf, HaveNodes, IsListAt}
use Rattle.location_search.specs.Served.{AreOf}
use Rattle.location_search.specs.declared.node.Node.{Node}
use Rattle.location_search.specs.declared.node.LocationList.{LocationList}
use Rattle.location_search.specs.declared.locations.Locations.{Locations}
use Rattle.location_search.specs.contracts.node.Node as node_row
use Rattle.served_site.specs.Each.{AreOfEach}

entry_prop : (e : Entry) (servers : List Server) → IsProp (IsEntryOf e servers)
entry_prop e servers = hlevel props

entries_prop : (es : List Entry) (servers : List Server) → IsProp (AreEntriesOf es servers)
unfolding AreEntriesOf
entries_prop [] servers = Unit-prop
entries_prop (e ∷ es) servers = ×_prop (entry_prop e servers) (entries_prop es servers)

pub servers_prop : (servers : Servers) (site : Site) → IsProp (AreOfSite servers site)
servers_prop servers site = hlevel (entries_prop, props)

list_prop : (list : LocationList) (ms : List Member) → IsProp (HasList list ms)
list_prop list ms = hlevel props

Node-set : IsSet Node
Node-set = Coded-set node_row.the_row.coded

same_node : (x y : Option Node) → IsProp (x ≡ y)
same_node x y = hlevel (Node-set, props)

node_prop : (nodes : List Node) (number : ℕ) (here : CodeLocation) (inner : List Member)
    → IsProp (IsNodeOf nodes number here inner)
node_prop nodes number here inner a b =
    let e : Some a.node ≡ Some b.node = sym a.is ∙ b.is in
    let p : a.node ≡ b.node = cc in
    λ i. record {
      node = p i;
      is = is_prop→PathP (λ i. slice_get nodes number ≡ Some (p i))
          (λ i. same_node (slice_get nodes number) (Some (p i))) a.is b.is i;
      level = is_prop→PathP (λ i. (p i).level ≡ here.level) (λ i. hlevel props) a.level b.level i;
      firm =
          is_prop→PathP (λ i. (p i).firm ≡ is_firm here.kind) (λ i. hlevel props) a.firm b.firm i;
      list = is_prop→PathP (λ i. HasList (p i).list inner)
          (λ i. list_prop (p i).list inner) a.list b.list i;
    }

have_prop : (nodes : List Node) (bound : ℕ) (tree : Numbered) → IsProp (HaveNodes nodes bound tree)
unfolding HaveNodes
have_prop nodes bound NoneLeft = Unit-prop
have_prop nodes bound (Nest n l inner later) =
    let a = node_prop nodes n l (members inner) in
    let b = have_prop nodes n inner in
    let c = have_prop nodes bound later in
    hlevel (a, b, c, props)

tree_prop : (nodes : List Node) (number : ℕ) (tree : Numbered) → IsProp (IsListAt nodes number tree)
tree_prop nodes number tree a b =
    let e : Some a.node ≡ Some b.node = sym a.is ∙ b.is in
    let p : a.node ≡ b.node = cc in
    λ i. record {
      node = p i;
      is = is_prop→PathP (λ i. slice_get nodes number ≡ Some (p i))
          (λ i. same_node (slice_get nodes number) (Some (p i))) a.is b.is i;
      list = is_prop→PathP (λ i. HasList (p i).list (members tree))
          (λ i. list_prop (p i).list (members tree)) a.list b.list i;
      inner = have_prop nodes number tree a.inner b.inner i;
    }

pub locations_prop : (l : Locations) (s : Server) → IsProp (AreOf l s)
locations_prop l s = hlevel (tree_prop, props)

pub each_prop : (locations : List Locations) (spare_locations : Locations) (servers : List Server)
    (spare : Server) → IsProp (AreOfEach locations spare_locations servers spare)
each_prop locations spare_locations servers spare = Π_prop (λ number. locations_prop _ _)
