-- What is kept of a list of locations, and of all of a server's.
use Rattle.std.specs.Prelude.{◌≡◌, ℕ, ◌<◌, List, Option, Some, None, slice_get}
use Rattle.pattern_search.specs.site_model.declared.site.Location.{Location as CodeLocation}
use Rattle.location_match.specs.Numbers.{number_in, LeadsAs}
use Rattle.location_search.specs.Lists.{Member, Numbered, members, is_exactly, is_prefix, is_firm, texts_in, patterns_in, numbered}
use Rattle.location_search.specs.Lists.Numbered.{NoneLeft, Nest}
use Rattle.location_search.specs.declared.node.Node.{Node}
use Rattle.location_search.specs.declared.node.LocationList.{LocationList}
use Rattle.location_search.specs.declared.node.Tree.{Tree}

-- the list is searched by what these locations have
pub record HasList (list : LocationList) (ms : List Member) : Type 0 where
  pub exact : LeadsAs list.exact (number_in (texts_in is_exactly ms))
  pub prefixes : LeadsAs list.prefixes (number_in (texts_in is_prefix ms))
  pub patterns : list.patterns.items ≡ patterns_in ms

-- the node with this number is a location's, and has the list in it
pub record IsNodeOf (nodes : List Node) (number : ℕ) (here : CodeLocation) (inner : List Member) : Type 0 where
  pub node : Node
  pub is : slice_get nodes number ≡ Some node
  pub level : node.level ≡ here.level
  pub firm : node.firm ≡ is_firm here.kind
  pub list : HasList node.list inner

-- each location has a node, all with numbers below this one, and those in a location below its own
unfoldable pub HaveNodes : List Node → ℕ → Numbered → Type 0
HaveNodes nodes bound NoneLeft = Unit {0}
HaveNodes nodes bound (Nest n l inner later) =
    (n < bound) × IsNodeOf nodes n l (members inner) × HaveNodes nodes n inner × HaveNodes nodes bound later

-- the node with this number has these locations
pub record IsListAt (nodes : List Node) (number : ℕ) (tree : Numbered) : Type 0 where
  pub node : Node
  pub is : slice_get nodes number ≡ Some node
  pub list : HasList node.list (members tree)
  pub inner : HaveNodes nodes number tree

-- where there is no number there are none
abbrev pub IsTreeAt : List Node → Option ℕ → Numbered → Type 0
IsTreeAt nodes None tree = tree ≡ NoneLeft
IsTreeAt nodes (Some number) tree = IsListAt nodes number tree

-- the tree has a server's locations
abbrev pub IsTreeOf : Tree → List CodeLocation → Type 0
IsTreeOf tree locations = IsListAt tree.nodes.items tree.own (numbered locations)
