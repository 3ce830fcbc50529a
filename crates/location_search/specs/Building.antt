-- How the nodes are made, from the last location to the first.
use Rattle.std.specs.Prelude.{◌≡◌, ℕ, nat_lt, Bool, true, List, [], ◌∷◌, length, map, reverse, Option, None, Some, if◌then◌else◌}
use Rattle.pattern_search.specs.site_model.declared.site.Location.{Location as CodeLocation}
use Rattle.location_match.specs.Numbers.{number_in, LeadsAs}
use Rattle.location_search.specs.Lists.{Member, members, numbered, is_exactly, is_prefix, texts_in, patterns_in}
use Rattle.location_search.specs.Nodes.{HaveNodes}
use Rattle.location_search.specs.declared.node.Node.{Node}
use Rattle.location_search.specs.declared.node.LocationList.{LocationList}
use Rattle.location_search.specs.declared.build.Open.{Open}
use Rattle.location_search.specs.declared.build.Gathered.{Gathered}

abbrev pub listed : Open → Member
listed o = record { number = o.number; here = o.location.now }

-- in the order of the text: the last comes first
abbrev pub all_listed : List Open → List Member
all_listed waiting = map listed (reverse waiting)

-- the location is in one of this depth, or in any list where there is none
abbrev pub is_inside : Option ℕ → CodeLocation → Bool
is_inside None l = true
is_inside (Some depth) l = nat_lt depth l.depth

-- those up to the first that isn't in it, and the others
unfoldable pub taken : Option ℕ → List Member → List Member
taken depth [] = []
taken depth (m ∷ ms) = if is_inside depth m.here then m ∷ taken depth ms else []

unfoldable pub left : Option ℕ → List Member → List Member
left depth [] = []
left depth (m ∷ ms) = if is_inside depth m.here then left depth ms else m ∷ ms

-- the first that comes isn't in it
abbrev pub HasNoneInside : Option ℕ → List Open → Type 0
HasNoneInside depth waiting = (taken depth (all_listed waiting) ≡ []) × (left depth (all_listed waiting) ≡ all_listed waiting)

-- these are the texts and patterns of the locations
pub record Gathers (g : Gathered) (ms : List Member) : Type 0 where
  pub exact : g.exact.items ≡ texts_in is_exactly ms
  pub prefixes : g.prefixes.items ≡ texts_in is_prefix ms
  pub patterns : g.patterns.items ≡ patterns_in ms

pub record GathersAll (g : Gathered) (depth : Option ℕ) (old new : List Open) : Type 0 where
  pub gathers : Gathers g (taken depth (all_listed old))
  pub others : all_listed new ≡ left depth (all_listed old)

pub record HasTexts (list : LocationList) (g : Gathered) : Type 0 where
  pub exact : LeadsAs list.exact (number_in g.exact.items)
  pub prefixes : LeadsAs list.prefixes (number_in g.prefixes.items)
  pub patterns : list.patterns.items ≡ g.patterns.items

-- the nodes of these locations, and those of them that are in no other
pub record IsBuilt (nodes : List Node) (waiting : List Open) (locations : List CodeLocation) : Type 0 where
  pub count : length nodes ≡ length locations
  pub others : all_listed waiting ≡ members (numbered locations)
  pub have : HaveNodes nodes (length locations) (numbered locations)
