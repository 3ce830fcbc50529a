-- What is so of all levels of a server is so of the level that a search finds.
use Rattle.std.proofs.Common.{◌≡◌, ℕ, nat_eq, nat_le, Bool, true, false, List, [], ◌∷◌, map, length, bytes_eq, find, Option, None, Some, option_map, subst, if◌then◌else◌}
use Rattle.std.specs.List.{starts_with}
use Rattle.family_meaning.specs.site_views.Pattern.{Finds, Span, groups_in}
use Rattle.family_meaning.specs.site_views.Views.{LevelView, Locations, Matching, NamedView, ServerView}
use Rattle.family_meaning.specs.site_views.Views.Locations.{NoMore, Location}
use Rattle.family_meaning.specs.site_views.Views.Matching.{Exactly, Prefix, FirmPrefix, Regex}
use Rattle.family_meaning.specs.site_views.Search.{Found, Sought, LongestPrefix, Candidates, plain, inner_or, matched, longer, with_prefix, with_regex, with_location, remembered, by_regex, by_prefix, decided, candidates, search, named}
use Rattle.race_meaning.specs.Levels.{location_levels, inner_levels, levels}
use Rattle.race_meaning.proofs.Eaches.{Each, each_first, each_second}

some_is : {A : Type 0} {a b : A} → Some a ≡ Some b → a ≡ b
some_is e = cc

no_some : {A B : Type 0} {a : A} → None ≡ Some a → B
no_some e = cc

module _ (L : LevelView → Type 0) where
  -- it is so of the levels of a list of locations, and of those of locations `@name`
  abbrev AllIn : Locations → Type 0
  AllIn NoMore = Unit {0}
  AllIn (Location here inner later) = L here.level × (AllIn inner × AllIn later)

  abbrev AllNames : List NamedView → Type 0
  AllNames [] = Unit {0}
  AllNames (n ∷ others) = L n.level × AllNames others

  abbrev HasFound : Option Found → Type 0
  HasFound None = Unit {0}
  HasFound (Some f) = L f.level

  abbrev HasPrefix : Option LongestPrefix → Type 0
  HasPrefix None = Unit {0}
  HasPrefix (Some p) = L p.level × HasFound p.inner.found

  abbrev HasAll : Candidates → Type 0
  HasAll c = HasFound c.exact × (HasPrefix c.prefix × HasFound c.regex)

  has_inner : (o : Option Found) (own : Found) → HasFound o → L own.level → L (inner_or o own).level
  has_inner None own h g = g
  has_inner (Some f) own h g = h

  has_matched : (level : LevelView) (groups : List (List ℕ)) (inner : Option Found) → L level → HasFound inner → L (matched level groups inner).level
  has_matched level groups None h g = h
  has_matched level groups (Some inner) h g = g

  has_if : (b : Bool) (c d : Candidates) → HasAll c → HasAll d → HasAll (if b then c else d)
  has_if true c d h g = h
  has_if false c d h g = g

  has_either : (b : Bool) (p q : LongestPrefix) → HasPrefix (Some p) → HasPrefix (Some q) → HasPrefix (Some (if b then p else q))
  has_either true p q h g = h
  has_either false p q h g = g

  has_longer : (p : LongestPrefix) (o : Option LongestPrefix) → HasPrefix (Some p) → HasPrefix o → HasPrefix (Some (longer p o))
  has_longer p None h g = h
  has_longer p (Some q) h g = has_either (nat_le q.size p.size) p q h g

  has_with_prefix : (path text : List ℕ) (p : LongestPrefix) (c : Candidates) → HasPrefix (Some p) → HasAll c → HasAll (with_prefix path text p c)
  has_with_prefix path text p c h g =
      has_if (starts_with nat_eq path text) (record c { prefix = Some (longer p c.prefix) }) c (g.0, (has_longer p c.prefix h g.1.0, g.1.1)) g

  has_with_regex : (path : List ℕ) (level : LevelView) (inner : Option Found) (spans : Option (List Span)) (c : Candidates) → L level → HasFound inner → HasAll c → HasAll (with_regex path level inner spans c)
  has_with_regex path level inner None c l i g = g
  has_with_regex path level inner (Some spans) c l i g = (g.0, (g.1.0, has_matched level (groups_in path spans) inner l i))

  has_location : (finds : Finds) (path : List ℕ) (level : LevelView) (m : Matching) (inner : Sought) (c : Candidates) → L level → HasFound inner.found → HasAll c → HasAll (with_location finds path level m inner c)
  has_location finds path level (Exactly text) inner c l i g = has_if (bytes_eq text path) (record c { exact = Some (plain level) }) c (l, g.1) g
  has_location finds path level (Prefix text) inner c l i g = has_with_prefix path text (record { size = length text; firm = false; level = level; inner = inner }) c (l, i) g
  has_location finds path level (FirmPrefix text) inner c l i g = has_with_prefix path text (record { size = length text; firm = true; level = level; inner = inner }) c (l, i) g
  has_location finds path level (Regex pattern) inner c l i g = has_with_regex path level inner.found (finds pattern path) c l i g

  has_by_regex : (r other : Option Found) → HasFound r → HasFound other → HasFound (by_regex r other).found
  has_by_regex (Some f) other h g = h
  has_by_regex None other h g = g

  has_one : (b : Bool) (s t : Sought) → HasFound s.found → HasFound t.found → HasFound (if b then s else t).found
  has_one true s t h g = h
  has_one false s t h g = g

  has_by_prefix : (p : Option LongestPrefix) (r : Option Found) → HasPrefix p → HasFound r → HasFound (by_prefix p r).found
  has_by_prefix None r h g = has_by_regex r None g tt
  has_by_prefix (Some p) r h g =
      let own : Sought = record { ends = false; found = Some (remembered p) } in
      let kept = has_inner p.inner.found (plain p.level) h.1 h.0 in
      has_one p.inner.ends p.inner (if p.firm then own else by_regex r (Some (remembered p))) h.1
      (has_one p.firm own (by_regex r (Some (remembered p))) kept (has_by_regex r (Some (remembered p)) g kept))

  has_exact : (e : Option Found) (p : Option LongestPrefix) (r : Option Found) → HasAll (record { exact = e; prefix = p; regex = r }) → HasFound (decided (record { exact = e; prefix = p; regex = r })).found
  has_exact (Some f) p r h = h.0
  has_exact None p r h = has_by_prefix p r h.1.0 h.1.1

  has_candidates : (finds : Finds) (path : List ℕ) (locations : Locations) → AllIn locations → HasAll (candidates finds path locations)
  unfolding candidates
  has_candidates finds path NoMore h = (tt, (tt, tt))
  has_candidates finds path (Location here inner later) h =
      let i = candidates finds path inner in
      has_location finds path here.level here.matching (decided i) (candidates finds path later) h.0
      (has_exact i.exact i.prefix i.regex (has_candidates finds path inner h.1.0)) (has_candidates finds path later h.1.1)

  has_some : (o : Option Found) (f : Found) → HasFound o → o ≡ Some f → L f.level
  has_some None f h e = no_some e
  has_some (Some g) f h e = subst (λ (x : Found). L x.level) (some_is e) h

  pub search_has : (finds : Finds) (locations : Locations) → AllIn locations → (path : List ℕ) (f : Found) → search finds locations path ≡ Some f → L f.level
  unfolding search
  search_has finds locations h path f e =
      let c = candidates finds path locations in
      has_some (decided c).found f (has_exact c.exact c.prefix c.regex (has_candidates finds path locations h)) e

  has_name : (name : List ℕ) (b : Bool) (n : NamedView) (o : Option NamedView) (l : LevelView) → L n.level → (option_map (λ (n : NamedView). n.level) o ≡ Some l → L l) → option_map (λ (n : NamedView). n.level) (if b then Some n else o) ≡ Some l → L l
  has_name name true n o l h f e = subst L (some_is e) h
  has_name name false n o l h f e = f e

  has_named : (ns : List NamedView) → AllNames ns → (name : List ℕ) (l : LevelView) → option_map (λ (n : NamedView). n.level) (find (λ (n : NamedView). bytes_eq n.name name) ns) ≡ Some l → L l
  has_named [] h name l e = no_some e
  has_named (n ∷ ns) h name l e = has_name name (bytes_eq n.name name) n (find (λ (n : NamedView). bytes_eq n.name name) ns) l h.0 (has_named ns h.1 name l) e

  pub named_has : (server : ServerView) → AllNames server.named → (name : List ℕ) (l : LevelView) → named server name ≡ Some l → L l
  unfolding named
  named_has server h name l e = has_named server.named h name l e

  -- ---- from the list of all levels

  all_in : (locations : Locations) → Each L (location_levels locations) → AllIn locations
  unfolding location_levels
  all_in NoMore h = tt
  all_in (Location here inner later) h =
      (h.0, (all_in inner (each_first L (location_levels inner) (location_levels later) h.1), all_in later (each_second L (location_levels inner) (location_levels later) h.1)))

  all_names : (ns : List NamedView) → Each L (map (λ (n : NamedView). n.level) ns) → AllNames ns
  all_names [] h = tt
  all_names (n ∷ ns) h = (h.0, all_names ns h.1)

  pub own_of : (server : ServerView) → Each L (levels server) → L server.level
  unfolding levels
  own_of server h = h.0

  pub found_of : (server : ServerView) → Each L (levels server) → (finds : Finds) (path : List ℕ) (f : Found) → search finds server.locations path ≡ Some f → L f.level
  unfolding levels inner_levels
  found_of server h finds path f e =
      search_has finds server.locations (all_in server.locations (each_first L (location_levels server.locations) (map (λ (n : NamedView). n.level) server.named) h.1)) path f e

  pub named_of : (server : ServerView) → Each L (levels server) → (name : List ℕ) (l : LevelView) → named server name ≡ Some l → L l
  unfolding levels inner_levels
  named_of server h name l e =
      named_has server (all_names server.named (each_second L (location_levels server.locations) (map (λ (n : NamedView). n.level) server.named) h.1)) name l e
