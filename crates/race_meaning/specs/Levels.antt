-- All levels and programs of a server.
use Rattle.std.specs.Prelude.{List, [], ◌∷◌, ◌++◌, map, flat_map, None, Some}
use Rattle.family_meaning.specs.site_views.Values.{Values}
use Rattle.family_meaning.specs.site_views.Rewrites.{Directive, Program}
use Rattle.family_meaning.specs.site_views.Rewrites.Directive.{Set, If, Rewrite, Return, Stop}
use Rattle.family_meaning.specs.site_views.Views.{LevelView, Locations, NamedView, ServerView}
use Rattle.family_meaning.specs.site_views.Views.Locations.{NoMore, Location}

-- the levels with programs of their own: the server's own, those of its locations, and of its locations `@name`
unfoldable pub location_levels : Locations → List LevelView
location_levels NoMore = []
location_levels (Location here inner later) = here.level ∷ (location_levels inner ++ location_levels later)

unfoldable pub inner_levels : ServerView → List LevelView
inner_levels server = location_levels server.locations ++ map (λ (n : NamedView). n.level) server.named

unfoldable pub levels : ServerView → List LevelView
levels server = server.level ∷ inner_levels server

-- the programs, the server's own first
unfoldable pub programs : ServerView → List Program
programs server = map (λ (l : LevelView). l.program) (levels server)

-- the values of all levels, those of `if` blocks too
abbrev pub block_values : Directive → List Values
block_values (Set name text) = []
block_values (If test negated block None) = []
block_values (If test negated block (Some values)) = values ∷ []
block_values (Rewrite pattern to is_url flag) = []
block_values (Return code text) = []
block_values Stop = []

unfoldable pub level_values : LevelView → List Values
level_values level = level.values ∷ flat_map block_values level.program

unfoldable pub all_values : ServerView → List Values
all_values server = flat_map level_values (levels server)
