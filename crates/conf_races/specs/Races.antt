-- The variables that are named in the servers of a configuration, with the places of their directives.
use Rattle.std.specs.Prelude.{◌≡◌, ℕ, ◌+◌, Bool, List, [], ◌∷◌, ◌++◌, map, codes}
use Rattle.conf_text.specs.declared.directive.Directive.{Directive}
use Rattle.site_views.specs.Views.{ServerView}
use Rattle.conf_block.specs.Forest.{Forest, End, forest_of}
use Rattle.conf_block.specs.Blocks.{Block, blocks_of, http_in}
use Rattle.conf_inherit.specs.Built.{set_in}
use Rattle.race_meaning.specs.Conflicts.{Conflict, AreConflicts}
use Rattle.race_places.specs.Places.{server_sources, conflict_seen}
use Rattle.conf_races.specs.Origins.{Outer, nowhere, outer_over, server_origins}
use Rattle.conf_races.specs.Runs.{in_runs, run_files, run_path}
use Rattle.conf_races.specs.declared.named.FoundRaces.{FoundRaces}

abbrev pub first_body : List Block → Forest
first_body [] = End
first_body (b ∷ blocks) = b.body

abbrev pub behind : List Block → List Block
behind [] = []
behind (b ∷ blocks) = blocks

module _ (files : ℕ → List ℕ) (known : List ℕ → Bool) (outer : Outer) where
  -- Of each server in turn, which count from `number` on, exactly its named variables, in rising order, each with the lines
  -- of the directives of its block that set it and that read it, and of those around the block that hold in it.
  unfoldable pub AreRaces : (number : ℕ) → List ServerView → List Block → List Conflict → Type 0
  AreRaces number [] blocks conflicts = conflicts ≡ []
  AreRaces number (server ∷ servers) blocks conflicts =
      (here : List Conflict) × (later : List Conflict)
      × AreConflicts number server
      (server_sources files server (server_origins known outer (first_body blocks))) here
      × AreRaces (number + 1) servers (behind blocks) later × (conflicts ≡ here ++ later)

abbrev pub RacesIn : (files : ℕ → List ℕ) → List Directive → (http : Forest) → List ServerView
    → List Conflict → Type 0
RacesIn files ds http servers conflicts = AreRaces files (set_in ds) (outer_over http nowhere) 1
    servers (blocks_of (codes "server") http) conflicts

-- of the servers of these directives, with the paths of the files by their numbers
abbrev pub RacesBy : (files : ℕ → List ℕ) → List Directive → List ServerView → List Conflict
    → Type 0
RacesBy files ds servers conflicts = RacesIn files ds (http_in (forest_of ds)) servers conflicts

-- Of the servers that a configuration's directives describe, with the paths of its files by their numbers: places are in the
-- order of the text, as it is with its included files in their places.
abbrev pub RacesOf : (paths : ℕ → List ℕ) → List Directive → List ServerView → List Conflict
    → Type 0
RacesOf paths ds servers conflicts =
    RacesBy (run_path paths (run_files ds)) (in_runs ds) servers conflicts

-- what is told, with the paths of the files
abbrev pub conflicts_seen : (paths : ℕ → List ℕ) → FoundRaces → List Conflict
conflicts_seen paths races =
    map (conflict_seen (run_path paths races.files.items)) races.conflicts.items
