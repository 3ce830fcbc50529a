-- Where the values and the directives of the levels of a server are, by the directives of the configuration.
use Rattle.std.specs.Prelude.{◌≡◌, ℕ, Bool, true, false, List, [], ◌∷◌, ◌++◌, map, flat_map, Option, None, option_map, codes, if◌then◌else◌}
use Rattle.source_lines.specs.declared.line.Line.{Line}
use Rattle.conf_text.specs.declared.directive.Directive.{Directive}
use Rattle.conf_block.specs.Forest.{Forest, End, Branch}
use Rattle.conf_block.specs.Blocks.{Block, block_of, blocks_of}
use Rattle.conf_block.specs.Locations.{is_found}
use Rattle.rewrite_compile.specs.Programs.{parts_of, line_at}
use Rattle.conf_inherit.specs.Programs.{blocks_in}
use Rattle.conf_inherit.specs.Values.{either, own_or, has_items}
use Rattle.race_places.specs.Places.{Origins, LevelOrigins, list_at}
use Rattle.conf_races.specs.declared.outer.OuterLines.{OuterLines}

abbrev pub line_of : Directive → Line
line_of d = record { file = d.file; line = d.line }

abbrev pub head_line : Block → Line
head_line b = line_of b.head

-- the line of the first directive of this name
abbrev pub first_line : List ℕ → Forest → Option Line
first_line name level = option_map head_line (block_of name level)

-- the line of a directive, once for each of its words
abbrev pub word_lines : Block → List Line
word_lines b = map (λ w. head_line b) b.head.args

-- ---- what levels inherit

-- where the values are stated that hold in a level and in those in it
pub record Outer : Type 0 where
  pub place : Option Line
  pub index : List Line
  pub pages : List Line
  pub auth_sets : List Line

abbrev pub outer_by : List (List Line) → OuterLines → Outer
outer_by lists o = record {
  place = o.place;
  index = list_at lists o.index;
  pages = list_at lists o.pages;
  auth_sets = list_at lists o.auth_sets;
}

-- lists to which others were added
abbrev pub Grows : (old new : List (List Line)) → Type 0
Grows old new = (more : List (List Line)) × (new ≡ old ++ more)

-- by these lists, and whatever is added to them, these numbers are these lines
abbrev pub Means : List (List Line) → OuterLines → Outer → Type 0
Means lists o outer = (later : List (List Line)) → Grows lists later → outer_by later o ≡ outer

abbrev pub nowhere : Outer
nowhere = record { place = None; index = []; pages = []; auth_sets = [] }

-- the line of `root`, or else of `alias`
abbrev pub place_line : Forest → Option Line
place_line level = either (first_line (codes "root") level) (first_line (codes "alias") level)

-- the lines of these directives, one for each value of the list that they state
abbrev pub directive_lines : List ℕ → Forest → List Line
directive_lines name level = map head_line (blocks_of name level)

-- What a block states over what is around it: as its values are inherited, each list as a whole.
abbrev pub outer_over : Forest → Outer → Outer
outer_over level o = record {
  place = either (place_line level) o.place;
  index = own_or has_items (flat_map word_lines (blocks_of (codes "index") level)) o.index;
  pages = own_or has_items (directive_lines (codes "error_page") level) o.pages;
  auth_sets = own_or has_items (directive_lines (codes "auth_request_set") level) o.auth_sets;
}

-- ---- levels

-- the lines of a level in which these hold, with those of its program
abbrev pub origins_in : Outer → Forest → (program : List Line) → Origins
origins_in o level program = record {
  place = o.place;
  index = o.index;
  tries = first_line (codes "try_files") level;
  pages = o.pages;
  auth_sets = o.auth_sets;
  program = program;
}

-- those of the block of an `if` in a location in which these hold
abbrev pub block_origins : Outer → Forest → Origins
block_origins o block = origins_in (outer_over block o) block []

-- the line of a directive, if it has a part in a program
abbrev pub led_lines : Directive → (part : Bool) → List Line
led_lines d part = if part then line_of d ∷ [] else []

module _ (known : List ℕ → Bool) where
  -- those of the directives of a level that have a part in its program
  abbrev pub program_lines : Forest → List Line
  program_lines level = map line_at (parts_of known level)

  -- a server's level, in whose program blocks of `if`s are no levels
  abbrev pub server_level : Outer → Forest → LevelOrigins
  server_level o level = record { own = origins_in o level (program_lines level); blocks = [] }

  -- the level of a location
  abbrev pub location_level : Outer → Forest → LevelOrigins
  location_level o level = record {
    own = origins_in o level (program_lines level);
    blocks = map (block_origins o) (blocks_in known level);
  }

  -- the locations of a level that paths find, in the order of the text, each with those in it after it
  unfoldable pub locations_in : (outer : Outer) → Forest → List LevelOrigins
  locations_in outer End = []
  locations_in outer (Branch d block beside) =
      if is_found false d then location_level (outer_over block outer) block
      ∷ (locations_in (outer_over block outer) block ++ locations_in outer beside)
      else locations_in outer beside

  -- the locations `@name` of a server
  unfoldable pub named_in : (outer : Outer) → Forest → List LevelOrigins
  named_in outer End = []
  named_in outer (Branch d block beside) =
      if is_found true d then location_level (outer_over block outer) block ∷ named_in outer beside
      else named_in outer beside

  abbrev pub levels_within : Outer → Forest → List LevelOrigins
  levels_within o block = server_level o block ∷ (locations_in o block ++ named_in o block)

  -- all levels of a server: its own, those of its locations, and those of its locations `@name`
  abbrev pub server_origins : (outer : Outer) → (block : Forest) → List LevelOrigins
  server_origins outer block = levels_within (outer_over block outer) block
