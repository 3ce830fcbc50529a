-- Where variables are set and read, by the lines of the levels of a server.
use Rattle.std.specs.Prelude.{◌≡◌, ℕ, Bool, true, List, [], ◌∷◌, ◌++◌, map, flat_map, Option, None, Some, unwrap_or, slice_get, Contains, AllPairs, ◌↔◌, if◌then◌else◌}
use Rattle.ngx_variables.specs.Paths.{text_of}
use Rattle.source_lines.specs.declared.line.Line.{Line}
use Rattle.source_lines.specs.Lines.{is_before}
use Rattle.site_views.specs.Values.{Values, Text, IndexName, PageRule}
use Rattle.site_views.specs.Rewrites.{Program}
use Rattle.site_views.specs.Views.{LevelView, ServerView}
use Rattle.race_meaning.specs.Levels.{levels, block_values}
use Rattle.race_meaning.specs.Reads.{in_text, in_tries, in_target, in_directive}
use Rattle.race_meaning.specs.Conflicts.{Source, LevelSources, sets_it}
use Rattle.race_meaning.specs.Conflicts as meaning
use Rattle.race_check.specs.declared.conflict.Named.{Named}
use Rattle.race_places.specs.declared.lined.StatedLines.{StatedLines}
use Rattle.race_places.specs.declared.lined.LinedLevel.{LinedLevel}
use Rattle.race_places.specs.declared.lined.ServerLines.{ServerLines}
use Rattle.race_places.specs.declared.told.Conflict.{Conflict}

-- what comes of the items of two lists, pair by pair, as long as both have some
unfoldable pub over_both : {A B C : Type 0} → (A → B → List C) → List A → List B → List C
over_both f [] bs = []
over_both f (a ∷ others) [] = []
over_both f (a ∷ others) (b ∷ bs) = f a b ++ over_both f others bs

-- ---- the sources of a server's levels

-- Where the values of a level are stated, so far as they are, and where the directives of its program are.
pub record Origins : Type 0 where
  pub place : Option Line
  pub index : List Line
  pub tries : Option Line
  pub pages : List Line
  pub auth_sets : List Line
  pub program : List Line

-- those of a level, and of the blocks in its program that are levels, in the order of the text
pub record LevelOrigins : Type 0 where
  pub own : Origins
  pub blocks : List Origins

-- the lines of a list of values, by its number
abbrev pub list_at : List (List Line) → Option ℕ → List Line
list_at lists None = []
list_at lists (Some number) = unwrap_or (slice_get lists number) []

abbrev pub origins_by : List (List Line) → StatedLines → Origins
origins_by lists l = record {
  place = l.place;
  index = list_at lists l.index;
  tries = l.tries;
  pages = list_at lists l.pages;
  auth_sets = list_at lists l.auth_sets;
  program = l.program.items;
}

abbrev pub level_by : List (List Line) → LinedLevel → LevelOrigins
level_by lists l =
    record { own = origins_by lists l.own; blocks = map (origins_by lists) l.blocks.items }

abbrev pub levels_by : ServerLines → List LevelOrigins
levels_by lines = map (level_by lines.lists.items) lines.levels.items

-- a line, with the path of its file
abbrev pub source_at : (files : ℕ → List ℕ) → Line → Source
source_at files l = record { order = l.file; file = files l.file; line = l.line }

abbrev pub line_list : Option Line → List Line
line_list None = []
line_list (Some line) = line ∷ []

module _ (files : ℕ → List ℕ) where
  abbrev pub seen : List Line → List Source
  seen ls = map (source_at files) ls

  -- where the values of a level are stated, and where the directives of its program are
  abbrev pub sources_by : Values → Program → Origins → LevelSources
  sources_by v program o = record {
    values = v;
    program = program;
    place = seen (line_list o.place);
    index = seen o.index;
    tries = seen (line_list o.tries);
    pages = seen o.pages;
    auth_sets = seen o.auth_sets;
    lines = seen o.program;
  }

  -- the directives in a block are among those of the level's program
  abbrev pub block_sources : Values → Origins → List LevelSources
  block_sources v o = sources_by v [] o ∷ []

  -- a level, and the blocks in its program that are levels
  abbrev pub level_sources : LevelView → LevelOrigins → List LevelSources
  level_sources v l = sources_by v.values v.program l.own
      ∷ over_both block_sources (flat_map block_values v.program) l.blocks

  -- The levels of a server, each with its lines: its own, those of its locations, and those of its locations `@name`, in the
  -- order of the text.
  abbrev pub server_sources : ServerView → List LevelOrigins → List LevelSources
  server_sources server lines = over_both level_sources (levels server) lines

-- ---- the lines of a variable

-- those of the things of which this is so
abbrev pub lines_of : {A : Type 0} → (A → Bool) → List A → List Line → List Line
lines_of test [] lines = []
lines_of test (a ∷ others) [] = []
lines_of test (a ∷ others) (l ∷ lines) =
    if test a then l ∷ lines_of test others lines else lines_of test others lines

abbrev pub keep_if : Bool → List Line → List Line
keep_if b lines = if b then lines else []

-- where values read it
abbrev pub value_reads : List ℕ → Values → Origins → List Line
value_reads name v o =
    keep_if (in_text name (text_of v.place)) (line_list o.place)
    ++ lines_of (λ (i : IndexName). in_text name i.text) v.index o.index
    ++ keep_if (in_tries name v.tries) (line_list o.tries)
    ++ lines_of (λ (r : PageRule). in_target name r.target) v.pages o.pages
    ++ lines_of (λ (s : List ℕ × Text). in_text name s.1) v.auth_sets o.auth_sets

-- where a level reads it: by its values, in its program, and by the values of the blocks in that
abbrev pub level_reads : List ℕ → LevelView → LevelOrigins → List Line
level_reads name v l =
    value_reads name v.values l.own ++ lines_of (in_directive name) v.program l.own.program
    ++ over_both (value_reads name) (flat_map block_values v.program) l.blocks

-- where a level sets it
abbrev pub level_sets : List ℕ → LevelView → LevelOrigins → List Line
level_sets name v l = lines_of (sets_it name) v.program l.own.program

abbrev pub all_reads : List ℕ → List LevelView → List LevelOrigins → List Line
all_reads name views lines = over_both (level_reads name) views lines

abbrev pub all_sets : List ℕ → List LevelView → List LevelOrigins → List Line
all_sets name views lines = over_both (level_sets name) views lines

-- ---- what is told

-- in the order of the text, each once
pub record AreInOrder (all told : List Line) : Type 0 where
  pub same : (l : Line) → Contains all l ↔ Contains told l
  pub rising : AllPairs (λ a b. is_before a b ≡ true) told

-- a named variable, with its places
pub record IsPlaced (sets reads : List ℕ → List Line) (n : Named) (c : Conflict) : Type 0 where
  pub server : c.server ≡ n.server
  pub name : c.name ≡ n.name
  pub documents : c.documents ≡ n.documents
  pub set_at : AreInOrder (sets n.name) c.sets.items
  pub read_at : AreInOrder (reads n.name) c.reads.items

unfoldable pub ArePlaced : (sets reads : List ℕ → List Line) → List Named → List Conflict → Type 0
ArePlaced sets reads [] [] = Unit {0}
ArePlaced sets reads [] (c ∷ cs) = ⊥
ArePlaced sets reads (n ∷ ns) [] = ⊥
ArePlaced sets reads (n ∷ ns) (c ∷ cs) = IsPlaced sets reads n c × ArePlaced sets reads ns cs

abbrev pub conflict_seen : (files : ℕ → List ℕ) → Conflict → meaning.Conflict
conflict_seen files c =
    record {
      server = c.server;
      name = c.name;
      sets = seen files c.sets.items;
      reads = seen files c.reads.items;
      documents = c.documents;
    }
