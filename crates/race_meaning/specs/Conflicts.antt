-- What the check tells of a named variable: where it is set, and where it is read.
use Rattle.std.specs.Prelude.{◌≡◌, ℕ, ◌==◌, ◌&&◌, ◌||◌, nat_lt, Bool, true, false, List, [], ◌∷◌, ◌++◌, map, flat_map, bytes_eq, Contains, AllPairs, if◌then◌else◌, ◌↔◌}
use Rattle.ngx_variables.specs.Paths.{text_of}
use Rattle.family_meaning.specs.site_views.Values.{Values, Text, IndexName, PageRule}
use Rattle.family_meaning.specs.site_views.Rewrites.{Directive, Program}
use Rattle.family_meaning.specs.site_views.Rewrites.Directive.{Set, If, Rewrite, Return, Stop}
use Rattle.family_meaning.specs.site_views.Views.{ServerView}
use Rattle.race_meaning.specs.Reads.{in_text, in_tries, in_target, in_directive}
use Rattle.race_meaning.specs.Named.{is_named, is_shown}

-- a line of a configuration file: the place of the file among those that were read, its path, and the line
pub record Source : Type 0 where
  pub order : ℕ
  pub file : List ℕ
  pub line : ℕ

-- Where the values of a level are stated, so far as they are: its place, its index names, its `try_files`, its rules of
-- `error_page`, its `auth_request_set`s; and where the directives of its program are.
pub record LevelSources : Type 0 where
  pub values : Values
  pub program : Program
  pub place : List Source
  pub index : List Source
  pub tries : List Source
  pub pages : List Source
  pub auth_sets : List Source
  pub lines : List Source

-- the lines of those of which this is so
abbrev pub lines_where : {A : Type 0} → (A → Bool) → List A → List Source → List Source
lines_where test [] sources = []
lines_where test (a ∷ others) [] = []
lines_where test (a ∷ others) (s ∷ sources) = if test a then s ∷ lines_where test others sources else lines_where test others sources

abbrev pub if_so : Bool → List Source → List Source
if_so b sources = if b then sources else []

-- where a level reads a variable
unfoldable pub reads_in : List ℕ → LevelSources → List Source
reads_in name l =
    if_so (in_text name (text_of l.values.place)) l.place
    ++ lines_where (λ (i : IndexName). in_text name i.text) l.values.index l.index
    ++ if_so (in_tries name l.values.tries) l.tries
    ++ lines_where (λ (r : PageRule). in_target name r.target) l.values.pages l.pages
    ++ lines_where (λ (s : List ℕ × Text). in_text name s.1) l.values.auth_sets l.auth_sets
    ++ lines_where (in_directive name) l.program l.lines

abbrev pub sets_it : List ℕ → Directive → Bool
sets_it name (Set other text) = bytes_eq other name
sets_it name (If test negated block values) = false
sets_it name (Rewrite pattern to is_url flag) = false
sets_it name (Return code text) = false
sets_it name Stop = false

-- where it sets one
unfoldable pub sets_in : List ℕ → LevelSources → List Source
sets_in name l = lines_where (sets_it name) l.program l.lines

-- lines in the order of the text, each once
abbrev pub is_before : Source → Source → Bool
is_before a b = nat_lt a.order b.order || ((a.order == b.order) && nat_lt a.line b.line)

pub record AreLines (all told : List Source) : Type 0 where
  pub same : (s : Source) → Contains all s ↔ Contains told s
  pub rising : AllPairs (λ a b. is_before a b ≡ true) told

-- what is told of a variable of a server, by the server's place from 1 on: where it is set, where it is read, and whether
-- documents read it
pub record Conflict : Type 0 where
  pub server : ℕ
  pub name : List ℕ
  pub sets : List Source
  pub reads : List Source
  pub documents : Bool

pub record Tells (server : ServerView) (levels : List LevelSources) (c : Conflict) : Type 0 where
  pub named : is_named server c.name ≡ true
  pub sets : AreLines (flat_map (sets_in c.name) levels) c.sets
  pub reads : AreLines (flat_map (reads_in c.name) levels) c.reads
  pub documents : c.documents ≡ is_shown server c.name

-- a name before another, byte by byte
unfoldable pub name_before : List ℕ → List ℕ → Bool
name_before [] [] = false
name_before [] (b ∷ t) = true
name_before (a ∷ s) [] = false
name_before (a ∷ s) (b ∷ t) = if a == b then name_before s t else nat_lt a b

-- Of a server exactly its named variables are told, in rising order.
pub record AreConflicts (number : ℕ) (server : ServerView) (levels : List LevelSources) (cs : List Conflict) : Type 0 where
  pub told : (c : Conflict) → Contains cs c → (c.server ≡ number) × Tells server levels c
  pub all : (name : List ℕ) → is_named server name ≡ true → Contains (map (λ (c : Conflict). c.name) cs) name
  pub rising : AllPairs (λ (c d : Conflict). name_before c.name d.name ≡ true) cs
