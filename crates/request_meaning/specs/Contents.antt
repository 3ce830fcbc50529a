-- The precontent and content phases: `try_files`, `index` and static files
-- (https://nginx.org/en/docs/http/ngx_http_core_module.html#try_files, ngx_http_index_module.html).
use Rattle.std.specs.Prelude.{ℕ, ◌==◌, Bool, false, List, [], ◌∷◌, ◌++◌, Option, None, Some, if◌then◌else◌}
use Rattle.acts.specs.Act.{Done, Stat, ◌>>=◌}
use Rattle.file_tree.specs.Tree.{Item, AFile, AFolder, ALocked, Nothing, node_of}
use Rattle.file_path.specs.ngx_variables.declared.request.Main.{Main}
use Rattle.file_path.specs.ngx_variables.declared.request.Request.{Request}
use Rattle.file_path.specs.Located.{Located}
use Rattle.file_path.specs.Located.Located.{TooLong, NotThere, At}
use Rattle.file_path.specs.Acts.{located_act}
use Rattle.static_content.specs.declared.content.Content.{Content}
use Rattle.static_content.specs.declared.content.Content.TheVariants.{Send, Status, Slash}
use Rattle.static_content.specs.Content.{content_for, refusal_of}
use Rattle.uri_text.specs.Escape.{escape_of}
use Rattle.site_views.specs.Values.{IndexName, Tries, LastTry, Text}
use Rattle.site_views.specs.Values.LastTry.{ToPath, ToLocation, ToCode}
use Rattle.site_views.specs.Rewrites.FileTest.{IsFile, IsFolder}
use Rattle.request_meaning.specs.Serving.{Serving, Standing}
use Rattle.request_meaning.specs.Cuts.{Target, target, fit_value, with_args, or_none}
use Rattle.request_meaning.specs.Rewriting.{passes, is_redirect}
use Rattle.request_meaning.specs.Errors.{Decided, decided, Outcome}
use Rattle.request_meaning.specs.Errors.Outcome.{File, Fails, Moves, GoesTo, GoesToNamed}

abbrev pub ends_in_slash : List ℕ → Bool
ends_in_slash [] = false
ends_in_slash (b ∷ []) = b == 47
ends_in_slash (b ∷ c ∷ path) = ends_in_slash (c ∷ path)

-- ---- what is at a path of the site

abbrev pub item_at : Located → Serving (Option Item)
item_at TooLong = Done None
item_at NotThere = Done (Some Nothing)
item_at (At path) = Stat path (λ item. Done (Some item))

-- what is where the level puts this path; none where the text of `root` or `alias` is too long
unfoldable pub item : Main → Standing → List ℕ → Serving (Option Item)
item main s uri = do
  found ← located_act main s.request s.values.place uri
  item_at found

abbrev pub fails : Standing → ℕ → Serving Decided
fails s code = Done (decided s (Fails code))

abbrev pub with_item : Standing → Option Item → (Item → Serving Decided) → Serving Decided
with_item s None k = fails s 500
with_item s (Some i) k = k i

abbrev pub with_text : {A : Type 0} → Standing → Option A → (A → Serving Decided) → Serving Decided
with_text s None k = fails s 500
with_text s (Some text) k = k text

-- ---- a file

-- a folder is redirected to its path with a slash, and the arguments
unfoldable pub folder_target : Request → List ℕ
folder_target request = with_args (escape_of request.path ++ 47 ∷ []) request.args

abbrev pub item_outcome : Item → Outcome
item_outcome (AFile bytes date) = File bytes date
item_outcome AFolder = Fails 404
item_outcome ALocked = Fails 404
item_outcome Nothing = Fails 404

abbrev pub content_outcome : Request → Item → Content → Outcome
content_outcome request i Send = item_outcome i
content_outcome request i (Status code) = Fails code
content_outcome request i Slash = Moves 301 (Some (folder_target request))

unfoldable pub file : Main → Standing → Serving Decided
file main s = do
  i ← item main s s.request.path
  with_item s i (λ i. Done (decided s (content_outcome s.request i (content_for (node_of i) s.request.method false))))

-- ---- index

-- where none of the names is found
unfoldable pub no_index : Main → Standing → Serving Decided
no_index main s = do
  i ← item main s s.request.path
  with_item s i (λ i. fails s (if passes IsFolder i then 403 else 404))

abbrev pub goes_to : Standing → List ℕ → Serving Decided
goes_to s path = Done (decided s (GoesTo path s.request.args))

abbrev pub index_at : Standing → List ℕ → Item → Serving Decided → Serving Decided
index_at s path i others = if passes IsFile i then goes_to s path else others

-- a name that is a path of the site is gone to untested; of another the file is sought in the folder
unfoldable pub index_name : Main → Standing → (is_path : Bool) → List ℕ → Serving Decided → Serving Decided
index_name main s is_path name others =
    if is_path then goes_to s name
    else (do
      i ← item main s (s.request.path ++ name)
      with_item s i (λ i. index_at s (s.request.path ++ name) i others))

unfoldable pub indexed : Main → Standing → List IndexName → Serving Decided
indexed main s [] = no_index main s
indexed main s (n ∷ names) = do
  name ← fit_value main s.request n.text
  with_text s name (λ name. index_name main s n.is_path name (indexed main s names))

-- ---- content

abbrev pub by_method : Main → Standing → Option ℕ → Serving Decided
by_method main s (Some code) = fails s code
by_method main s None = if ends_in_slash s.request.path then indexed main s s.values.index else file main s

-- the method is asked before any file; a path that ends in a slash names a folder
unfoldable pub content : Main → Standing → Serving Decided
content main s = by_method main s (refusal_of s.request.method)

-- ---- try_files

abbrev pub with_path : List ℕ → Standing → Standing
with_path path s = record s { request = record (s.request) { path = path } }

abbrev pub last_code : ℕ → Outcome
last_code code = if is_redirect code then Moves code None else Fails code

unfoldable pub last_try : Main → Standing → LastTry → Serving Decided
last_try main s (ToPath text) = do
  t ← target main s.request text
  with_text s t (λ (t : Target). Done (decided s (GoesTo t.path (or_none t.args))))
last_try main s (ToLocation name) = Done (decided s (GoesToNamed name))
last_try main s (ToCode code) = Done (decided s (last_code code))

-- a name that ends in a slash needs a folder, another a file
abbrev pub is_found : List ℕ → Item → Bool
is_found name i = if ends_in_slash name then passes IsFolder i else passes IsFile i

abbrev pub try_at : Main → Standing → List ℕ → Item → Serving Decided → Serving Decided
try_at main s name i others = if is_found name i then content main (with_path name s) else others

unfoldable pub try_name : Main → Standing → List ℕ → Serving Decided → Serving Decided
try_name main s name others = do
  i ← item main s name
  with_item s i (λ i. try_at main s name i others)

-- each name is evaluated at its turn; the first that is found becomes the path
unfoldable pub tried : Main → Standing → List Text → LastTry → Serving Decided
tried main s [] last = last_try main s last
tried main s (n ∷ names) last = do
  name ← fit_value main s.request n
  with_text s name (λ name. try_name main s name (tried main s names last))

abbrev pub by_tries : Main → Standing → Option Tries → Serving Decided
by_tries main s None = content main s
by_tries main s (Some t) = tried main s t.names t.last

unfoldable pub precontent : Main → Standing → Serving Decided
precontent main s = by_tries main s s.values.tries
