-- Rows of rules that the worked ones don't show.
use Rattle.std.specs.Prelude.{◌≡◌, ℕ, true, false, Bool, [], ◌∷◌, codes, replicate, refl, Some, None}
use Prim.Native.String.{String}
use Rattle.acts.specs.Act.{Done}
use Rattle.acts.specs.Vars.{set}
use Rattle.http_types.specs.declared.words.Method.TheVariants.{Post}
use Rattle.ngx_variables.specs.declared.value.Piece.TheVariants.{Literal, Builtin}
use Rattle.ngx_variables.specs.declared.variable.Variable.TheVariants.{Uri, Args}
use Rattle.meaning_rows.proofs.Opened.{opened}
use Rattle.meaning_rows.proofs.Samples.{plain, with_ssi, level, server, world, file, locked, none, get, shows, gives, fails, at, lit, main_with, request_with}
use Rattle.meaning_rows.proofs.Cuts.{doc}
use Rattle.meaning_rows.proofs.Documents.{page, page_in}
use Rattle.meaning_rows.proofs.Phases.{front, finds_front, get_args, guarded, allow_peer, ok, since}
use Rattle.meaning_rows.proofs.Races.{three}
use Rattle.race_meaning.specs.Named.{is_named}
use Rattle.request_meaning.specs.Commands.{block_closed}
use Rattle.request_meaning.specs.Documents.{Doc, oops}
use Rattle.request_meaning.specs.Serving.{World}
use Rattle.request_meaning.specs.Replies.{main_reply}
use Rattle.site_views.specs.Values.LastTry.{ToCode}
use Rattle.site_views.specs.Values.Shown.{OwnCode, Fixed}
use Rattle.site_views.specs.Values.PageTarget.{AtPath}
use Rattle.site_views.specs.Rewrites.{Flag}
use Rattle.site_views.specs.Rewrites.Directive.{Rewrite, Return}
use Rattle.site_views.specs.Rewrites.Flag.{NoFlag, Last, Break}
use Rattle.site_views.specs.Views.Matching.{Exactly, Prefix}
use Rattle.site_views.specs.Views.Locations.{NoMore}

-- `location /r { rewrite ^/r(.*)$ TEXT FLAG; return 200 r; } location /n { internal; return 200 $uri?$args; }`
abbrev pub to_n : String → Flag → World
to_n text flag = record (world (server (level plain [])
    (at (Prefix (codes "/r")) plain (Rewrite (front "/r") (lit text) false flag ∷ Return 200 (Some (lit "r")) ∷ [])
    (at (Prefix (codes "/n")) (record plain { internal = true }) (Return 200 (Some (Builtin Uri ∷ Literal (codes "?") ∷ Builtin Args ∷ [])) ∷ []) NoMore)))) { finds = finds_front }

-- a request that a `rewrite` changed is inside; `?` at the text's end drops the old arguments; `break` stays, and so does no flag
row_inside : (shows (get_args (to_n "/n" Last) none "/r" "y") ∷ shows (get_args (to_n "/n?" Last) none "/r" "y") ∷ shows (get_args (to_n "/n?x?" Last) none "/r" "y") ∷ shows (get_args (to_n "/n" NoFlag) none "/r" "y") ∷ shows (get (to_n "/n" Last) none "/n") ∷ []) ≡ gives 200 "/n?y" ∷ gives 200 "/n?" ∷ gives 200 "/n?x" ∷ gives 200 "r" ∷ fails 404 false ∷ []
unfolding opened
row_inside = refl

abbrev pub breaking : Flag → World
breaking flag = record (world (server (level plain []) (at (Prefix (codes "/r")) plain (Rewrite (front "/r") (lit "/n") false flag ∷ []) (at (Prefix (codes "/n")) plain (Return 200 (Some (lit "n")) ∷ []) NoMore)))) { finds = finds_front }

row_break : (shows (get (breaking Break) (file "/w/n" "file" none) "/r") ∷ shows (get (breaking NoFlag) (file "/w/n" "file" none) "/r") ∷ []) ≡ gives 200 "file" ∷ gives 200 "n" ∷ []
unfolding opened
row_break = refl

-- a path that doesn't begin with `/` is an error
row_no_slash : shows (get (to_n "n" Last) none "/r") ≡ fails 500 true
unfolding opened
row_no_slash = refl

-- a node that may not be read counts as a file
abbrev pub trying : World
trying = world (server (level (record plain { tries = Some (record { names = (Builtin Uri ∷ []) ∷ []; last = ToCode 410 }) }) []) NoMore)

row_locked : (shows (get trying (locked "/w/l" none) "/l") ∷ shows (get trying none "/l") ∷ []) ≡ fails 403 false ∷ fails 410 false ∷ []
unfolding opened
row_locked = refl

-- a date is told with 304 and 200
row_dates : ((since "Fri, 02 Jan 1970 00:00:00 GMT").answer.modified ∷ (since "x").answer.modified ∷ []) ≡ Some 86400 ∷ Some 86400 ∷ []
unfolding opened
row_dates = refl

-- an error within an error's page, with `recursive_error_pages` and without
abbrev pub twice : Bool → World
twice recursive = world (server (level (record plain { recursive = recursive; pages = record { codes = 404 ∷ []; shown = OwnCode; target = AtPath (lit "/e") } ∷ record { codes = 403 ∷ []; shown = Fixed 299; target = AtPath (lit "/f.html") } ∷ [] }) []) NoMore)

row_recursive : (shows (get (twice true) (locked "/w/e" (file "/w/f.html" "F" none)) "/x") ∷ shows (get (twice false) (locked "/w/e" (file "/w/f.html" "F" none)) "/x") ∷ []) ≡ gives 299 "F" ∷ fails 403 false ∷ []
unfolding opened
row_recursive = refl

-- a rule that allows doesn't let in past the subrequest, unless `satisfy any` is there
row_all : shows (get (guarded false allow_peer (Return 403 None ∷ [])) ok "/p/x") ≡ fails 403 false
unfolding opened
row_all = refl

-- an index keeps the arguments
abbrev pub arguments : World
arguments = world (server (level plain []) (at (Exactly (codes "/d/index.html")) plain (Return 200 (Some (Builtin Args ∷ [])) ∷ []) NoMore))

row_index : shows (get_args arguments (file "/w/d/index.html" "I" none) "/d/" "q=1") ≡ gives 200 "q=1"
unfolding opened
row_index = refl

-- a body's size is the main request's affair
abbrev pub posted : World
posted = record (world (server (level with_ssi []) (at (Exactly (codes "/p.html")) with_ssi (Return 200 (Some (lit "<!--# include virtual=\"/c\" -->")) ∷ []) (at (Prefix (codes "/c")) (record plain { body_most = 1 }) (Return 200 (Some (lit "c")) ∷ []) NoMore)))) { length = 3 }

row_size : shows (main_reply posted none (main_with Post (codes "/p.html") []) (request_with Post (codes "/p.html") [])) ≡ gives 200 "c"
unfolding opened
row_size = refl

-- a body of just the buffer's size; `stub` with `set`; a child's copy of the variables; a bad command in a block
row_capture : page_in (world (server (level (record with_ssi { capture_most = 3 }) []) NoMore)) "<!--# include virtual=\"/v.html\" set=\"v\" --><!--# echo var=\"v\" -->" (file "/w/v.html" "abc" none) ≡ gives 200 "abc"
unfolding opened
row_capture = refl

row_copy : page "<!--# set var=\"v\" value=\"1\" --><!--# include virtual=\"/c.html\" --><!--# echo var=\"v\" -->" (file "/w/c.html" "<!--# echo var=\"v\" --><!--# set var=\"v\" value=\"2\" --><!--# echo var=\"v\" -->" none) ≡ gives 200 "121"
unfolding opened
row_copy = refl

row_silent_error : page "<!--# config errmsg=\"E\" --><!--# block name=\"n\" -->a<!--# -->b<!--# endblock --><!--# include virtual=\"/x\" stub=\"n\" set=\"v\" -->|<!--# include virtual=\"/x\" stub=\"n\" -->" none ≡ gives 200 "E|aEb"
unfolding opened
row_silent_error = refl

-- all `set`s have one text, but none begins the server's program
row_not_first : is_named (three [] "a") (codes "x") ≡ true
unfolding opened
row_not_first = refl

-- the main request's method stays what it is where a subrequest goes to an error's page
abbrev pub methods : World
methods = world (server (level (record with_ssi { pages = record { codes = 404 ∷ []; shown = OwnCode; target = AtPath (lit "/e.html") } ∷ [] }) []) (at (Exactly (codes "/p.html")) with_ssi (Return 200 (Some (lit "<!--# include virtual=\"/x\" -->")) ∷ []) NoMore))

row_method : shows (main_reply methods (file "/w/e.html" "<!--# echo var=\"request_method\" -->" none) (main_with Post (codes "/p.html") []) (request_with Post (codes "/p.html") [])) ≡ gives 200 "POST"
unfolding opened
row_method = refl

-- a side of one slash is no regular expression, and one of two is
row_slash : page "<!--# set var=\"x\" value=\"/\" --><!--# if expr=\"$x = /\" -->1<!--# else -->2<!--# endif --><!--# if expr=\"$x = //\" -->1<!--# else -->2<!--# endif -->" none ≡ gives 200 "1[an error occurred while processing the directive]2"
unfolding opened
row_slash = refl

-- a name is set in lower case
row_capture_case : page "<!--# include virtual=\"/v.html\" set=\"V\" --><!--# echo var=\"v\" -->" (file "/w/v.html" "abc" none) ≡ gives 200 "abc"
unfolding opened
row_capture_case = refl

-- a document that ends in a command that has begun
row_cut_off : page "a<!--# echo var=\"uri\"" none ≡ gives 200 "a<!--# echo var=\"uri\""
unfolding opened
row_cut_off = refl

-- the blocks of a document have 32768 bytes together, and no more
abbrev pub with_block : ℕ → Doc
with_block size = record doc { blocks = (codes "m", replicate size 97) ∷ [] }

row_blocks_full : block_closed (with_block 32767) (codes "n") (codes "b") ≡ Done (record (with_block 32767) { blocks = set (codes "n") (codes "b") (with_block 32767).blocks })
unfolding opened
row_blocks_full = refl

row_blocks_over : block_closed (with_block 32768) (codes "n") (codes "b") ≡ oops (with_block 32768)
unfolding opened
row_blocks_over = refl
