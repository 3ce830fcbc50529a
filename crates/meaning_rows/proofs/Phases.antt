-- Rows of rewriting, errors, access and files.
use Rattle.std.specs.Prelude.{◌≡◌, ℕ, nat_eq, true, false, Bool, List, [], ◌∷◌, codes, length, map, replicate, refl, Some, None, if◌then◌else◌}
use Rattle.std.specs.List.{starts_with}
use Prim.Native.String.{String}
use Rattle.file_tree.specs.Tree.{Tree, AFile}
use Rattle.http_header.specs.FieldValue.{plain_value}
use Rattle.http_types.specs.declared.words.Method.TheVariants.{Get, Head, Post}
use Rattle.access_rules.specs.declared.rule.Rule.{Rule}
use Rattle.access_rules.specs.declared.rule.Source.TheVariants.{All, Network}
use Rattle.ngx_variables.specs.declared.value.Piece.TheVariants.{Literal, Group, Builtin, Set as Variable}
use Rattle.ngx_variables.specs.declared.variable.Variable.TheVariants.{Uri, Args}
use Rattle.error_page.specs.Page.{page_of}
use Rattle.meaning_rows.proofs.Opened.{opened}
use Rattle.meaning_rows.proofs.Samples.{plain, level, server, world, file, folder, locked, none, get, shows, gives, fails, at, lit, ipv4, main_with, request_with, subs_of}
use Rattle.request_meaning.specs.Serving.{World, Reply}
use Rattle.request_meaning.specs.Replies.{main_reply}
use Rattle.request_meaning.specs.Rewriting.{stays_first}
use Rattle.site_views.specs.Pattern.{Finds, Pattern}
use Rattle.site_views.specs.Values.{Shown}
use Rattle.site_views.specs.Values.LastTry.{ToLocation, ToCode}
use Rattle.site_views.specs.Values.Shown.{OwnCode, Fixed}
use Rattle.site_views.specs.Values.PageTarget.{AtPath, AtUrl}
use Rattle.site_views.specs.Rewrites.{Program}
use Rattle.site_views.specs.Rewrites.Directive.{Set, If, Rewrite, Return, Stop}
use Rattle.site_views.specs.Rewrites.Flag.{NoFlag, Last}
use Rattle.site_views.specs.Rewrites.Test.{OnFile, Matches}
use Rattle.site_views.specs.Rewrites.FileTest.{IsFile}
use Rattle.site_views.specs.Views.Matching.{Exactly, Prefix}
use Rattle.site_views.specs.Views.Locations.{NoMore}

-- ---- rewriting

-- `^text(.*)$`: the text at the front, and the rest as the first group
abbrev pub front : String → Pattern
front text = record { text = codes text; nocase = false }

abbrev pub finds_front : Finds
finds_front p bytes = if starts_with nat_eq bytes p.text then Some (Some (0, length bytes) ∷ Some (length p.text, length bytes) ∷ []) else None

abbrev pub rewriting : World
rewriting = record (world (server (level plain [])
    (at (Prefix (codes "/o")) plain (Rewrite (front "/o/") (Literal (codes "/n?x=") ∷ Group 1 ∷ []) false Last ∷ [])
    (at (Prefix (codes "/n")) plain (Return 200 (Some (Builtin Uri ∷ Literal (codes "?") ∷ Builtin Args ∷ [])) ∷ []) NoMore)))) { finds = finds_front }

abbrev pub get_args : World → Tree → String → String → Reply
get_args w tree path args = main_reply w tree (main_with Get (codes path) []) (request_with Get (codes path) (codes args))

row_rewrite_last : shows (get_args rewriting none "/o/z" "y=2") ≡ gives 200 "/n?x=z&y=2"
unfolding opened
row_rewrite_last = refl

-- `if (-f /w/up) { return 503; }` in the server
abbrev pub testing : World
testing = world (server (level plain (If (OnFile IsFile (lit "/w/up")) false 1 None ∷ Return 503 None ∷ Return 200 (Some (lit "on")) ∷ [])) NoMore)

row_if_file : shows (get testing (file "/w/up" "" none) "/x") ≡ fails 503 false
unfolding opened
row_if_file = refl

row_if_no_file : shows (get testing none "/x") ≡ gives 200 "on"
unfolding opened
row_if_no_file = refl

-- `if ($uri ~ ^/a) { return 200 in; } return 200 out;`
abbrev pub matching : World
matching = record (world (server (level plain (If (Matches (Builtin Uri) (front "/a")) false 1 None ∷ Return 200 (Some (lit "in")) ∷ Return 200 (Some (lit "out")) ∷ [])) NoMore)) { finds = finds_front }

row_if_match : (shows (get matching none "/ab") ∷ shows (get matching none "/b") ∷ []) ≡ gives 200 "in" ∷ gives 200 "out" ∷ []
unfolding opened
row_if_match = refl

-- the run of `set`s that begins a program goes on past a `set` alone
row_first_sets : map (stays_first true) (Set (codes "a") (lit "1") ∷ If (OnFile IsFile (lit "/w/up")) false 0 None ∷ Return 204 None ∷ Stop ∷ []) ≡ true ∷ false ∷ false ∷ false ∷ []
unfolding opened
row_first_sets = refl

-- the eleventh change
abbrev pub looping : World
looping = record (world (server (level plain []) (at (Prefix (codes "/")) (record plain { pages = record { codes = 500 ∷ []; shown = OwnCode; target = AtPath (lit "/e") } ∷ [] }) (Rewrite (front "/") (lit "/x") false Last ∷ []) NoMore))) { finds = finds_front }

row_eleventh_change : shows (get looping none "/") ≡ fails 500 true
unfolding opened
row_eleventh_change = refl

-- `location /a { rewrite ^/a(.*)$ /$1 last; } location /b { return 200 b; }`: ten changes, and eleven
abbrev pub shrinking : World
shrinking = record (world (server (level plain [])
    (at (Prefix (codes "/a")) plain (Rewrite (front "/a") (Literal (codes "/") ∷ Group 1 ∷ []) false Last ∷ [])
    (at (Prefix (codes "/b")) plain (Return 200 (Some (lit "b")) ∷ []) NoMore)))) { finds = finds_front }

row_ten : (shows (get shrinking none "/aaaaaaaaaab") ∷ shows (get shrinking none "/aaaaaaaaaaab") ∷ []) ≡ gives 200 "b" ∷ fails 500 true ∷ []
unfolding opened
row_ten = refl

-- a text of 16384 bytes, and one that is longer
abbrev pub long : ℕ → World
long n = world (server (level plain []) (at (Prefix (codes "/")) plain (Set (codes "a") (Literal (replicate 4096 120) ∷ []) ∷ Return 200 (Some (replicate n (Variable (codes "a")))) ∷ []) NoMore))

row_longest_text : length (get (long 4) none "/").body ≡ 16384
unfolding opened
row_longest_text = refl

row_too_long : shows (get (long 5) none "/") ≡ fails 500 true
unfolding opened
row_too_long = refl

row_closed : (get (world (server (level plain []) (at (Prefix (codes "/")) plain (Return 444 None ∷ []) NoMore))) none "/").answer.gone ≡ true
unfolding opened
row_closed = refl

-- a redirect, and `rewrite` to a whole address
abbrev pub moving : World
moving = record (world (server (level plain [])
    (at (Prefix (codes "/m")) plain (Return 301 (Some (lit "/n")) ∷ [])
    (at (Prefix (codes "/r")) plain (Rewrite (front "/r") (Literal (codes "http://b/") ∷ Group 1 ∷ []) true NoFlag ∷ []) NoMore)))) { finds = finds_front }

row_return : shows (get moving none "/m") ≡ record { status = 301; body = page_of 301; location = Some (codes "http://a/n"); closes = false }
unfolding opened
row_return = refl

row_rewrite : shows (get_args moving none "/rx" "q") ≡ record { status = 302; body = page_of 302; location = Some (codes "http://b/x?q"); closes = false }
unfolding opened
row_rewrite = refl

-- ---- errors

abbrev pub with_pages : Shown → String → World
with_pages shown path = world (server (level (record plain { pages = record { codes = 404 ∷ []; shown = shown; target = AtPath (lit path) } ∷ [] }) []) NoMore)

row_page : shows (get (with_pages (Fixed 200) "/e.html") (file "/w/e.html" "E" none) "/x") ≡ gives 200 "E"
unfolding opened
row_page = refl

row_page_own : shows (get (with_pages OwnCode "/e.html") (file "/w/e.html" "E" none) "/x") ≡ gives 404 "E"
unfolding opened
row_page_own = refl

-- a page that is missing itself: once
row_page_once : shows (get (with_pages OwnCode "/y") none "/x") ≡ fails 404 false
unfolding opened
row_page_once = refl

row_page_url : shows (get (world (server (level (record plain { pages = record { codes = 404 ∷ []; shown = OwnCode; target = AtUrl (lit "http://b/") } ∷ [] }) []) NoMore)) none "/x") ≡ record { status = 302; body = page_of 302; location = Some (codes "http://b/"); closes = false }
unfolding opened
row_page_url = refl

-- `internal` from outside, and a body that is too large
row_internal : shows (get (world (server (level plain []) (at (Prefix (codes "/i")) (record plain { internal = true }) [] NoMore))) (file "/w/i" "I" none) "/i") ≡ fails 404 false
unfolding opened
row_internal = refl

row_too_large : shows (main_reply (record (world (server (level (record plain { body_most = 2 }) []) NoMore)) { length = 3 }) none (main_with Post (codes "/a") []) (request_with Post (codes "/a") [])) ≡ fails 413 true
unfolding opened
row_too_large = refl

-- ---- access

abbrev pub guarded : Bool → List Rule → Program → World
guarded any rules program = world (server (level plain [])
    (at (Prefix (codes "/p/")) (record plain { any = any; rules = rules; auth = Some (codes "/q") }) []
    (at (Exactly (codes "/q")) (record plain { internal = true }) program NoMore)))

abbrev pub ok : Tree
ok = file "/w/p/x" "ok" none

row_auth_lets_in : shows (get (guarded false [] (Return 204 None ∷ [])) ok "/p/x") ≡ gives 200 "ok"
unfolding opened
row_auth_lets_in = refl

row_auth_403 : shows (get (guarded false [] (Return 403 None ∷ [])) ok "/p/x") ≡ fails 403 false
unfolding opened
row_auth_403 = refl

row_auth_401 : shows (get (guarded false [] (Return 401 None ∷ [])) ok "/p/x") ≡ fails 401 false
unfolding opened
row_auth_401 = refl

row_auth_302 : shows (get (guarded false [] (Return 302 (Some (lit "/z")) ∷ [])) ok "/p/x") ≡ fails 500 true
unfolding opened
row_auth_302 = refl

-- `satisfy any; allow 10.0.0.1;`: the file, and no subrequest
abbrev pub allow_peer : List Rule
allow_peer = record { allow = true; source = Network (ipv4 10 0 0 1) 32 } ∷ []

row_satisfy_any : shows (get (guarded true allow_peer (Return 403 None ∷ [])) ok "/p/x") ≡ gives 200 "ok"
unfolding opened
row_satisfy_any = refl

row_auth_subs : (subs_of (guarded true allow_peer (Return 403 None ∷ [])) ok "/p/x" ∷ subs_of (guarded false [] (Return 204 None ∷ [])) ok "/p/x" ∷ []) ≡ 0 ∷ 1 ∷ []
unfolding opened
row_auth_subs = refl

-- `auth_request_set $u $uri; try_files $u.txt =404;`
abbrev pub carrying : World
carrying = world (server (level plain [])
    (at (Prefix (codes "/p/")) (record plain { auth = Some (codes "/q"); auth_sets = (codes "u", Builtin Uri ∷ []) ∷ []; tries = Some (record { names = (Variable (codes "u") ∷ Literal (codes ".txt") ∷ []) ∷ []; last = ToCode 404 }) }) []
    (at (Exactly (codes "/q")) plain (Return 204 None ∷ []) NoMore)))

row_auth_set : shows (get carrying (file "/w/q.txt" "Q" none) "/p/x") ≡ gives 200 "Q"
unfolding opened
row_auth_set = refl

-- `deny 10.0.0.1; allow 10.0.0.0/8; deny all;`
abbrev pub listed : World
listed = world (server (level (record plain { rules = record { allow = false; source = Network (ipv4 10 0 0 1) 32 } ∷ record { allow = true; source = Network (ipv4 10 0 0 0) 8 } ∷ record { allow = false; source = All } ∷ [] }) []) NoMore)

abbrev pub get_from : ℕ → ℕ → World → Tree → String → Reply
get_from a d w tree path = main_reply w tree (record (main_with Get (codes path) []) { peer = record { ip = ipv4 a 0 0 d; port = 5000 } }) (request_with Get (codes path) [])

row_rules : (shows (get_from 10 1 listed (file "/w/a" "a" none) "/a") ∷ shows (get_from 192 1 listed (file "/w/a" "a" none) "/a") ∷ shows (get_from 10 2 listed (file "/w/a" "a" none) "/a") ∷ []) ≡ fails 403 false ∷ fails 403 false ∷ gives 200 "a" ∷ []
unfolding opened
row_rules = refl

-- ---- files

-- `try_files $uri $uri/ @f;`
abbrev pub trying : World
trying = world (record (server (level (record plain { tries = Some (record { names = (Builtin Uri ∷ []) ∷ (Builtin Uri ∷ Literal (codes "/") ∷ []) ∷ []; last = ToLocation (codes "@f") }) }) []) NoMore) { named = record { name = codes "@f"; level = level plain (Return 200 (Some (lit "f")) ∷ []) } ∷ [] })

row_try_files : (shows (get trying (file "/w/a" "a" none) "/a") ∷ shows (get trying (folder "/w/d" none) "/d") ∷ shows (get trying none "/x") ∷ []) ≡ gives 200 "a" ∷ fails 403 false ∷ gives 200 "f" ∷ []
unfolding opened
row_try_files = refl

row_post : shows (main_reply (world (server (level plain []) NoMore)) (file "/w/a" "a" none) (main_with Post (codes "/a") []) (request_with Post (codes "/a") [])) ≡ fails 405 false
unfolding opened
row_post = refl

-- a folder, and its index
abbrev pub home : Tree
home = folder "/w/d" (file "/w/d/index.html" "I" none)

row_folder : shows (get_args (world (server (level plain []) NoMore)) home "/d" "q=1") ≡ record { status = 301; body = page_of 301; location = Some (codes "http://a/d/?q=1"); closes = false }
unfolding opened
row_folder = refl

row_folder_index : shows (get (world (server (level plain []) NoMore)) home "/d/") ≡ gives 200 "I"
unfolding opened
row_folder_index = refl

-- If-Modified-Since
abbrev pub dated : Tree
dated p = AFile (codes "x") 86400

abbrev pub since : String → Reply
since date = main_reply (world (server (level plain []) NoMore)) dated (main_with Get (codes "/p.html") ((codes "if-modified-since", plain_value (codes date) ∷ []) ∷ [])) (request_with Get (codes "/p.html") [])

row_not_modified : shows (since "Fri, 02 Jan 1970 00:00:00 GMT") ≡ gives 304 ""
unfolding opened
row_not_modified = refl

row_modified : shows (since "Fri, 02 Jan 1970 00:00:01 GMT") ≡ gives 200 "x"
unfolding opened
row_modified = refl

-- a node that may not be read
row_locked : shows (get (world (server (level plain []) NoMore)) (locked "/w/l" none) "/l") ≡ fails 403 false
unfolding opened
row_locked = refl

-- HEAD
row_head : shows (main_reply (world (server (level plain []) NoMore)) (file "/w/a.txt" "hello" none) (main_with Head (codes "/a.txt") []) (request_with Head (codes "/a.txt") [])) ≡ gives 200 ""
unfolding opened
row_head = refl
