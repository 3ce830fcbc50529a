-- Rows of documents.
use Rattle.std.specs.Prelude.{◌≡◌, ℕ, ◌+◌, true, false, [], ◌∷◌, ◌++◌, length, replicate, codes, refl, Some, None}
use Prim.Native.String.{String}
use Rattle.file_tree.specs.Tree.{Tree}
use Rattle.meaning_rows.proofs.Opened.{opened}
use Rattle.meaning_rows.proofs.Samples.{with_ssi, level, server, world, file, file_at, none, get, shows, gives, subs_of, cost_of, at, lit, Shows}
use Rattle.request_meaning.specs.Serving.{World}
use Rattle.site_views.specs.Rewrites.Directive.{Set, Return}
use Rattle.site_views.specs.Views.Matching.{Prefix}
use Rattle.site_views.specs.Views.Locations.{NoMore}
use Rattle.error_page.specs.Page.{page_of}

-- a server of documents, and GET of /p.html, which is this
abbrev pub documents : World
documents = world (server (level with_ssi []) NoMore)

abbrev pub page_in : World → String → Tree → Shows
page_in w text tree = shows (get w (file "/w/p.html" text tree) "/p.html")

abbrev pub page : String → Tree → Shows
page text tree = page_in documents text tree

-- two includes in their places
row_two_includes : page "A<!--# include virtual=\"/b.html\" -->C<!--# include virtual=\"/d.html\" -->E" (file "/w/b.html" "B" (file "/w/d.html" "D" none)) ≡ gives 200 "ABCDE"
unfolding opened
row_two_includes = refl

-- an echo
row_echo : page "aaaa<!--# echo var=\"uri\" -->" none ≡ gives 200 "aaaa/p.html"
unfolding opened
row_echo = refl

-- a child's error page is in its place
row_failed_include : page "A<!--# include virtual=\"/x\" -->C" none ≡ record { status = 200; body = codes "A" ++ page_of 404 ++ codes "C"; location = None; closes = false }
unfolding opened
row_failed_include = refl

row_failed_length : length (page "A<!--# include virtual=\"/x\" -->C" none).body ≡ 148
unfolding opened
row_failed_length = refl

-- or the block of its stub
row_stub : page "<!--# block name=\"n\" -->S<!--# endblock -->A<!--# include virtual=\"/x\" stub=\"n\" -->C" none ≡ gives 200 "ASC"
unfolding opened
row_stub = refl

-- a page that includes itself: 51 times, and then the error text
row_deepest : (page "a<!--# include virtual=\"/p.html\" -->b" none).body ≡ replicate 51 97 ++ codes "[an error occurred while processing the directive]" ++ replicate 51 98
unfolding opened
row_deepest = refl

-- commands
row_commands : page "<!--# set var=\"x\" value=\"a b\" --><!--# if expr=\"$x = a b\" -->1<!--# else -->2<!--# endif --><!--# echo var=\"x\" encoding=\"url\" --><!--# echo var=\"q\" default=\"-\" --><!--# nope -->" none ≡ gives 200 "1a%20b-[an error occurred while processing the directive]"
unfolding opened
row_commands = refl

-- additions, and a body that goes into a variable
abbrev pub added : World
added = world (server (level (record with_ssi { before = Some (codes "/h.html"); after = Some (codes "/f.html") }) []) NoMore)

row_additions : page_in added "<!--# include virtual=\"/v.html\" set=\"v\" -->[<!--# echo var=\"v\" -->]" (file "/w/h.html" "H" (file "/w/f.html" "F" (file "/w/v.html" "<b>" none))) ≡ gives 200 "H[&lt;b&gt;]F"
unfolding opened
row_additions = refl

-- an include that sets a variable of the main request, and an echo of it after it
abbrev pub setting : World
setting = world (server (level with_ssi []) (at (Prefix (codes "/a")) with_ssi (Set (codes "v") (lit "1") ∷ Return 200 (Some (lit "a")) ∷ []) NoMore))

row_waited_set : page_in setting "<!--# include virtual=\"/a\" wait=\"yes\" --><!--# echo var=\"v\" -->" none ≡ gives 200 "a1"
unfolding opened
row_waited_set = refl

-- the meaning asks for 1022 subrequests of a page that includes itself twice, five levels from the end: shortened
row_doubled : subs_of documents (file "/w/p.html" "<!--# include virtual=\"/q.html\" --><!--# include virtual=\"/q.html\" -->" (file "/w/q.html" "<!--# include virtual=\"/r.html\" --><!--# include virtual=\"/r.html\" -->" (file "/w/r.html" "r" none))) "/p.html" ≡ 6
unfolding opened
row_doubled = refl

-- a body over the buffer unsets the variable; a later block of a name replaces it; nothing is done in a branch that isn't taken
row_capture : page_in (world (server (level (record with_ssi { capture_most = 2 }) []) NoMore)) "<!--# set var=\"v\" value=\"x\" --><!--# include virtual=\"/v.html\" set=\"v\" --><!--# echo var=\"v\" -->" (file "/w/v.html" "abc" none) ≡ gives 200 "[an error occurred while processing the directive](none)"
unfolding opened
row_capture = refl

row_branches : page "<!--# if expr=\"\" -->a<!--# elif expr=\"a != b\" -->b<!--# elif expr=\"x\" -->c<!--# else -->d<!--# endif -->e" none ≡ gives 200 "be"
unfolding opened
row_branches = refl

row_blocks : page "<!--# block name=\"n\" -->1<!--# echo var=\"uri\" --><!--# endblock --><!--# block name=\"n\" -->2<!--# endblock --><!--# include virtual=\"/e.html\" stub=\"n\" -->" (file "/w/e.html" "" none) ≡ gives 200 "2"
unfolding opened
row_blocks = refl

row_silent : page_in (world (server (level (record with_ssi { silent = true }) []) NoMore)) "a<!--# nope -->b<!--# endif -->" none ≡ gives 200 "ab"
unfolding opened
row_silent = refl

-- the default format of dates, and one of the document's own
row_dates : page "<!--# echo var=\"date_gmt\" -->|<!--# config timefmt=\"%Y-%m-%d\" --><!--# echo var=\"date_local\" -->" none ≡ gives 200 "Thursday, 01-Jan-1970 00:00:00 GMT|1970-01-01"
unfolding opened
row_dates = refl

-- the cost: two for the node, two for the stat, two for the block and one for each byte
row_cost : cost_of documents (file "/w/p.html" "abc" none) "/p.html" ≡ 9
unfolding opened
row_cost = refl

-- a subrequest that is waited for costs one step more
abbrev pub included : String → ℕ
included more = cost_of documents (file_at (codes "/w/p.html") (codes "<!--# include virtual=\"/b.html\"" ++ codes more ++ codes " -->") 0 (file "/w/b.html" "B" none)) "/p.html"

row_waited : included " wait=\"yes\"" ≡ 1 + included " wait=\"no\""
unfolding opened
row_waited = refl
