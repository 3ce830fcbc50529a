-- Rows of the race check.
use Rattle.std.specs.Prelude.{◌≡◌, ℕ, Bool, true, false, List, [], ◌∷◌, codes, map, flat_map, refl, Some, None}
use Rattle.std.specs.List.{list_any}
use Rattle.http_types.specs.declared.words.Method.TheVariants.{Get}
use Rattle.filter_api.specs.declared.facts.Facts.{Facts}
use Rattle.filter_api.specs.Members.{others_of}
use Rattle.ngx_variables.specs.declared.request.Role.TheVariants.{Content}
use Rattle.request_meaning.specs.Serving.{Child}
use Rattle.request_meaning.specs.Replies.{reply}
use Rattle.request_meaning.specs.Bodies.{filtered_marks}
use Rattle.race_meaning.specs.Laws.{is_command}
use Rattle.ngx_variables.specs.declared.request.FileRoot.TheVariants.{Root}
use Prim.Native.String.{String}
use Rattle.ngx_variables.specs.declared.value.Piece.TheVariants.{Literal, Set as Variable}
use Rattle.meaning_rows.proofs.Opened.{opened}
use Rattle.meaning_rows.proofs.Samples.{plain, with_ssi, level, server, at, lit, none, world, main_with}
use Rattle.race_meaning.specs.Named.{is_open, is_named, is_shown}
use Rattle.race_meaning.specs.Conflicts.{Source, LevelSources, sets_in, reads_in, name_before}
use Rattle.site_views.specs.Values.{Values}
use Rattle.site_views.specs.Values.Shown.{OwnCode}
use Rattle.site_views.specs.Values.PageTarget.{AtPath}
use Rattle.site_views.specs.Rewrites.{Program}
use Rattle.site_views.specs.Rewrites.Directive.{Set, If, Return}
use Rattle.site_views.specs.Rewrites.Test.{OnFile}
use Rattle.site_views.specs.Rewrites.FileTest.{IsFile}
use Rattle.site_views.specs.Views.{ServerView}
use Rattle.site_views.specs.Views.Matching.{Prefix}
use Rattle.site_views.specs.Views.Locations.{NoMore}

abbrev pub x_is : String → Program
x_is text = Set (codes "x") (lit text) ∷ []

-- `location / { ssi on; } location /a { set $x a; } location /b { set $x b; }`, with this program of the server's own
abbrev pub three : Program → String → ServerView
three own b = server (level plain own)
    (at (Prefix (codes "/")) with_ssi []
    (at (Prefix (codes "/a")) plain (x_is "a")
    (at (Prefix (codes "/b")) plain (x_is b) NoMore)))

row_two_texts : is_named (three [] "b") (codes "x") ≡ true
unfolding opened
row_two_texts = refl

-- one text, which the server sets first: it is fixed
row_fixed : is_named (three (x_is "a") "a") (codes "x") ≡ false
unfolding opened
row_fixed = refl

row_one_differs : is_named (three (x_is "a") "b") (codes "x") ≡ true
unfolding opened
row_one_differs = refl

-- no document is served, or documents don't see it
row_closed : is_named (server (level plain []) (at (Prefix (codes "/a")) plain (x_is "a") (at (Prefix (codes "/b")) plain (x_is "b") NoMore))) (codes "x") ≡ false
unfolding opened
row_closed = refl

row_hidden : is_named (record (three [] "b") { visible = Some [] }) (codes "x") ≡ false
unfolding opened
row_hidden = refl

-- Where no document is served nothing is named: one request can't show what another does. But what a subrequest would reply there
-- goes by the table.
abbrev pub closed : ServerView
closed = server (level plain [])
    (at (Prefix (codes "/a")) plain (x_is "a")
    (at (Prefix (codes "/b")) plain (Return 200 (Some (Variable (codes "x") ∷ [])) ∷ []) NoMore))

abbrev pub at_b : Child
at_b = record { main = main_with Get (codes "/b") []; role = Content; path = codes "/b"; args = []; ssi = []; stub = None; waited = false }

row_closed_named : is_named closed (codes "x") ∷ is_open closed ∷ [] ≡ false ∷ false ∷ []
unfolding opened
row_closed_named = refl

row_closed_replies : (reply (world closed) none 1 at_b ((codes "x", codes "a") ∷ [])).body ∷ (reply (world closed) none 1 at_b []).body ∷ [] ≡ codes "a" ∷ [] ∷ []
unfolding opened
row_closed_replies = refl

-- the chain of filters makes a command where includes are on, and none where they aren't
abbrev pub facts : Bool → Facts
facts ssi = record { ssi = ssi; ssi_type = true; before = true; after = false; addition_type = true; status = 200; main = true }

row_commands : map (λ ssi. list_any is_command (others_of (filtered_marks (world closed) (facts ssi) (codes "<!--# echo var=\"x\" -->")))) (true ∷ false ∷ []) ≡ true ∷ false ∷ []
unfolding opened
row_commands = refl

-- a read after its own `set` is private, unless a file is tested between
abbrev pub reading : Program → ServerView
reading program = record (server (level with_ssi []) (at (Prefix (codes "/a")) plain (Set (codes "x") (lit "a") ∷ program) NoMore)) { visible = Some [] }

row_private : is_named (reading (Return 200 (Some (Variable (codes "x") ∷ [])) ∷ [])) (codes "x") ≡ false
unfolding opened
row_private = refl

row_tested : is_named (reading (If (OnFile IsFile (lit "/f")) false 0 None ∷ Return 200 (Some (Variable (codes "x") ∷ [])) ∷ [])) (codes "x") ≡ true
unfolding opened
row_tested = refl

-- ---- the lines that are told of a variable

abbrev pub at_line : ℕ → Source
at_line line = record { order = 0; file = codes "/c"; line = line }

abbrev pub sources : Program → List Source → LevelSources
sources program lines = record { values = plain; program = program; place = []; index = at_line 3 ∷ []; tries = []; pages = []; auth_sets = []; lines = lines }

-- `set $x a;` in line 5, `set $x b;` in line 6, and `return 200 $x;` in line 7
abbrev pub told : List LevelSources
told = sources [] [] ∷ sources (x_is "a") (at_line 5 ∷ []) ∷ sources (Set (codes "x") (lit "b") ∷ Return 200 (Some (Variable (codes "x") ∷ [])) ∷ []) (at_line 6 ∷ at_line 7 ∷ []) ∷ []

row_set_lines : flat_map (sets_in (codes "x")) told ≡ at_line 5 ∷ at_line 6 ∷ []
unfolding opened
row_set_lines = refl

row_read_lines : flat_map (reads_in (codes "x")) told ≡ at_line 7 ∷ []
unfolding opened
row_read_lines = refl

-- `root /w/$x;` in line 2, `index $x;` in line 3, `error_page 404 /$x;` in line 4
abbrev pub reading_values : Values
reading_values = record plain {
  place = Root (Literal (codes "/w/") ∷ Variable (codes "x") ∷ []);
  index = record { text = Variable (codes "x") ∷ []; is_path = false } ∷ [];
  pages = record { codes = 404 ∷ []; shown = OwnCode; target = AtPath (Literal (codes "/") ∷ Variable (codes "x") ∷ []) } ∷ [];
}

row_value_lines : reads_in (codes "x") (record { values = reading_values; program = []; place = at_line 2 ∷ []; index = at_line 3 ∷ []; tries = []; pages = at_line 4 ∷ []; auth_sets = []; lines = [] }) ≡ at_line 2 ∷ at_line 3 ∷ at_line 4 ∷ []
unfolding opened
row_value_lines = refl

-- documents read it where one of the server's levels has them; names are told in the order of their bytes
row_documents : is_shown (three [] "b") (codes "x") ≡ true
unfolding opened
row_documents = refl

row_order : (name_before (codes "a") (codes "ab") ∷ name_before (codes "b") (codes "ab") ∷ name_before (codes "a") (codes "a") ∷ []) ≡ true ∷ false ∷ false ∷ []
unfolding opened
row_order = refl

-- what `auth_request_set` sets too is not fixed, though all `set`s have one text
row_auth_sets : is_named (record (three (x_is "a") "a") { level = level (record plain { auth_sets = (codes "x", lit "b") ∷ [] }) (x_is "a") }) (codes "x") ≡ true
unfolding opened
row_auth_sets = refl
