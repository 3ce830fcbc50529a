-- Rows of servers and locations.
use Rattle.std.specs.Prelude.{◌≡◌, ℕ, nat_eq, Bool, true, false, List, [], ◌∷◌, codes, length, refl, Option, Some, None, option_map, if◌then◌else◌}
use Rattle.std.specs.List.{starts_with}
use Prim.Native.String.{String}
use Rattle.http_types.specs.declared.words.Addr.{Addr}
use Rattle.meaning_rows.proofs.Opened.{opened}
use Rattle.meaning_rows.proofs.Samples.{plain, level, server, world, none, get, shows, gives, at, lit, ipv4}
use Rattle.request_meaning.specs.Serving.{World}
use Rattle.error_page.specs.Page.{page_of}
use Rattle.site_views.specs.Pattern.{Finds, Pattern}
use Rattle.ngx_variables.specs.declared.value.Piece.TheVariants.{Group}
use Rattle.site_views.specs.Choice.{server_of}
use Rattle.site_views.specs.Rewrites.{Program}
use Rattle.site_views.specs.Rewrites.Directive.{Return}
use Rattle.site_views.specs.Views.{ServerView, ServerName}
use Rattle.site_views.specs.Views.ServerName.{Whole, Ending, Beginning, WithSubdomains, Like}
use Rattle.site_views.specs.Views.Matching.{Exactly, Prefix, FirmPrefix, Regex}
use Rattle.site_views.specs.Views.Locations.{NoMore, Location}

abbrev pub answers : String → Program
answers text = Return 200 (Some (lit text)) ∷ []

-- a pattern that is a text at the front, as it is written after `^`
abbrev pub front : String → Pattern
front text = record { text = codes text; nocase = false }

abbrev pub finds_front : Finds
finds_front p bytes = if starts_with nat_eq bytes p.text then Some (Some (0, length p.text) ∷ []) else None

-- `= /a` is 1, `^~ /a/` is 2, `~ ^/a` is 3, `/a/b/` is 4
abbrev pub four : World
four = record (world (server (level plain [])
    (at (Exactly (codes "/a")) plain (answers "1")
    (at (FirmPrefix (codes "/a/")) plain (answers "2")
    (at (Regex (front "/a")) plain (answers "3")
    (at (Prefix (codes "/a/b/")) plain (answers "4") NoMore)))))) { finds = finds_front }

row_exact : shows (get four none "/a") ≡ gives 200 "1"
unfolding opened
row_exact = refl

row_regex : shows (get four none "/a/b/c") ≡ gives 200 "3"
unfolding opened
row_regex = refl

row_firm : shows (get four none "/a/c") ≡ gives 200 "2"
unfolding opened
row_firm = refl

row_regex_alone : shows (get four none "/ab") ≡ gives 200 "3"
unfolding opened
row_regex_alone = refl

row_none : shows (get four none "/b") ≡ record { status = 404; body = page_of 404; location = None; closes = false }
unfolding opened
row_none = refl

-- prefixes alone
abbrev pub five : World
five = world (server (level plain [])
    (at (Prefix (codes "/")) plain (answers "/")
    (at (Prefix (codes "/a")) plain (answers "/a")
    (at (Prefix (codes "/ab")) plain (answers "/ab")
    (at (Prefix (codes "/abc")) plain (answers "/abc")
    (at (Prefix (codes "/b")) plain (answers "/b") NoMore))))))

row_longest : shows (get five none "/abd") ≡ gives 200 "/ab"
unfolding opened
row_longest = refl

row_longer : shows (get five none "/ac") ≡ gives 200 "/a"
unfolding opened
row_longer = refl

row_shortest : shows (get five none "/c") ≡ gives 200 "/"
unfolding opened
row_shortest = refl

-- an inner prefix is remembered, and an outer regular expression comes before it
abbrev pub nested : World
nested = record (world (server (level plain [])
    (Location (record { matching = Prefix (codes "/x"); level = level plain (answers "x") }) (at (Prefix (codes "/x/y")) plain (answers "xy") (at (Exactly (codes "/x/e")) plain (answers "xe") NoMore))
    (at (Regex (front "/x/y/z")) plain (answers "r") NoMore)))) { finds = finds_front }

row_nested : (shows (get nested none "/x/y") ∷ shows (get nested none "/x/e") ∷ shows (get nested none "/x/y/z") ∷ shows (get nested none "/x") ∷ []) ≡ (gives 200 "xy" ∷ gives 200 "xe" ∷ gives 200 "r" ∷ gives 200 "x" ∷ [])
unfolding opened
row_nested = refl

-- servers named a.org, *.a.org, www.*, ~^w
abbrev pub named : ServerName → String → ServerView
named name text = record (server (level plain (answers text)) NoMore) { names = name ∷ []; first_name = codes text }

abbrev pub servers : List ServerView
servers = named (Whole (codes "a.org")) "1" ∷ named (Ending (codes ".a.org")) "2" ∷ named (Beginning (codes "www.")) "3" ∷ named (Like (front "w")) "4" ∷ []

abbrev pub local : Addr
local = record { ip = ipv4 127 0 0 1; port = 80 }

abbrev pub chosen : String → Option (List ℕ)
chosen host = option_map (λ (s : ServerView). s.first_name) (server_of finds_front servers local (codes host))

row_names : (chosen "a.org" ∷ chosen "b.a.org" ∷ chosen "www.a.org" ∷ chosen "www.z.net" ∷ chosen "w1.net" ∷ chosen "q.net" ∷ []) ≡ (Some (codes "1") ∷ Some (codes "2") ∷ Some (codes "2") ∷ Some (codes "3") ∷ Some (codes "4") ∷ Some (codes "1") ∷ [])
unfolding opened
row_names = refl

-- no server listens there
row_no_server : server_of finds_front servers (record { ip = ipv4 127 0 0 1; port = 81 }) (codes "a.org") ≡ None
unfolding opened
row_no_server = refl

-- of names of one kind the longest is taken, and of those that are as long the first
abbrev pub long_names : List ServerView
long_names = named (Ending (codes ".org")) "1" ∷ named (Ending (codes ".a.org")) "2" ∷ named (WithSubdomains (codes ".b.org")) "3" ∷ named (Beginning (codes "x.")) "4" ∷ named (Beginning (codes "x.a.")) "5" ∷ named (Ending (codes ".a.org")) "6" ∷ []

abbrev pub chosen_of : List ServerView → String → Option (List ℕ)
chosen_of list host = option_map (λ (s : ServerView). s.first_name) (server_of finds_front list local (codes host))

row_longest_name : (chosen_of long_names "q.a.org" ∷ chosen_of long_names "q.org" ∷ chosen_of long_names "b.org" ∷ chosen_of long_names "q.b.org" ∷ chosen_of long_names "x.a.net" ∷ chosen_of long_names "x.net" ∷ chosen_of long_names ".a.org" ∷ []) ≡ (Some (codes "2") ∷ Some (codes "1") ∷ Some (codes "3") ∷ Some (codes "3") ∷ Some (codes "5") ∷ Some (codes "4") ∷ Some (codes "1") ∷ [])
unfolding opened
row_longest_name = refl

-- where no name fits, the default server of the address answers; and an address that is listened on itself comes before the wildcard
abbrev pub listening : Addr → (default : Bool) → String → ServerView
listening addr default text = record (named (Whole (codes text)) text) { listens = record { addr = addr; default = default } ∷ [] }

abbrev pub everywhere : Addr
everywhere = record { ip = ipv4 0 0 0 0; port = 80 }

abbrev pub ends_of : Addr → List ServerView → Option (List ℕ)
ends_of end list = option_map (λ (s : ServerView). s.first_name) (server_of finds_front list end (codes "q"))

row_default : (ends_of local (listening everywhere false "1" ∷ listening everywhere true "2" ∷ []) ∷ ends_of local (listening everywhere false "1" ∷ listening local false "2" ∷ []) ∷ ends_of (record { ip = ipv4 10 0 0 9; port = 80 }) (listening local true "1" ∷ listening everywhere false "2" ∷ []) ∷ []) ≡ (Some (codes "2") ∷ Some (codes "2") ∷ Some (codes "2") ∷ [])
unfolding opened
row_default = refl

-- a server that is the default of another address is not that of this one
row_other_default : ends_of local (listening local false "1" ∷ record (listening local false "2") { listens = record { addr = local; default = false } ∷ record { addr = record { ip = ipv4 127 0 0 1; port = 81 }; default = true } ∷ [] } ∷ []) ≡ Some (codes "1")
unfolding opened
row_other_default = refl

-- the groups of a regular expression within another are those that hold; an inner location without groups leaves those around it
abbrev pub finds_rest : Finds
finds_rest p bytes = if starts_with nat_eq bytes p.text then Some (Some (0, length bytes) ∷ Some (length p.text, length bytes) ∷ []) else None

abbrev pub first_group : Program
first_group = Return 200 (Some (Group 1 ∷ [])) ∷ []

abbrev pub grouping : World
grouping = record (world (server (level plain [])
    (Location (record { matching = Regex (front "/a"); level = level plain first_group })
    (at (Regex (front "/ab")) plain first_group (at (Prefix (codes "/ac")) plain first_group NoMore)) NoMore))) { finds = finds_rest }

row_groups : (shows (get grouping none "/abx") ∷ shows (get grouping none "/acx") ∷ shows (get grouping none "/adx") ∷ []) ≡ gives 200 "x" ∷ gives 200 "cx" ∷ gives 200 "dx" ∷ []
unfolding opened
row_groups = refl
