-- How many locations the servers of a site have.
use Rattle.std.proofs.Common.{◌≡◌, ℕ, suc, ◌+◌, ◌-◌, ◌^◌, ◌<◌, ◌≤◌, nat_lt, true, false, cond, List, [], ◌∷◌, length, drop, get_or, refl, sym, ap, ◌∙◌, arith, add-one, drop-cons}
use Rattle.std.proofs.lemmas.List.{at_drop_all, length-map}
use Rattle.std.specs.Prelude.{map, min}
use Rattle.site_model.specs.declared.site.Location.{Location as CodeLocation}
use Rattle.site_model.specs.declared.site.Server.{Server}
use Rattle.conf_inherit.specs.declared.site.Built.{Built}
use Rattle.site_views.specs.Views.{ServerView}
use Rattle.site_whole.specs.Whole.{whole, Nested, inside, outside, nested, locations_whole, server_whole}
use Rattle.conf_inherit.specs.Pools.{patterns_in, named_built, server_built, site_built}
use Rattle.site_whole.specs.Whole.Nested.{NoneLeft, Nest}
use Rattle.report_text.specs.Counts.{counts_text}
use Rattle.ngx_cli.specs.Checks.{count_of, locations_of, counts_of}

unfoldable size : Nested → ℕ
size NoneLeft = 0
size (Nest l inner later) = 1 + (size inner + size later)

seen_size : (site : Built) (f : Nested) → count_of (locations_whole (patterns_in site) site.site f) ≡ size f
unfolding count_of locations_whole size
seen_size site NoneLeft = refl
seen_size site (Nest l inner later) = ap (λ n. 1 + (n + count_of (locations_whole (patterns_in site) site.site later))) (seen_size site inner) ∙ ap (λ n. 1 + (size inner + n)) (seen_size site later)

parts_size : (d : ℕ) (f : Nested) → size (inside d f) + size (outside d f) ≡ size f
unfolding size inside outside
parts_size d NoneLeft = refl
parts_size d (Nest l inner later) =
    elim (nat_lt d l.depth) as (λ t. size (cond t (Nest l inner (inside d later)) NoneLeft) + size (cond t (outside d later) (Nest l inner later)) ≡ 1 + (size inner + size later)) [
      | true ↦ omega (arith, parts_size d later)
      | false ↦ omega arith
    ]

nested_size : (ls : List CodeLocation) → size (nested ls) ≡ length ls
unfolding size nested
nested_size [] = refl
nested_size (l ∷ ls) = omega (arith, parts_size l.depth (nested ls), nested_size ls)

abbrev own_of : Server → ℕ
own_of s = length s.locations.items + length s.named.items

server_count : (site : Built) (s : Server) → count_of (server_built site s).locations + length (server_built site s).named ≡ own_of s
unfolding server_whole
server_count site s =
    ap (λ n. n + length (map (named_built site) s.named.items)) (seen_size site (nested s.locations.items) ∙ nested_size s.locations.items)
    ∙ ap (λ n. length s.locations.items + n) (length-map s.named.items (named_built site))

abbrev counted : Built → List Server → ℕ
counted site servers = locations_of (map (server_built site) servers)

min_behind : (a b c m : ℕ) → min (min (a + min b m) m + c) m ≡ min (a + (b + c)) m
min_behind a b c m = omega arith

first_step : (site : Built) (s : Server) (rest : List Server) → counted site (s ∷ rest) ≡ (count_of (server_built site s).locations + length (server_built site s).named) + counted site rest
unfolding locations_of
first_step site s rest = refl

first_counts : (site : Built) (s : Server) (rest : List Server) → counted site (s ∷ rest) ≡ own_of s + counted site rest
first_counts site s rest = first_step site s rest ∙ ap (λ n. n + counted site rest) (server_count site s)

none_behind : (site : Built) (servers : List Server) (i : ℕ) → length servers ≤ i → counted site (drop i servers) ≡ 0
unfolding locations_of
none_behind site servers i past = at_drop_all (λ ss. counted site ss) servers i past

-- one server more
pub counts_step : (site : Built) (servers : List Server) (i : ℕ) (s : Server) (count own count' m all : ℕ) → i < length servers → s ≡ get_or servers i s → own ≡ min (own_of s) m → count' ≡ min (count + own) m →
    min (count + counted site (drop i servers)) m ≡ all → min (count' + counted site (drop (i + 1) servers)) m ≡ all
counts_step site servers i s count own count' m all within at of is so_far =
    let here : drop i servers ≡ s ∷ drop (i + 1) servers = rw (add-one, drop-cons servers i s within) (ap (λ x. x ∷ drop (suc i) servers) (sym at)) in
    ap (λ n. min (n + counted site (drop (i + 1) servers)) m) (is ∙ ap (λ n. min (count + n) m) of)
    ∙ min_behind count (own_of s) (counted site (drop (i + 1) servers)) m
    ∙ ap (λ n. min (count + n) m) (sym (ap (λ ss. counted site ss) here ∙ first_counts site s (drop (i + 1) servers))) ∙ so_far

-- after the last server
pub counts_end : (site : Built) (servers : List Server) (i count m all : ℕ) → length servers ≤ i → count ≤ m →
    min (count + counted site (drop i servers)) m ≡ all → count ≡ all
counts_end site servers i count m all past fits so_far =
    let none : counted site (drop i servers) ≡ 0 = none_behind site servers i past in
    omega arith

-- the servers of the whole site
pub whole_servers : (site : Built) → (site_built site).servers ≡ map (server_built site) site.site.servers.items
unfolding whole
whole_servers site = refl

pub counts_are : (site : Built) (n m : ℕ) → n ≡ length site.site.servers.items → m ≡ min (locations_of (site_built site).servers) (2 ^ 64 - 1) → counts_text n m ≡ counts_of (site_built site)
counts_are site n m e f =
    ap (λ k. counts_text k m) (e ∙ (sym (length-map site.site.servers.items (server_built site)) ∙ ap length (sym (whole_servers site))))
    ∙ ap (counts_text (length (site_built site).servers)) f
