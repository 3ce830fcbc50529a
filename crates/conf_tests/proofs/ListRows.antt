-- What words are as lists of values, row by row: each is computed by the check.
use Rattle.std.specs.Prelude.{◌≡◌, [], ◌∷◌, true, false, None, Some, codes, refl}
use Rattle.std.specs.Net.Reader.{read_number, read_octet, read_ipv4, read_segment, read_segments, read_ipv6}
use Rattle.std.specs.declared.net.ip_addr.IpAddr.TheVariants.{V4, V6}
use Rattle.access_rules.specs.declared.rule.Source.TheVariants.{All, Network}
use Rattle.site_views.specs.Views.ServerName.{Whole, Ending, Beginning, WithSubdomains}
use Rattle.site_views.specs.Values.LastTry.{ToPath, ToLocation, ToCode}
use Rattle.site_views.specs.Values.Shown.{OwnCode, Fixed, ByAnswer}
use Rattle.site_views.specs.Values.PageTarget.{AtPath, AtLocation, AtUrl}
use Rattle.site_whole.specs.Whole.{no_media}
use Rattle.conf_table.specs.declared.role.Listing.TheVariants as listings
use Rattle.conf_values.specs.Numbers.{count_to}
use Rattle.text_words.specs.Addresses.{ipv4_of, ipv6_of}
use Rattle.conf_values.specs.Texts.{pieces_of}
use Rattle.conf_values.specs.Returning.{code_of}
use Rattle.conf_values.specs.Sources.{source_of}
use Rattle.conf_values.specs.Hosts.{is_server_name}
use Rattle.conf_values.specs.Variables.{variable_in}
use Rattle.conf_values.specs.Listing.{are_listed_from, are_listed}
use Rattle.conf_lists.specs.Hosts.{name_of, or_empty, shown}
use Rattle.conf_lists.specs.Words.{index_name, front_of, last_of, tries_of, page_of, rule_of, set_of, with_types, variables_in}

-- ---- `server_name`

name-1 : name_of (codes "A.Org") ≡ Whole (codes "a.org")
unfolding name_of
name-1 = refl

name-2 : name_of (codes "*.a.org") ≡ Ending (codes ".a.org")
unfolding name_of
name-2 = refl

name-3 : name_of (codes "www.*") ≡ Beginning (codes "www.")
unfolding name_of
name-3 = refl

name-4 : name_of (codes ".a") ≡ WithSubdomains (codes ".a")
unfolding name_of
name-4 = refl

name-5 : or_empty [] ≡ Whole [] ∷ []
name-5 = refl

name-6 : shown (codes ".A.org") ≡ codes "A.org"
name-6 = refl

name-7 : is_server_name (codes "*a") ≡ false
unfolding is_server_name
name-7 = refl

name-8 : is_server_name (codes "a.*.b") ≡ false
unfolding is_server_name
name-8 = refl

name-9 : is_server_name (codes ".a.*") ≡ false
unfolding is_server_name
name-9 = refl

name-10 : is_server_name [] ≡ true
unfolding is_server_name
name-10 = refl

name-11 : is_server_name (codes ".") ≡ false
unfolding is_server_name
name-11 = refl

-- ---- `index`, `try_files`, `error_page`

index-1 : index_name (codes "/a$uri") ≡ record { text = pieces_of (codes "/a$uri"); is_path = true }
index-1 = refl

index-2 : index_name (codes "a/") ≡ record { text = pieces_of (codes "a/"); is_path = false }
index-2 = refl

tries-1 : tries_of (codes "$uri" ∷ codes "$uri/" ∷ codes "@f" ∷ []) ≡ Some (record { names = pieces_of (codes "$uri") ∷ pieces_of (codes "$uri/") ∷ []; last = ToLocation (codes "@f") })
unfolding front_of last_of
tries-1 = refl

tries-2 : tries_of (codes "a" ∷ codes "=404" ∷ []) ≡ Some (record { names = pieces_of (codes "a") ∷ []; last = ToCode 404 })
unfolding front_of last_of code_of
tries-2 = refl

tries-3 : tries_of (codes "=404" ∷ codes "/b?c" ∷ []) ≡ Some (record { names = pieces_of (codes "=404") ∷ []; last = ToPath (pieces_of (codes "/b?c")) })
unfolding front_of last_of
tries-3 = refl

page-1 : page_of (codes "404" ∷ codes "/e.html" ∷ []) ≡ Some (record { codes = 404 ∷ []; shown = OwnCode; target = AtPath (pieces_of (codes "/e.html")) })
unfolding front_of last_of code_of
page-1 = refl

page-2 : page_of (codes "500" ∷ codes "502" ∷ codes "=" ∷ codes "@f" ∷ []) ≡ Some (record { codes = 500 ∷ 502 ∷ []; shown = ByAnswer; target = AtLocation (codes "@f") })
unfolding front_of last_of code_of
page-2 = refl

page-3 : page_of (codes "403" ∷ codes "=200" ∷ codes "http://a/" ∷ []) ≡ Some (record { codes = 403 ∷ []; shown = Fixed 200; target = AtUrl (pieces_of (codes "http://a/")) })
unfolding front_of last_of code_of
page-3 = refl

-- ---- `allow`, `deny`, `auth_request_set`

rule-1 : rule_of false (codes "all" ∷ []) ≡ Some (record { allow = false; source = All })
unfolding source_of
rule-1 = refl

rule-2 : rule_of true (codes "10.0.0.0/8" ∷ []) ≡ Some (record { allow = true; source = Network (V4 (record { octets = 10 ∷ 0 ∷ 0 ∷ 0 ∷ [] })) 8 })
unfolding source_of ipv4_of read_ipv4 read_octet read_number count_to
rule-2 = refl

rule-3 : source_of (codes "10.0.0.0/33") ≡ None
unfolding source_of ipv4_of read_ipv4 read_octet read_number count_to
rule-3 = refl

rule-4 : source_of (codes "::1") ≡ Some (Network (V6 (record { segments = 0 ∷ 0 ∷ 0 ∷ 0 ∷ 0 ∷ 0 ∷ 0 ∷ 1 ∷ [] })) 128)
unfolding source_of ipv4_of ipv6_of read_ipv4 read_octet read_number read_ipv6 read_segments read_segment
rule-4 = refl

rule-5 : source_of (codes "host") ≡ None
unfolding source_of ipv4_of ipv6_of read_ipv4 read_octet read_number read_ipv6 read_segments read_segment
rule-5 = refl

set-1 : set_of (codes "$User" ∷ codes "$uri" ∷ []) ≡ Some (codes "user", pieces_of (codes "$uri"))
unfolding variable_in
set-1 = refl

-- ---- `ssi_types`, `addition_types`, `ssi_visible`

types-1 : with_types no_media (codes "a/b" ∷ codes "*" ∷ codes "c/d" ∷ []) ≡ record { every = true; types = codes "a/b" ∷ codes "c/d" ∷ [] }
types-1 = refl

visible-1 : variables_in (codes "$Host" ∷ codes "$a_1" ∷ []) ≡ codes "host" ∷ codes "a_1" ∷ []
unfolding variable_in
visible-1 = refl

visible-2 : are_listed (λ name. false) listings.SsiVisible (codes "x" ∷ []) ≡ false
unfolding are_listed_from variable_in
visible-2 = refl
