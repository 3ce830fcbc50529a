-- Locations by their names.
use Rattle.std.proofs.Common.{◌≡◌, ℕ, ◌≤◌, true, false, List, [], ◌∷◌, ◌++◌, map, length, drop, find, Some, option_map, bytes_eq, cond, refl, sym, ap, ◌∙◌}
use Rattle.std.proofs.lemmas.List.{append-nil, drop_all}
use Rattle.pattern_search.specs.site_model.declared.site.Site.{Site}
use Rattle.pattern_search.specs.site_model.declared.site.NamedLocation.{NamedLocation}
use Rattle.pattern_search.specs.site_model.declared.site.Server.{Server}
use Rattle.pattern_search.specs.site_views.Pattern.{Pattern}
use Rattle.pattern_search.specs.site_views.Views.{NamedView}
use Rattle.pattern_search.specs.site_views.Search.{named}
use Rattle.pattern_search.specs.site_whole.Whole.{named_whole, level_whole, server_whole}
use Rattle.location_match.specs.Numbers.{number_in}
use Rattle.location_search.specs.Names.{level_named}
use Rattle.location_match.specs.declared.texts.NumberedText.{NumberedText}

abbrev pub text_named : NamedLocation → NumberedText
text_named l = record { text = l.name; number = l.level }

abbrev pub texts_named : List NamedLocation → List NumberedText
texts_named = map text_named

pub named-number : (ls : List NamedLocation) (name : List ℕ) → number_in (texts_named ls) name ≡ level_named ls name
named-number [] name = refl
named-number (l ∷ ls) name =
    elim (bytes_eq l.name name) as (λ b. option_map (λ (t : NumberedText). t.number) (cond b (Some (text_named l)) (find (λ (t : NumberedText). bytes_eq t.text name) (texts_named ls)))
    ≡ option_map (λ (x : NamedLocation). x.level) (cond b (Some l) (find (λ (x : NamedLocation). bytes_eq x.name name) ls)))
    [ true ↦ refl | false ↦ named-number ls name ]

pub named-all : (names : List NumberedText) (ls : List NamedLocation) (n : ℕ) → length ls ≤ n → names ++ texts_named (drop n ls) ≡ texts_named ls →
    names ≡ texts_named ls
named-all names ls n le e = sym (append-nil names) ∙ ap (λ l. names ++ texts_named l) (sym (drop_all n ls le)) ∙ e

-- a name leads to the level that the meaning has for it
pub named-level : (patterns : List Pattern) (site : Site) (ls : List NamedLocation) (name : List ℕ) →
    option_map (level_whole patterns site) (level_named ls name)
    ≡ option_map (λ (n : NamedView). n.level) (find (λ (n : NamedView). bytes_eq n.name name) (map (named_whole patterns site) ls))
named-level patterns site [] name = refl
named-level patterns site (l ∷ ls) name =
    elim (bytes_eq l.name name) as (λ b. option_map (level_whole patterns site) (option_map (λ (x : NamedLocation). x.level) (cond b (Some l) (find (λ (x : NamedLocation). bytes_eq x.name name) ls)))
    ≡ option_map (λ (n : NamedView). n.level) (cond b (Some (named_whole patterns site l)) (find (λ (n : NamedView). bytes_eq n.name name) (map (named_whole patterns site) ls))))
    [ true ↦ refl | false ↦ named-level patterns site ls name ]

pub server-named : (patterns : List Pattern) (site : Site) (s : Server) (name : List ℕ) →
    option_map (level_whole patterns site) (level_named s.named.items name) ≡ named (server_whole patterns site s) name
unfolding named server_whole
server-named patterns site s name = named-level patterns site s.named.items name
