-- A server's locations by lists are as the meaning has them.
use Rattle.std.proofs.Common.{◌≡◌, ℕ, nat_lt, true, false, List, [], ◌∷◌, cond, refl, sym, ap, ap₂, ◌∙◌}
use Rattle.pattern_search.specs.site_model.declared.site.Site.{Site}
use Rattle.pattern_search.specs.site_model.declared.site.Location.{Location as CodeLocation}
use Rattle.pattern_search.specs.site_model.declared.site.Server.{Server}
use Rattle.pattern_search.specs.site_views.Pattern.{Pattern}
use Rattle.pattern_search.specs.site_views.Views.Locations.{Location}
use Rattle.pattern_search.specs.site_whole.Whole.{Nested, inside as inside_of, outside as outside_of, nested, locations_whole, location_whole, server_whole}
use Rattle.pattern_search.specs.site_whole.Whole.Nested.{NoneLeft as NoneIn, Nest as NestIn}
use Rattle.location_search.specs.Lists.{Numbered, inside, outside, numbered}
use Rattle.location_search.specs.Lists.Numbered.{NoneLeft, Nest}
use Rattle.location_search.specs.Found.{locations_in}

bare : Numbered → Nested
bare NoneLeft = NoneIn
bare (Nest n l inner later) = NestIn l (bare inner) (bare later)

bare-inside : (d : ℕ) (t : Numbered) → bare (inside d t) ≡ inside_of d (bare t)
unfolding bare inside inside_of
bare-inside d NoneLeft = refl
bare-inside d (Nest n l inner later) =
    elim (nat_lt d l.depth) as (λ b. bare (cond b (Nest n l inner (inside d later)) NoneLeft) ≡ cond b (NestIn l (bare inner) (inside_of d (bare later))) NoneIn)
    [ true ↦ ap (NestIn l (bare inner)) (bare-inside d later) | false ↦ refl ]

bare-outside : (d : ℕ) (t : Numbered) → bare (outside d t) ≡ outside_of d (bare t)
unfolding bare outside outside_of
bare-outside d NoneLeft = refl
bare-outside d (Nest n l inner later) =
    elim (nat_lt d l.depth) as (λ b. bare (cond b (outside d later) (Nest n l inner later)) ≡ cond b (outside_of d (bare later)) (NestIn l (bare inner) (bare later)))
    [ true ↦ bare-outside d later | false ↦ refl ]

bare-numbered : (ls : List CodeLocation) → bare (numbered ls) ≡ nested ls
unfolding bare numbered nested
bare-numbered [] = refl
bare-numbered (l ∷ ls) =
    ap₂ (NestIn l) (bare-inside l.depth (numbered ls) ∙ ap (inside_of l.depth) (bare-numbered ls))
    (bare-outside l.depth (numbered ls) ∙ ap (outside_of l.depth) (bare-numbered ls))

whole-bare : (patterns : List Pattern) (site : Site) (t : Numbered) → locations_in patterns site t ≡ locations_whole patterns site (bare t)
unfolding bare locations_in locations_whole
whole-bare patterns site NoneLeft = refl
whole-bare patterns site (Nest n l inner later) =
    ap₂ (Location (location_whole patterns site l)) (whole-bare patterns site inner) (whole-bare patterns site later)

pub locations-are : (patterns : List Pattern) (site : Site) (ls : List CodeLocation) → locations_in patterns site (numbered ls) ≡ locations_whole patterns site (nested ls)
locations-are patterns site ls = whole-bare patterns site (numbered ls) ∙ ap (locations_whole patterns site) (bare-numbered ls)

pub server-locations : (patterns : List Pattern) (site : Site) (s : Server) → (server_whole patterns site s).locations ≡ locations_in patterns site (numbered s.locations.items)
unfolding server_whole
server-locations patterns site s = sym (locations-are patterns site s.locations.items)
