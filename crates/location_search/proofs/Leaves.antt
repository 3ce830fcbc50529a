-- A list with no location.
use Rattle.std.proofs.Common.{◌≡◌, ℕ, List, [], None, refl, ap}
use Rattle.ngx_pattern.specs.Pattern.{Pattern as SetPattern}
use Rattle.pattern_search.specs.site_views.Pattern.{Span}
use Rattle.location_match.specs.Prefixes.{PrefixList}
use Rattle.location_match.specs.Numbers.{first_number, number_of}
use Rattle.location_search.specs.Found.{IsFirstMatch}

-- no regular expression matches
pub no-match : (patterns : List SetPattern) (path : List ℕ) (bound : ℕ) (spans : List Span) → IsFirstMatch patterns path bound [] None spans
no-match patterns path bound spans = record { first = None; is = refl; number_is = refl; finds = tt }

-- no text leads anywhere
pub no-number : (list : PrefixList) → list.texts ≡ [] → (text : List ℕ) → number_of list text ≡ None
unfolding first_number
no-number list none text = ap (λ texts. first_number texts list.locations text) none
