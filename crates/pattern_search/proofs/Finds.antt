-- What a set's search says of what the site's pattern finds.
use Rattle.std.proofs.Common.{◌≡◌, ℕ, zero, suc, Bool, true, false, List, [], ◌∷◌, length, Option, Some, None, is_some, refl, sym, ◌∙◌, ap}
use Rattle.std.proofs.lemmas.Bool.{false≢true}
use Rattle.regex.specs.Patterns.{Match}
use Rattle.ngx_pattern.specs.Pattern as of_set
use Rattle.ngx_pattern.specs.Pattern.{match_of, spans_of}
use Rattle.site_views.specs.Pattern.{Span}
use Rattle.site_whole.specs.Whole as of_site
use Rattle.pattern_search.specs.Found.{pattern_seen, patterns_seen, spans_found, found, found_at, spans_if}

pattern_same : (patterns : List of_set.Pattern) (n : ℕ) → of_site.pattern_at (patterns_seen patterns) n ≡ pattern_seen (of_set.pattern_at patterns n)
pattern_same [] n = refl
pattern_same (p ∷ patterns) zero = refl
pattern_same (p ∷ patterns) (suc n) = pattern_same patterns n

found_same : (patterns : List of_set.Pattern) (n : ℕ) (bytes : List ℕ) → found_at patterns n bytes ≡ spans_found (match_of (of_set.pattern_at patterns n) bytes)
unfolding found
found_same patterns n bytes = ap (λ p. found p bytes) (pattern_same patterns n)

at_none : (o : Option Match) → is_some o ≡ false → spans_found o ≡ None
at_none None h = refl
at_none (Some m) h = absurd (false≢true (sym h))

at_some : (o : Option Match) → is_some o ≡ true → spans_found o ≡ Some (spans_of o)
at_some None h = absurd (false≢true h)
at_some (Some m) h = refl

pub ten : (o : Option Match) → length (spans_of o) ≡ 10
unfolding spans_of
ten None = refl
ten (Some m) = refl

-- what a search answered
pub spans_same : (patterns : List of_set.Pattern) (n : ℕ) (bytes : List ℕ) (r : Bool) (spans : List Span) → r ≡ of_set.is_match (of_set.pattern_at patterns n) bytes → spans ≡ of_set.spans_in (of_set.pattern_at patterns n) bytes → spans_if r spans ≡ found_at patterns n bytes
spans_same patterns n bytes true spans h e = sym (found_same patterns n bytes ∙ at_some (match_of (of_set.pattern_at patterns n) bytes) (sym h) ∙ ap Some (sym e))
spans_same patterns n bytes false spans h e = sym (found_same patterns n bytes ∙ at_none (match_of (of_set.pattern_at patterns n) bytes) (sym h))
