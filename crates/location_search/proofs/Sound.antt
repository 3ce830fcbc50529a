-- Where a regular expression matched, its groups lie within the path.
use Rattle.std.proofs.Common.{◌≡◌, ℕ, nat_lt, Bool, true, false, List, Option, Some, None, option_map, option_and_then, cond, refl, arith, IfSome}
use Rattle.pattern_search.specs.site_views.Pattern.{Span}
use Rattle.location_search.specs.Found.{AreSpans, HasSpans, below, remembering, goes_on, with_groups, found_of}
use Rattle.location_search.specs.declared.node.PatternLocation.{PatternLocation}
use Rattle.location_search.specs.declared.search.FoundLocation.{FoundLocation}
use Rattle.location_search.specs.declared.search.Sought.{Sought}
use Rattle.location_search.specs.declared.search.Sought.TheVariants.{Ends, Remembers}

module _ (path : List ℕ) (spans : List Span) where
  pub remembering-sound : (own : Option ℕ) (s : Sought) → HasSpans path s spans → HasSpans path (remembering own s) spans
  remembering-sound own (Ends f) h = h
  remembering-sound None (Remembers level) h = tt
  remembering-sound (Some own) (Remembers level) h = tt

  pub rests-sound : (s : Sought) (firm : Bool) → goes_on s firm ≡ true → HasSpans path s spans
  rests-sound (Ends f) firm h = absurd (grind (arith, h))
  rests-sound (Remembers level) firm h = tt

  pub found-sound : (s : Sought) → HasSpans path s spans → IfSome (found_of s) (λ (f : FoundLocation). f.matched ≡ true → AreSpans path spans)
  found-sound (Ends f) h = h
  found-sound (Remembers None) h = tt
  found-sound (Remembers (Some n)) h = λ e. absurd (grind (arith, e))

pub groups-sound : (path : List ℕ) (own : ℕ) (s : Sought) (spans inner : List Span) → AreSpans path spans → HasSpans path s inner →
    AreSpans path (with_groups own s spans inner).1
groups-sound path own (Ends f) spans inner a h =
    elim f.matched as (λ b. (b ≡ true → AreSpans path inner) → AreSpans path (cond b inner spans)) [ true ↦ λ g. g refl | false ↦ λ g. a ] h
groups-sound path own (Remembers None) spans inner a h = a
groups-sound path own (Remembers (Some n)) spans inner a h = a

pub some-sound : (f : ℕ → Option ℕ) (P : Type 0) (o : Option ℕ) (n : ℕ) → option_and_then f o ≡ Some n → IfSome o (λ _. P) → P
some-sound f P None n e h = absurd (grind (arith, e))
some-sound f P (Some m) n e h = h

pub below-sound : (P : Type 0) (bound : ℕ) (first : Option PatternLocation) → IfSome first (λ _. P) → IfSome (below bound (option_map (λ (l : PatternLocation). l.number) first)) (λ _. P)
below-sound P bound None h = tt
below-sound P bound (Some l) h = elim (nat_lt l.number bound) as (λ b. IfSome (cond b (Some l.number) None) (λ _. P)) [ true ↦ h | false ↦ tt ]
