-- Which rule applies to an error, and whether one does.
use Rattle.std.proofs.Common.{◌≡◌, ℕ, nat_lt, nat_le, ◌&&◌, ◌||◌, eqb, Bool, true, false, not, cond, List, [], ◌∷◌, Option, None, Some, is_some, refl, sym, ◌∙◌, ap, arith}
use Rattle.std.proofs.lemmas.Bool.{false≢true}
use Rattle.std.specs.List.{list_any, find}
use Rattle.site_whole.specs.site_views.Values.{PageRule}
use Rattle.request_meaning.specs.Errors.{rule_for}
use Rattle.error_pages.specs.Pages.{names_code, applies, has_no_page}

find_some : (p : PageRule → Bool) (rules : List PageRule) → is_some (find p rules) ≡ list_any p rules
find_some p [] = refl
find_some p (r ∷ rules) = elim (p r) as (λ b. is_some (cond b (Some r) (find p rules)) ≡ (b || list_any p rules)) [ true ↦ refl | false ↦ find_some p rules ]

-- a code is below 400 or not
below_or_not : (code : ℕ) → nat_lt code 400 ≡ not (nat_le 400 code)
below_or_not code = grind arith

found_from : (b : Bool) (o : Option PageRule) (named : Bool) → is_some o ≡ named → is_some (cond b o None) ≡ not (not b || not named)
found_from true o true e = e
found_from true o false e = e
found_from false o true e = refl
found_from false o false e = refl

pub rule_some : (rules : List PageRule) (code : ℕ) → is_some (rule_for rules code) ≡ not (nat_lt code 400 || not (list_any (names_code code) rules))
unfolding rule_for
rule_some rules code = rw (below_or_not code) (found_from (nat_le 400 code) (find (names_code code) rules) (list_any (names_code code) rules) (find_some (names_code code) rules))

-- where none may apply there is none
shut : (over used recursive other : Bool) → (not over && (recursive || not used)) ≡ false → (over || (used && not recursive) || other) ≡ true
shut true used recursive other e = refl
shut false true true other e = absurd (false≢true (sym e))
shut false true false other e = refl
shut false false true other e = absurd (false≢true (sym e))
shut false false false other e = absurd (false≢true (sym e))

still_open : (over used recursive other : Bool) → (not over && (recursive || not used)) ≡ true → (over || (used && not recursive) || other) ≡ other
still_open true used recursive other e = absurd (false≢true e)
still_open false true true other e = refl
still_open false true false other e = absurd (false≢true e)
still_open false false true other e = refl
still_open false false false other e = refl

turned : (b : Bool) → true ≡ not b → b ≡ false
turned true e = e
turned false e = refl

module _ (rules : List PageRule) (code left : ℕ) (used recursive : Bool) where
  pub none_applies : applies left used recursive ≡ false → has_no_page rules code left used recursive ≡ true
  none_applies e = shut (eqb left 0) used recursive (nat_lt code 400 || not (list_any (names_code code) rules)) e

  pub one_applies : applies left used recursive ≡ true → is_some (rule_for rules code) ≡ not (has_no_page rules code left used recursive)
  one_applies e = rule_some rules code ∙ ap not (sym (still_open (eqb left 0) used recursive (nat_lt code 400 || not (list_any (names_code code) rules)) e))

  pub there_is : (r : PageRule) → applies left used recursive ≡ true → rule_for rules code ≡ Some r → has_no_page rules code left used recursive ≡ false
  there_is r e g = turned (has_no_page rules code left used recursive) (ap is_some (sym g) ∙ one_applies e)
