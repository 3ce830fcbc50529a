-- The machine puts Before first and After last.
use Rattle.std.proofs.Common.{◌≡◌, ℕ, Bool, true, false, ◌==◌, List, [], ◌∷◌, ◌++◌, refl, ap, ◌∙◌, arith, if◌then◌else◌}
use Rattle.filter_api.specs.ssi_text.declared.part.Part.TheVariants.{Before, After}
use Rattle.filter_api.specs.ssi_text.Marks.{Mark, Other}
use Rattle.filter_api.specs.declared.facts.Facts.{Facts}
use Rattle.filter_api.specs.declared.facts.FilterState.{FilterState}
use Rattle.filter_api.specs.Members.{Machine, IsLawful, feeds, whole, fresh}
use Rattle.addition_filter.specs.Machine.{begun, addition_step, addition_finish, addition_machine, addition_member, is_nothing}

step_on : (s : FilterState) (x : Mark) → (s.count == 0) ≡ false → addition_step s x ≡ (s, x ∷ [])
step_on s x e = ap (λ t. if t then (let a : FilterState × List Mark = (begun s, Other Before ∷ x ∷ []) in a) else (s, x ∷ [])) e

step_first : (s : FilterState) (x : Mark) → (s.count == 0) ≡ true → addition_step s x ≡ (begun s, Other Before ∷ x ∷ [])
step_first s x e = ap (λ t. if t then (let a : FilterState × List Mark = (begun s, Other Before ∷ x ∷ []) in a) else (s, x ∷ [])) e

-- after the first mark it passes all on
pub feeds-on : (facts : Facts) (s : FilterState) (xs : List Mark) → (s.count == 0) ≡ false → feeds (addition_machine facts) s xs ≡ (s, xs)
feeds-on facts s [] e = refl
feeds-on facts s (x ∷ xs) e = ap (λ a. let b = feeds (addition_machine facts) a.0 xs in (b.0, a.1 ++ b.1)) (step_on s x e) ∙ ap (λ b. (b.0, x ∷ b.1)) (feeds-on facts s xs e)

pub feeds-first : (facts : Facts) (s : FilterState) (xs : List Mark) → (s.count == 0) ≡ true → is_nothing xs ≡ false → feeds (addition_machine facts) s xs ≡ (begun s, Other Before ∷ xs)
feeds-first facts s [] e f = cc
feeds-first facts s (x ∷ xs) e f = ap (λ a. let b = feeds (addition_machine facts) a.0 xs in (b.0, a.1 ++ b.1)) (step_first s x e) ∙ ap (λ b. (b.0, Other Before ∷ x ∷ b.1)) (feeds-on facts (begun s) xs refl)

surrounded : (facts : Facts) (xs : List Mark) → whole (addition_machine facts) xs ≡ Other Before ∷ (xs ++ Other After ∷ [])
surrounded facts [] = refl
surrounded facts (x ∷ xs) = ap (λ a. a.1 ++ addition_finish a.0) (feeds-first facts fresh (x ∷ xs) refl refl)

pub addition_lawful : IsLawful addition_member
addition_lawful = record {
  splits = λ e facts document. absurd (omega (arith, e));
  surrounds = λ e facts xs. surrounded facts xs;
  keeps = λ h facts xs. absurd (omega (arith, h));
}
