-- What a map has after a text got a number.
use Rattle.std.proofs.Common.{◌≡◌, ℕ, ◌<◌, ◌≤◌, true, false, List, length, Option, Some, None, is_some, if◌then◌else◌, bytes_eq, refl, sym, ap, ◌∙◌, subst, ⊎_elim, arith}
use mathlib.Core.Bool.{true≢false}
use Rattle.std.proofs.lemmas.Bool.{cases_Bool}
use Rattle.std.specs.Map.{lookup, KeepsOthers}
use Rattle.std.specs.Cmp.Lexicographic.{nat_list_eq_equiv}
use Rattle.std.proofs.lemmas.Slice.Eq.{bytes_eq-Decides}
use Rattle.site_views.specs.Choice.{or_else}

none_of : (o : Option ℕ) → is_some o ≡ false → o ≡ None
none_of None e = refl
none_of (Some x) e = absurd (true≢false e)

else_none : (o : Option ℕ) → o ≡ or_else o None
else_none None = refl
else_none (Some x) = refl

pub put-first : (f g : List ℕ → Option ℕ) (text : List ℕ) (number : ℕ) → is_some (f text) ≡ false → g text ≡ Some number →
    ((other : List ℕ) → bytes_eq text other ≡ false → g other ≡ f other) →
    (other : List ℕ) → g other ≡ or_else (f other) (if bytes_eq text other then Some number else None)
put-first f g text number absent here others other = ⊎_elim
    (λ (hit : bytes_eq text other ≡ true).
    let same : text ≡ other = (bytes_eq-Decides text other).0 hit in
    let gone : f other ≡ None = subst (λ t. f t ≡ None) same (none_of (f text) absent) in
    let there : g other ≡ Some number = subst (λ t. g t ≡ Some number) same here in
    rw hit (rw gone there))
    (λ (miss : bytes_eq text other ≡ false). rw miss (others other miss ∙ else_none (f other)))
    (cases_Bool (bytes_eq text other))

-- texts that are longer than one that got a number, and than all that had one before, have none
pub put-short : (f g : List ℕ → Option ℕ) (text : List ℕ) (number : ℕ) (old new : ℕ) →
    ((other : List ℕ) → g other ≡ or_else (f other) (if bytes_eq text other then Some number else None)) →
    ((other : List ℕ) → old < length other → f other ≡ None) → old ≤ new → length text ≤ new →
    (other : List ℕ) → new < length other → g other ≡ None
put-short f g text number old new got short longer within other beyond = ⊎_elim
    (λ (hit : bytes_eq text other ≡ true).
    let same : length text ≡ length other = ap length ((bytes_eq-Decides text other).0 hit) in
    absurd (omega (arith, same, within, beyond)))
    (λ (miss : bytes_eq text other ≡ false).
    let gone : f other ≡ None = short other (let more : old < length other = omega (arith, longer, beyond) in more) in
    got other ∙ rw miss (rw gone refl))
    (cases_Bool (bytes_eq text other))

-- keys that are compared by their bytes
module _ {K X : Type 0} (bytes : K → List ℕ) (old new : List (K × X)) (text : List ℕ)
    (kept : KeepsOthers (λ x y. bytes_eq (bytes x) (bytes y)) (λ k. bytes_eq text (bytes k)) old new) where
  apart : (cs ks : List ℕ) → bytes_eq text cs ≡ false → bytes_eq text ks ≡ true → bytes_eq cs ks ≡ false
  apart cs ks n y = nat_list_eq_equiv.symm cs ks ∙ sym (nat_list_eq_equiv.congr text ks cs y) ∙ n

  pub others-kept : (other : List ℕ) → bytes_eq text other ≡ false →
      lookup (λ k. bytes_eq other (bytes k)) new ≡ lookup (λ k. bytes_eq other (bytes k)) old
  unfolding KeepsOthers
  others-kept other n = kept _ (λ x y. nat_list_eq_equiv.congr other (bytes x) (bytes y)) (λ k. apart other (bytes k) n)
