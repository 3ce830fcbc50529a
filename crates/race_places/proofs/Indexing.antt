-- Lines by the names of variables, one more.
use Rattle.std.proofs.Common.{◌≡◌, ℕ, ◌||◌, Bool, true, false, List, [], ◌∷◌, ◌++◌, bytes_eq, refl, ap, sym, ◌∙◌, subst, ⊎_elim}
use Rattle.std.proofs.lemmas.Bool.{cases_Bool}
use Rattle.std.proofs.lemmas.List.{append-nil}
use Rattle.std.proofs.lemmas.Slice.Eq.{bytes_eq-Decides}
use Rattle.std.proofs.lemmas.Map.Text.{is_eq-slice_cmp}
use Rattle.std.specs.Cmp.Lexicographic.{slice_cmp, nat_list_eq_equiv}
use Rattle.std.specs.List.{list_any, IsDistinct, AllByRecursion}
use Rattle.std.specs.Map.{lookup, KeepsOthers}
use Rattle.std.specs.Ordering.{nat_cmp, is_eq, eq_by_cmp}
use Rattle.source_lines.specs.declared.line.Line.{Line}
use Rattle.race_places.specs.Places.{keep_if}

-- one name has one line more, the others have theirs
pub put_at : (f g : List ℕ → List Line) (name : List ℕ) (line : Line) → g name ≡ f name ++ line ∷ [] →
    ((other : List ℕ) → bytes_eq name other ≡ false → g other ≡ f other) →
    (other : List ℕ) → g other ≡ f other ++ keep_if (bytes_eq name other) (line ∷ [])
put_at f g name line here others other = ⊎_elim
    (λ (hit : bytes_eq name other ≡ true).
    let same : name ≡ other = (bytes_eq-Decides name other).0 hit in
    rw hit (subst (λ n. g n ≡ f n ++ line ∷ []) same here))
    (λ (miss : bytes_eq name other ≡ false). rw miss (others other miss ∙ sym (append-nil (f other))))
    (cases_Bool (bytes_eq name other))

-- keys that are compared by their bytes
module _ {K X : Type 0} (bytes : K → List ℕ) (old new : List (K × X)) (text : List ℕ)
    (kept : KeepsOthers (eq_by_cmp (λ x y. slice_cmp nat_cmp (bytes x) (bytes y))) (λ k. is_eq (slice_cmp nat_cmp text (bytes k))) old new) where
  equal : (cs bs : List ℕ) → is_eq (slice_cmp nat_cmp cs bs) ≡ true → cs ≡ bs
  equal cs bs e = (bytes_eq-Decides cs bs).0 (sym (is_eq-slice_cmp cs bs) ∙ e)

  apart : (other key : List ℕ) → bytes_eq text other ≡ false → is_eq (slice_cmp nat_cmp text key) ≡ true → is_eq (slice_cmp nat_cmp other key) ≡ false
  apart other key n y =
      let same : text ≡ key = equal text key y in
      is_eq-slice_cmp other key ∙ nat_list_eq_equiv.symm other key ∙ subst (λ k. bytes_eq k other ≡ false) same n

  pub others_kept : (other : List ℕ) → bytes_eq text other ≡ false →
      lookup (λ k. is_eq (slice_cmp nat_cmp other (bytes k))) new ≡ lookup (λ k. is_eq (slice_cmp nat_cmp other (bytes k))) old
  unfolding KeepsOthers
  others_kept other n =
      kept (λ k. is_eq (slice_cmp nat_cmp other (bytes k))) (λ x y e. ap (λ o. is_eq (slice_cmp nat_cmp o (bytes y))) (equal other (bytes x) e)) (λ k. apart other (bytes k) n)

-- ---- a line of each of several names

module _ {K : Type 0} (bytes : K → List ℕ) where
  abbrev pub has_key : List ℕ → List K → Bool
  has_key name ks = list_any (λ k. bytes_eq name (bytes k)) ks

  abbrev pub AreApart : List K → Type 0
  AreApart ks = IsDistinct (λ a b. bytes_eq (bytes a) (bytes b)) ks

  none_again : (from : List ℕ) (ks : List K) → AllByRecursion (λ y. bytes_eq from (bytes y) ≡ false) ks → has_key from ks ≡ false
  none_again from [] h = refl
  none_again from (k ∷ ks) h = rw h.0 (none_again from ks h.1)

  module _ (name : List ℕ) (line : Line) (cur new whole : List Line) where
    abbrev kept : Bool → List Line
    kept b = keep_if b (line ∷ [])

    joined : (b here rest : Bool) → b ≡ here → (b ≡ true → rest ≡ false) → new ≡ cur ++ kept here → cur ++ kept (b || rest) ≡ whole → new ++ kept rest ≡ whole
    joined true true rest e none is w = rw (none refl) (append-nil new ∙ is ∙ w)
    joined true false rest e none is w = absurd cc
    joined false true rest e none is w = absurd cc
    joined false false rest e none is w = ap (λ n. n ++ kept rest) (is ∙ append-nil cur) ∙ w

    pub key_step : (k : K) (ks : List K) → AreApart (k ∷ ks) → new ≡ cur ++ kept (bytes_eq (bytes k) name) → cur ++ kept (has_key name (k ∷ ks)) ≡ whole → new ++ kept (has_key name ks) ≡ whole
    unfolding IsDistinct
    key_step k ks d is w =
        joined (bytes_eq name (bytes k)) (bytes_eq (bytes k) name) (has_key name ks) (nat_list_eq_equiv.symm name (bytes k))
        (λ hit. subst (λ n. has_key n ks ≡ false) (sym ((bytes_eq-Decides name (bytes k)).0 hit)) (none_again (bytes k) ks d.0)) is w
